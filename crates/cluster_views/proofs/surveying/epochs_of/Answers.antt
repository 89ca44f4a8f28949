use Rattle.std.proofs.Common.{◌≡◌, ◌<◌, ◌+◌, ◌++◌, ◌∷◌, [], ℕ, List, length, map, append_assoc, sym, ap, ◌∙◌, arith}
use Rattle.cluster_views.specs.Surveying.{Views, epoch_at}
use Rattle.server_commands.specs.declared.book.Server.{Server}
use Rattle.cluster_views.proofs.Firsts.{from_first, from_next, numbers_from}
use Rattle.cluster_views.proofs.surveying.epochs_of.Goals as goal

abbrev own_epoch : List Server → Views → ℕ → ℕ
own_epoch b views m = epoch_at b views m m

pub loop-number-init : goal.loop-number-init
loop-number-init c =
    let f = own_epoch c.args.book.now c.args.views.now in
    let n = length c.args.book.now in
    ap (map f) (from_first n) ∙ ap (λ (xs : List ℕ). xs ++ map f (numbers_from n 0)) (sym c.new-epochs.ensures.items)

pub loop-number-preserved : goal.loop-number-preserved
loop-number-preserved c =
    let f = own_epoch c.args.book.now c.args.views.now in
    let n = length c.args.book.now in
    let i = c.loop-number.number in
    let before = c.loop-number.epochs.items in
    let after = map f (numbers_from n (i + 1)) in
    let lt : i < n = omega arith in
    let here : f i ≡ c.own_epoch.result = sym (c.own_epoch.ensures ∙ ap f c.of-node.ensures) in
    c.loop-number.invariant
    ∙ ap (λ (xs : List ℕ). before ++ map f xs) (from_next n i lt)
    ∙ sym (append_assoc before (f i ∷ []) after)
    ∙ ap (λ (xs : List ℕ). xs ++ after)
    (ap (λ (x : ℕ). before ++ x ∷ []) here ∙ sym c.in_ok-push.ensures.items)
