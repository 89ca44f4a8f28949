use Rattle.std.proofs.Common.{◌≡◌, ◌<◌, ◌++◌, ℕ, arith, subst, sym}
use Rattle.std.specs.List.{flat_map}
use Rattle.cluster_views.specs.Numbers.{numbers_to}
use Rattle.cluster_views.proofs.Firsts.{numbers_from}
use Rattle.plan_previews.specs.Standing.{open_at}
use Rattle.plan_previews.proofs.Flat.{flat_end, flat_first, flat_more}
use Rattle.plan_previews.proofs.standing.open_slots_in.Goals as goal

pub loop-number-init : goal.loop-number-init
loop-number-init c = λ phases shows.
    let n : ℕ = 16384 in
    subst (λ xs. flat_map (λ s. open_at s (phases s)) (numbers_to n) ≡ xs ++ flat_map (λ s. open_at s (phases s)) (numbers_from n 0))
    (sym c.new-slots.ensures.items) (flat_first (λ s. open_at s (phases s)) n)

pub loop-number-preserved : goal.loop-number-preserved
loop-number-preserved c = λ phases shows.
    let n : ℕ = 16384 in
    let within : c.of.result < n = subst (λ k. k < n) (sym c.of.ensures) (omega arith) in
    flat_more (λ s. open_at s (phases s)) n c.loop-number.number c.of.result (flat_map (λ s. open_at s (phases s)) (numbers_to n))
    c.loop-number.slots.items c.put_open.new.slots.items (omega arith) c.of.ensures (c.loop-number.invariant phases shows)
    (c.in_ok-put_open.ensures (phases c.of.result) (shows c.of.result within))

pub returns : goal.returns
returns c = λ phases shows.
    let n : ℕ = 16384 in
    flat_end (λ s. open_at s (phases s)) n c.loop-number.number (flat_map (λ s. open_at s (phases s)) (numbers_to n))
    c.loop-number.slots.items (omega arith) (c.loop-number.invariant phases shows)
