use Rattle.std.proofs.Common.{true, Ok, Err, ap, sym, ◌∙◌, refl}
use Rattle.store_commands.specs.Replies.{truth}
use Rattle.store_commands.specs.declared.effect.Effect.TheVariants as effect
use Rattle.store_commands.proofs.Stores.{equal_keys, apart_by}
use Rattle.store_commands.proofs.Performed.{smove_left, goes_by, stays_refused, stays_unmoved, stays_same, moves_apart}
use Rattle.store_commands.proofs.perform.moving.smove.Goals as goal

pub returns-in-Err-clause-change : goal.returns-in-Err-clause-change
returns-in-Err-clause-change g c =
    let s = g.E.Entries.entries c.args.entries.now in
    let m = c.args.member.now in
    let goes = goes_by m m s _ _ c.both.result.0.now c.both.result.1.now _ _ c.goes_over-goes.result c.goes_over-goes.ensures refl c.get-2.ensures c.get-4.ensures c.get.ensures.value c.get-3.ensures.value in
    smove_left s c.args.keys.now _ _ m (Err c.in-Err.fault) c.new.result effect.Nothing c.both.ensures (goes ∙ c.in-Err.is) (c.new.ensures ∙ ap (λ r. (r, effect.Nothing)) c.in_ok-reply-in-Err.ensures.reply) (stays_refused s _ _ m c.in-Err.fault)

pub returns-then-not-is_moved-clause-change : goal.returns-then-not-is_moved-clause-change
returns-then-not-is_moved-clause-change g c =
    let s = g.E.Entries.entries c.args.entries.now in
    let m = c.args.member.now in
    let goes = goes_by m m s _ _ c.both.result.0.now c.both.result.1.now _ _ c.goes_over-goes.result c.goes_over-goes.ensures refl c.get-2.ensures c.get-4.ensures c.get.ensures.value c.get-3.ensures.value in
    smove_left s c.args.keys.now _ _ m _ c.new-then-not-is_moved.result effect.Nothing c.both.ensures (goes ∙ c.in-Ok.is ∙ ap (λ b. Ok b) c.if-not-is_moved.true) (c.new-then-not-is_moved.ensures ∙ ap (λ r. (r, effect.Nothing)) c.truth.ensures) (stays_unmoved s _ _ m)

pub returns-then-eq-clause-change : goal.returns-then-eq-clause-change
returns-then-eq-clause-change g c =
    let s = g.E.Entries.entries c.args.entries.now in
    let m = c.args.member.now in
    let goes = goes_by m m s _ _ c.both.result.0.now c.both.result.1.now _ _ c.goes_over-goes.result c.goes_over-goes.ensures refl c.get-2.ensures c.get-4.ensures c.get.ensures.value c.get-3.ensures.value ∙ c.in-Ok.is ∙ ap (λ b. Ok b) c.if-not-is_moved.false in
    let same = sym c.get-5.ensures.value ∙ equal_keys _ _ (sym c.eq.ensures ∙ c.if-eq.true) ∙ c.get-6.ensures.value in
    smove_left s c.args.keys.now _ _ m _ c.new-then-eq.result effect.Nothing c.both.ensures goes (c.new-then-eq.ensures ∙ ap (λ r. (r, effect.Nothing)) c.truth-then-eq.ensures) (stays_same s _ _ m same goes)

pub returns-clause-change : goal.returns-clause-change
returns-clause-change g c =
    let s = g.E.Entries.entries c.args.entries.now in
    let m = c.args.member.now in
    let goes = goes_by m m s _ _ c.both.result.0.now c.both.result.1.now _ _ c.goes_over-goes.result c.goes_over-goes.ensures refl c.get-2.ensures c.get-4.ensures c.get.ensures.value c.get-3.ensures.value ∙ c.in-Ok.is ∙ ap (λ b. Ok b) c.if-not-is_moved.false in
    let apart = apart_by _ _ c.both.result.0.now c.both.result.1.now c.eq.result c.eq.ensures c.if-eq.false c.get-5.ensures.value c.get-6.ensures.value in
    smove_left s c.args.keys.now _ _ m _ c.new-2.result (effect.MoveMember c.args.keys.now m) c.both.ensures goes
    (c.new-2.ensures ∙ ap (λ r. (r, effect.MoveMember c.in_ok-try_copy-2.field-0 c.in_ok-try_copy-3.field-0)) c.truth-2.ensures
    ∙ ap (λ ks. (truth true, effect.MoveMember ks c.in_ok-try_copy-3.field-0)) c.in_ok-try_copy-2.ensures ∙ ap (λ n. (truth true, effect.MoveMember c.args.keys.now n)) c.in_ok-try_copy-3.ensures)
    (moves_apart s c.args.keys.now _ _ m c.both.ensures apart goes)
