use Rattle.std.proofs.Common.{◌≡◌, arith, ap, sym, refl, ◌∙◌, ◌-◌, ◌++◌, ◌∷◌, [], get_or, drop, Some, if◌then◌else◌}
use Rattle.typed_values.specs.Members.{has, with_member}
use Rattle.typed_values.specs.declared.value.Value.TheVariants as value
use Rattle.store_commands.specs.Writes.{last_writes}
use Rattle.store_commands.proofs.Assigned.{no_writes, one_earlier}
use Rattle.store_commands.proofs.commit.assigning.writes_of.Goals as goal

pub loop-place-init : goal.loop-place-init
loop-place-init c = no_writes _ _ c.args.keys.now c.args.values.now c.in_ok-writes.ensures.items c.new-seen.ensures

pub loop-place-preserved-in_ok-push : goal.loop-place-preserved-in_ok-push
loop-place-preserved-in_ok-push c =
    let p = c.loop-place.place in
    let done = c.loop-place.writes.items in
    let seen = c.loop-place.seen in
    let k = c.index-keys-place.result in
    let t = c.index-values-place.result in
    one_earlier done _ seen _ c.args.keys.now c.args.values.now (p - 1) p k t t c.in_ok-note.field-0
    (omega arith) c.requires (omega arith) c.index-keys-place.is c.index-values-place.is
    (c.in_ok-note.ensures.repeated ∙ ap (has seen) c.get.ensures.value)
    (c.in_ok-note.ensures.noted ∙ ap (with_member seen) c.get.ensures.value)
    (c.in_ok-push.ensures.items ∙ ap (λ w. done ++ w ∷ []) c.in_ok-write_of.ensures
    ∙ ap (λ b. if b then done else done ++ (k, Some (value.Text t)) ∷ []) (sym c.if-not-branch.true))
    c.loop-place.invariant

pub loop-place-preserved : goal.loop-place-preserved
loop-place-preserved c =
    let p = c.loop-place.place in
    let done = c.loop-place.writes.items in
    let seen = c.loop-place.seen in
    let k = c.index-keys-place.result in
    let t = get_or c.args.values.now (p - 1) [] in
    one_earlier done _ seen _ c.args.keys.now c.args.values.now (p - 1) p k t [] c.in_ok-note.field-0
    (omega arith) c.requires (omega arith) c.index-keys-place.is refl
    (c.in_ok-note.ensures.repeated ∙ ap (has seen) c.get.ensures.value)
    (c.in_ok-note.ensures.noted ∙ ap (with_member seen) c.get.ensures.value)
    (ap (λ b. if b then done else done ++ (k, Some (value.Text t)) ∷ []) (sym c.if-not-branch.false))
    c.loop-place.invariant

pub returns : goal.returns
returns c =
    let first : c.loop-place.place ≡ 0 = omega arith in
    c.reverse.ensures.items ∙ c.loop-place.invariant.0 ∙ ap (λ p. last_writes (drop p c.args.keys.now) (drop p c.args.values.now)) first
