use Rattle.std.proofs.Common.{◌≡◌, [], ◌∷◌, length, is_some, false, ap, sym, arith, ◌∙◌, length-append}
use Rattle.typed_values.proofs.FieldsSeen.{put-new}
use Rattle.typed_values.proofs.Limits.{within-limit}
use Rattle.typed_values.specs.Fields.{field, put}
use Rattle.typed_values.proofs.fields.FieldMap.insert_new.Goals as goal

pub returns-clause-ok : goal.returns-clause-ok
returns-clause-ok c =
    let absent : is_some (field c.args.self.now c.args.name) ≡ false = ap (λ n. is_some (field c.args.self.now n)) (sym c.get.ensures.value) ∙ sym c.contains.ensures ∙ c.if-contains.false in
    c.in_ok-put_in.ensures.ok
    ∙ ap (λ es. put es c.args.name c.args.value) c.self.view_is
    ∙ put-new c.args.self.now c.args.name c.args.value absent

pub invariant_of-self-2 : goal.invariant_of-self-2
invariant_of-self-2 c =
    let after = ap length (returns-clause-ok c) ∙ length-append c.args.self.now ((c.args.name, c.args.value) ∷ []) in
    let room = within-limit _ _ _ (sym c.in_ok-grown.was ∙ c.grown.ensures) in
    (omega (arith, after, room, c.len.ensures.count), c.in_ok-put_in.ensures.short c.self.invariant.1)
