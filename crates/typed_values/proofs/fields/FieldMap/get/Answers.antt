use Rattle.std.proofs.Common.{Some, sym, ◌∙◌, ap, option_map}
use Rattle.typed_values.proofs.Views.{lookup-seen, read-copied}
use Rattle.typed_values.proofs.Limits.{short-field}
use Rattle.typed_values.specs.Fields.{field, same_bytes}
use Rattle.typed_values.proofs.fields.FieldMap.get.Goals as goal

pub returns-in-Some-clause-value : goal.returns-in-Some-clause-value
returns-in-Some-clause-value c =
    ap Some c.as_slice.ensures.value
    ∙ sym (ap (option_map (λ v. v.now.items)) c.in-Some.is)
    ∙ read-copied (λ v. v.items) c.get.result
    ∙ ap (option_map (λ v. v.items)) c.get.ensures.value
    ∙ sym (lookup-seen (λ v. v.items) (λ v. v.items) (same_bytes c.args.name.now) _)
    ∙ ap (λ es. field es c.args.name.now) c.self.view_is

pub returns-in-Some-clause-limit : goal.returns-in-Some-clause-limit
returns-in-Some-clause-limit c =
    let at = ap (λ es. field es c.args.name.now) c.self.view_is ∙ sym (returns-in-Some-clause-value c) in
    short-field _ c.args.name.now _ c.self.invariant.1 at

pub returns-in-None-clause-value : goal.returns-in-None-clause-value
returns-in-None-clause-value c =
    sym (ap (option_map (λ v. v.now.items)) c.in-None.is)
    ∙ read-copied (λ v. v.items) c.get.result
    ∙ ap (option_map (λ v. v.items)) c.get.ensures.value
    ∙ sym (lookup-seen (λ v. v.items) (λ v. v.items) (same_bytes c.args.name.now) _)
    ∙ ap (λ es. field es c.args.name.now) c.self.view_is
