use Rattle.std.proofs.Common.{ℕ, List, Bool, cond, not, is_some, ◌||◌, ap, sym, ◌∙◌}
use Rattle.typed_values.specs.Fields.{field}
use Rattle.typed_values.specs.Members.{has, with_member}
use Rattle.typed_values.proofs.NamesRead.{pair_added}
use Rattle.typed_values.proofs.fields.FieldMap.added_by_many.Goals as goal

pub loop-place-preserved : goal.loop-place-preserved
loop-place-preserved c =
    let seen = c.loop-place.seen in
    let name = c.get-name.ensures.value ∙ sym (ap (λ (p : List ℕ × List ℕ). p.0) c.index-pairs-place.is) in
    let one = c.one_if-count.ensures ∙ ap (λ (b : Bool). cond {A = ℕ} b 1 0) (c.is_added.ensures ∙ ap (λ b. not (is_some (field c.args.self.now c.get-name.result.now) || b)) c.in_ok-repeated.ensures.repeated ∙ ap (λ q. not (is_some (field c.args.self.now q) || has seen q)) name) in
    let noted = c.in_ok-repeated.ensures.noted ∙ ap (λ q. with_member seen q) name in
    let next = pair_added c.args.self.now seen c.args.pairs.now c.loop-place.place c.loop-place.count _ c.index-pairs-place.result c.loop-place-test.true c.index-pairs-place.is one c.loop-place.invariant in
    (next.0, next.1, noted ∙ next.2)
