use Rattle.std.proofs.Common.{ℕ, Bool, cond, not, ◌||◌, ap, ◌∙◌}
use Rattle.typed_values.specs.Members.{has, with_member}
use Rattle.typed_values.proofs.NamesRead.{text_added}
use Rattle.typed_values.proofs.members.MemberSet.added_by_many.Goals as goal

pub loop-place-preserved : goal.loop-place-preserved
loop-place-preserved c =
    let seen = c.loop-place.seen in
    let one = c.one_if-count.ensures ∙ ap (λ (b : Bool). cond {A = ℕ} b 1 0) (c.is_added.ensures ∙ ap (λ b. not (has c.args.self.now c.get-text.result.now || b)) c.in_ok-repeated.ensures.repeated ∙ ap (λ q. not (has c.args.self.now q || has seen q)) c.get-text.ensures.value) in
    let noted = c.in_ok-repeated.ensures.noted ∙ ap (λ q. with_member seen q) c.get-text.ensures.value in
    let next = text_added c.args.self.now seen c.args.texts.now c.loop-place.place c.loop-place.count _ c.index-texts-place.result c.loop-place-test.true c.index-texts-place.is one c.loop-place.invariant in
    (next.0, next.1, noted ∙ next.2)
