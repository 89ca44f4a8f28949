use Rattle.std.proofs.Common.{◌≡◌, rules, sym, ap, subst, ◌∙◌}
use Rattle.std.specs.Cmp.Lexicographic.{slice_cmp}
use Rattle.std.specs.List.Sorted.{IsSorted}
use Rattle.std.specs.Ordering.{nat_cmp}
use Rattle.std.proofs.lemmas.Fn.{always_returns_same}
use Rattle.typed_values.proofs.FingerprintsSeen.{absent}
use Rattle.typed_values.proofs.Searches.{found}
use Rattle.typed_values.specs.Members.{has}
use Rattle.typed_values.proofs.sorted.SortedTexts.contains.Goals as goal

pub returns-then-not-self-fingerprint : goal.returns-then-not-self-fingerprint
returns-then-not-self-fingerprint c =
    sym (ap (λ ts. has ts c.args.text.now) (sym c.self.view_is) ∙ absent _ c.self.inside.fingerprints c.args.text.now c.fingerprint.result c.self.invariant.1 c.fingerprint.ensures.number c.fingerprint.ensures.within c.if-not-self-fingerprint.true)

pub returns : goal.returns
returns c =
    let text = c.args.text.now in
    let told = c.binary_search_by.ensures.position (λ y. slice_cmp nat_cmp y text) (always_returns_same _ (λ a r. r ≡ slice_cmp nat_cmp a.0.now text) _ (λ a r g h. search rules)) in
    let up = subst (IsSorted (slice_cmp nat_cmp)) (sym c.as_slice.ensures.value) c.self.invariant.0 in
    c.is_ok.ensures.value
    ∙ found c.as_slice.result.now text c.binary_search_by.result c.binary_search_by.ensures.bound up told
    ∙ ap (λ xs. has xs text) (c.as_slice.ensures.value ∙ c.self.view_is)
