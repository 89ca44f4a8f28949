use Rattle.std.proofs.Common.{rules, subst}
use Rattle.std.specs.Cmp.Lexicographic.{slice_cmp, nat_list_cmp_total}
use Rattle.std.specs.Ordering.{nat_cmp, is_lt}
use Rattle.std.proofs.lemmas.List.Sorted.{answers_always, ranks_by}
use Rattle.typed_values.specs.Fingerprints.{AreFingerprints}
use Rattle.typed_values.proofs.sorted.SortedTexts.from_vec.Goals as goal

pub invariant_of-result : goal.invariant_of-result
invariant_of-result c = (
  c.sort_unstable_by.ensures.sorted (λ x y. is_lt (slice_cmp nat_cmp x y)) (ranks_by nat_list_cmp_total (λ x. x)) (answers_always _ _ _ (λ f a r g h. search rules)),
  subst (λ ts. AreFingerprints ts c.fingerprints_of-fingerprints.result) c.as_slice.ensures.value c.fingerprints_of-fingerprints.ensures,
)
