-- Nodes in another order.
use Rattle.std.proofs.Common.{◌≡◌, ◌≢◌, ℕ, suc, ◌+◌, ◌<◌, true, false, eqb, ◌||◌, List, [], ◌∷◌, ◌++◌, length}
use Rattle.std.proofs.Common.{length-append, sym, refl, ap, ◌∙◌}
use Rattle.std.proofs.lemmas.Bool.{eq-eqb, or_left, or_right}
use Rattle.std.specs.List.{AllByRecursion}
use Rattle.cluster_admin.specs.Phases.{IsDistinct, among}
use Rattle.plan_semantics.specs.Plans.{AreEnds}
use Rattle.plan_semantics.proofs.OnePhase.{all_among}
use Rattle.plan_semantics.proofs.OwnedMoves.{among-append, distinct_apart, distinct_rest}
use Rattle.telling_order.specs.AnyOrder.{IsReordered}

-- what holds of each node that is among them
pub among_all : (P : ℕ → Type 0) (ns : List ℕ) → ((m : ℕ) → among m ns ≡ true → P m) → AllByRecursion P ns
among_all P [] h = tt
among_all P (x ∷ ns) h = (
  h x (or_left (eqb x x) (among x ns) (eq-eqb x x refl)),
  among_all P ns (λ m e. h m (or_right (eqb m x) (among m ns) e)),
)

-- both lists are distinct, and no node is in both
distinct_join : (ys q : List ℕ) → IsDistinct ys → IsDistinct q → ((m : ℕ) → among m ys ≡ true → among m q ≡ false)
    → IsDistinct (ys ++ q)
distinct_join [] q d e apart = e
distinct_join (y ∷ ys) q d e apart = (
  among-append y ys q ∙ ap (λ b. b || among y q) d.0 ∙ apart y (or_left (eqb y y) (among y ys) (eq-eqb y y refl)),
  distinct_join ys q d.1 e (λ m h. apart m (or_right (eqb m y) (among m ys) h)),
)

-- the same after them
pub reordered_before : (xs ys q : List ℕ) → IsReordered xs ys → IsDistinct (xs ++ q) → IsReordered (xs ++ q) (ys ++ q)
reordered_before xs ys q r d = record {
  many = length-append ys q ∙ ap (λ n. n + length q) r.many ∙ sym (length-append xs q);
  distinct = distinct_join ys q r.distinct (distinct_rest xs q d)
      (λ m h. distinct_apart m xs q d (sym (r.same m) ∙ h));
  same = λ m. among-append m ys q ∙ ap (λ b. b || among m q) (r.same m) ∙ sym (among-append m xs q);
}

-- the same before them
pub reordered_behind : (a xs ys : List ℕ) → IsReordered xs ys → IsDistinct (a ++ xs) → IsReordered (a ++ xs) (a ++ ys)
reordered_behind [] xs ys r d = r
reordered_behind (x ∷ a) xs ys r d =
    let s = reordered_behind a xs ys r d.1 in
    record {
      many = ap suc s.many;
      distinct = (s.same x ∙ d.0, s.distinct);
      same = λ m. ap (λ b. eqb m x || b) (s.same m);
    }

-- a node, and these within others
pub reordered_within : (a : List ℕ) (o : ℕ) (xs ys q : List ℕ) → IsReordered xs ys → IsDistinct (a ++ o ∷ (xs ++ q))
    → IsReordered (a ++ o ∷ (xs ++ q)) (a ++ o ∷ (ys ++ q))
reordered_within a o xs ys q r d =
    let rest = distinct_rest a (o ∷ (xs ++ q)) d in
    reordered_behind a (o ∷ (xs ++ q)) (o ∷ (ys ++ q))
    (reordered_behind (o ∷ []) (xs ++ q) (ys ++ q) (reordered_before xs ys q r rest.1) rest) d

-- the ends of a move stay ends
pub ends_reordered : (n s t : ℕ) (xs ys : List ℕ) → AreEnds n s t xs → IsReordered xs ys → AreEnds n s t ys
ends_reordered n s t xs ys e r = record {
  apart = e.apart;
  source_below = e.source_below;
  target_below = e.target_below;
  each_other = among_all (λ m. (m < n) × (m ≢ s) × (m ≢ t)) ys
      (λ m h. all_among (λ m. (m < n) × (m ≢ s) × (m ≢ t)) xs e.each_other m (sym (r.same m) ∙ h));
  distinct = r.distinct;
  every = λ m below not_source not_target. r.same m ∙ e.every m below not_source not_target;
}
