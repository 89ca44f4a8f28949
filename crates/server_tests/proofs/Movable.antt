-- One key may be moved.
use Rattle.std.proofs.Common.{rules, ◌≡◌, ℕ, List, [], ◌∷◌, arith, refl}
use Rattle.std.specs.Prelude.{nat_eq}
use Rattle.std.specs.Cmp.Lexicographic.{pointwise}
use Rattle.std.specs.List.{IsDistinct}
use Rattle.cluster_admin.specs.Commands.{AreMovable}

one_is_distinct : (k : List ℕ) → IsDistinct (pointwise nat_eq) (k ∷ [])
unfolding IsDistinct
one_is_distinct k = (tt, tt)

pub one_is_movable : (k : List ℕ) (ks : List (List ℕ)) → ks ≡ k ∷ [] → AreMovable ks
one_is_movable k ks is = rw is record {
  some = omega arith;
  most = omega arith;
  distinct = one_is_distinct k;
  one_slot = search (rules, refl);
}
