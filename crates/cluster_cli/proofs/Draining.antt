-- Every node but some, one after the other.
use Rattle.std.proofs.Common.{◌≡◌, ℕ, suc, ◌+◌, true, false, cond, List, [], ◌∷◌, ◌++◌, refl, sym, ap, ◌∙◌, arith}
use Rattle.std.proofs.Common.{append-nil}
use Rattle.cluster_cli.specs.DrainedNodes.{all_but, is_one}

pub none_yet : (sources : List ℕ) → all_but 0 sources ≡ []
unfolding all_but
none_yet sources = refl

one_more : (k : ℕ) (sources : List ℕ)
    → all_but (k + 1) sources ≡ all_but k sources ++ cond (is_one sources k) [] (k ∷ [])
unfolding all_but
one_more k sources = ap (λ n. all_but n sources) next
  where
    next : k + 1 ≡ suc k
    next = omega arith

pub taken : (k : ℕ) (sources found more : List ℕ) → found ≡ all_but k sources → is_one sources k ≡ false
    → more ≡ found ++ k ∷ [] → more ≡ all_but (k + 1) sources
taken k sources found more e other is =
    is ∙ ap (λ xs. xs ++ k ∷ []) e
    ∙ sym (one_more k sources ∙ ap (λ b. all_but k sources ++ cond b [] (k ∷ [])) other)

pub left : (k : ℕ) (sources found more : List ℕ) → found ≡ all_but k sources → is_one sources k ≡ true
    → more ≡ found → more ≡ all_but (k + 1) sources
left k sources found more e source is =
    is ∙ e ∙ sym (one_more k sources ∙ ap (λ b. all_but k sources ++ cond b [] (k ∷ [])) source
    ∙ append-nil (all_but k sources))
