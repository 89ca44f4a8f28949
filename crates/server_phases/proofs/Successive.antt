-- Texts that are put of one number after the other.
use Rattle.std.proofs.Common.{◌≡◌, ℕ, suc, ◌+◌, ◌<◌, List, [], ◌++◌, append_assoc, append-nil, refl, sym, ap, ◌∙◌, subst}
use Rattle.std.proofs.Common.{add-one}
use Rattle.cluster_admin.specs.Surveys.{Survey}
use Rattle.server_phases.specs.ServerPhases.{IsPhaseAt, ServerPhases, ShowsPhases}
use Rattle.server_phases.specs.Stranded.{ArePut, IsStrandedText}
use Rattle.server_phases.specs.declared.server_phase.ServerPhase.{ServerPhase}

module _ {C : Type 0} (each : ℕ → C → List ℕ → C → Type 0) where
  -- what is put of this number stands after the text
  abbrev pub IsOneMore : (number : ℕ) (c : C) (out : List ℕ) (c' : C) (out' : List ℕ) → Type 0
  IsOneMore number c out c' out' = (text : List ℕ) × each number c text c' × (out' ≡ out ++ text)

  -- what is put of the numbers before this one does
  abbrev pub AreBehind : (k : ℕ) (start : C) (old : List ℕ) (c : C) (out : List ℕ) → Type 0
  AreBehind k start old c out = (text : List ℕ) × ArePut each k start text c × (out ≡ old ++ text)

  pub none_behind : (c : C) (out : List ℕ) → AreBehind 0 c out c out
  unfolding ArePut
  none_behind c out = ([], (refl, refl), sym (append-nil out))

  put_more : (k : ℕ) (c mid c' : C) (before last : List ℕ) → ArePut each k c before mid → each k mid last c'
      → ArePut each (suc k) c (before ++ last) c'
  unfolding ArePut
  put_more k c mid c' before last a b = (before, mid, last, a, b, refl)

  pub more_behind : (k number : ℕ) (start : C) (old : List ℕ) (c c' : C) (out out' : List ℕ)
      → AreBehind k start old c out → number ≡ k → IsOneMore number c out c' out' → AreBehind (k + 1) start old c' out'
  more_behind k number start old c c' out out' done same one =
      let here = subst (λ m. IsOneMore m c out c' out') same one in (
        done.0 ++ here.0,
        subst (λ m. ArePut each m start (done.0 ++ here.0) c') (sym (add-one k))
            (put_more k start c c' done.0 here.0 done.1 here.1),
        here.2 ∙ ap (λ t. t ++ here.0) done.2 ∙ append_assoc old done.0 here.0,
      )

module _ {C : Type 0} (counts : C → (node slot keys : ℕ) → C → Type 0) where
  -- the lines of stranded keys of the slots before this one were put
  abbrev pub Gathered : (v : Survey) (n k : ℕ) (start : C) (old : List ℕ) (c : C) (out : List ℕ) → Type 0
  Gathered v n k start old c out = (phases : ServerPhases) → ShowsPhases v phases
      → AreBehind (λ s. IsStrandedText counts n s (phases s)) k start old c out

  pub gathered_none : (v : Survey) (n : ℕ) (c : C) (out : List ℕ) → Gathered v n 0 c out c out
  gathered_none v n c out phases shows = none_behind (λ s. IsStrandedText counts n s (phases s)) c out

  pub gathered_more : (v : Survey) (n k slot : ℕ) (start : C) (old : List ℕ) (c c' : C) (out out' : List ℕ)
      → Gathered v n k start old c out → k < 16384 → slot ≡ k
      → ((p : ServerPhase) → IsPhaseAt v slot p
      → (text : List ℕ) × IsStrandedText counts n slot p c text c' × (out' ≡ out ++ text))
      → Gathered v n (k + 1) start old c' out'
  gathered_more v n k slot start old c c' out out' before lt same put phases shows =
      let here = subst (λ m. (p : ServerPhase) → IsPhaseAt v m p
      → (text : List ℕ) × IsStrandedText counts n m p c text c' × (out' ≡ out ++ text)) same put in
      more_behind (λ s. IsStrandedText counts n s (phases s)) k k start old c c' out out' (before phases shows) refl
      (here (phases k) (shows k lt))
