-- The lines of open slots, put one slot after the other.
use Rattle.std.proofs.Common.{◌≡◌, ℕ, suc, ◌+◌, ◌<◌, List, [], ◌++◌, append_assoc, append-nil, refl, sym, ap, ◌∙◌, subst}
use Rattle.std.proofs.Common.{add-one}
use Rattle.cluster_admin.specs.Surveys.{Survey}
use Rattle.server_phases.specs.ServerPhases.{IsPhaseAt, ServerPhases, ShowsPhases}
use Rattle.server_phases.specs.Texts.{AreLines, IsSlotText}
use Rattle.server_phases.specs.declared.server_phase.ServerPhase.{ServerPhase}

module _ {C : Type 0} (counts : C → (node slot keys : ℕ) → C → Type 0) where
  pub lines_none : (n : ℕ) (phases : ServerPhases) (c : C) → AreLines counts n phases 0 c [] c
  unfolding AreLines
  lines_none n phases c = (refl, refl)

  pub lines_more : (n : ℕ) (phases : ServerPhases) (k : ℕ) (c mid c' : C) (before last : List ℕ)
      → AreLines counts n phases k c before mid → IsSlotText counts n k (phases k) mid last c'
      → AreLines counts n phases (suc k) c (before ++ last) c'
  unfolding AreLines
  lines_more n phases k c mid c' before last a b = (before, mid, last, a, b, refl)

  -- the lines of the slots before this one were put
  abbrev pub Printed : (v : Survey) (n k : ℕ) (start : C) (old : List ℕ) (c : C) (out : List ℕ) → Type 0
  Printed v n k start old c out = (phases : ServerPhases) → ShowsPhases v phases
      → (text : List ℕ) × AreLines counts n phases k start text c × (out ≡ old ++ text)

  pub printed_none : (v : Survey) (n : ℕ) (c : C) (out : List ℕ) → Printed v n 0 c out c out
  printed_none v n c out phases shows = ([], lines_none n phases c, sym (append-nil out))

  pub printed_more : (v : Survey) (n k slot : ℕ) (start : C) (old : List ℕ) (c c' : C) (out out' : List ℕ)
      → Printed v n k start old c out → k < 16384 → slot ≡ k
      → ((p : ServerPhase) → IsPhaseAt v slot p
      → (text : List ℕ) × IsSlotText counts n slot p c text c' × (out' ≡ out ++ text))
      → Printed v n (k + 1) start old c' out'
  printed_more v n k slot start old c c' out out' before lt same put phases shows =
      let done = before phases shows in
      let here = subst (λ m. (p : ServerPhase) → IsPhaseAt v m p
      → (text : List ℕ) × IsSlotText counts n m p c text c' × (out' ≡ out ++ text)) same put (phases k) (shows k lt) in (
        done.0 ++ here.0,
        subst (λ m. AreLines counts n phases m start (done.0 ++ here.0) c') (sym (add-one k))
            (lines_more n phases k start c c' done.0 here.0 done.1 here.1),
        here.2 ∙ ap (λ t. t ++ here.0) done.2 ∙ append_assoc old done.0 here.0,
      )
