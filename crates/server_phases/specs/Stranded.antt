-- Keys that lie at a node that does not own their slot, where no mark leads to them: how they are counted and printed.
use Rattle.std.specs.Prelude.{◌≡◌, ◌≢◌, ◌⊎◌, ◌==◌, ℕ, zero, suc, cond, List, [], ◌∷◌, ◌++◌, codes, decimal}
use Rattle.plan_language.specs.Texts.{line_text}
use Rattle.plan_language.specs.declared.line.Line.TheVariants as line
use Rattle.survey_texts.specs.Texts.{node_text}
use Rattle.server_phases.specs.ServerPhases.{ServerPhases}
use Rattle.server_phases.specs.declared.server_phase.ServerPhase.{ServerPhase}
use Rattle.server_phases.specs.declared.server_phase.ServerPhase.TheVariants as shown

-- ---- a line

-- `slot 5: 3 keys at n1`
abbrev pub held_text : (slot node keys : ℕ) → List ℕ
held_text s n k = codes "slot " ++ (decimal s ++ (codes ": " ++ (decimal k ++ (codes " keys at " ++ node_text n))))

-- `, and n0 owns it; a plan with '`
abbrev pub owned_text : (owner : ℕ) → List ℕ
owned_text o = codes ", and " ++ (node_text o ++ codes " owns it; a plan with '")

-- `move 5 from n0 to n1 by 10' brings them together`: the plan's line takes the slot to where the keys are
abbrev pub gathered_text : (slot owner node : ℕ) → List ℕ
gathered_text s o n = line_text (line.Move s s o n 10) ++ (codes "' brings them together" ++ 10 ∷ [])

-- nothing where there is no key
abbrev pub stranded_text : (slot owner node keys : ℕ) → List ℕ
stranded_text s o n k = cond (k == 0) [] (held_text s n k ++ (owned_text o ++ gathered_text s o n))

-- ---- all lines

-- what is put of each number below the count, ascending
unfoldable pub ArePut : {C : Type 0} → (each : ℕ → C → List ℕ → C → Type 0) → (count : ℕ) → C → List ℕ → C → Type 0
ArePut each zero c t c' = (t ≡ []) × (c' ≡ c)
ArePut {C} each (suc k) c t c' = (before : List ℕ) × (mid : C) × (last : List ℕ) × ArePut each k c before mid
    × each k mid last c' × (t ≡ before ++ last)

module _ {C : Type 0} (counts : C → (node slot keys : ℕ) → C → Type 0) where
  -- the node was asked for its keys of the slot, and this is their line
  pub record IsAsked (slot owner node : ℕ) (before : C) (text : List ℕ) (after : C) : Type 0 where
    pub keys : ℕ
    pub counted : counts before node slot keys after
    pub whole : text ≡ stranded_text slot owner node keys

  -- the owner is not asked
  abbrev pub IsNodeText : (slot owner node : ℕ) → C → List ℕ → C → Type 0
  IsNodeText s o n c t c' = ((n ≡ o) × (t ≡ []) × (c' ≡ c)) ⊎ ((n ≢ o) × IsAsked s o n c t c')

  -- of a slot on whose owner all nodes agree, and of which no mark stands, each node, and of others nothing
  abbrev pub IsStrandedText : (nodes slot : ℕ) → ServerPhase → C → List ℕ → C → Type 0
  IsStrandedText n s (shown.Closed o) c t c' = ArePut (IsNodeText s o) n c t c'
  IsStrandedText n s p c t c' = (t ≡ []) × (c' ≡ c)

  -- those of so many slots, ascending
  abbrev pub AreStranded : (nodes : ℕ) → ServerPhases → (count : ℕ) → C → List ℕ → C → Type 0
  AreStranded n phases k c t c' = ArePut (λ s. IsStrandedText n s (phases s)) k c t c'
