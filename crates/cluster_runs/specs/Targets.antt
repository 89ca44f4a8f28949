-- The targets of slots that are still to move hold no keys of them.
use Rattle.std.specs.Prelude.{⊤, ℕ, ◌+◌, ◌<◌, List, [], ◌∷◌, length, Ok}
use Rattle.cluster_admin.specs.Surveys.{Survey}
use Rattle.plan_language.specs.declared.line.Line.{Line}
use Rattle.plan_language.specs.declared.line.Line.TheVariants as line
use Rattle.server_phases.specs.ServerPhases.{IsPhaseAt}
use Rattle.server_phases.specs.declared.server_phase.ServerPhase.TheVariants.{Closed}
use Rattle.server_settling.specs.Asking.{Asks}
use Rattle.server_settling.specs.Opened.{ChecksEmpty}

-- over connections S, by `asks`, at servers that showed this survey
module _ {S : Type 0} (asks : Asks S) (v : Survey) where
  -- where the slot is closed at the source, the target was asked how many keys of it there are, and holds none
  abbrev pub IsTargetEmpty : (source target slot : ℕ) → Type 0
  IsTargetEmpty a b s = IsPhaseAt v s (Closed a) → b < length v.rows
      → (l : S) × (l' : S) × ChecksEmpty asks (record { slot = s; source = a; target = b }) l (Ok tt) l'

  -- so are the slots from the first to the last one
  abbrev pub AreSlotsEmpty : (source target first last : ℕ) → Type 0
  AreSlotsEmpty a b first last = (s : ℕ) → first < s + 1 → s < last + 1 → IsTargetEmpty a b s

  -- so are those of a line
  abbrev pub IsLineEmpty : Line → Type 0
  IsLineEmpty (line.Move first last a b batch) = AreSlotsEmpty a b first last
  IsLineEmpty (line.Command c) = ⊤

  -- so are those of all lines
  abbrev pub AreTargetsEmpty : List Line → Type 0
  AreTargetsEmpty [] = ⊤
  AreTargetsEmpty (l ∷ lines) = IsLineEmpty l × AreTargetsEmpty lines
