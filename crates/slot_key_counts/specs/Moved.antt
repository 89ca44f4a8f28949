-- How the keys are counted of the slots that a plan moves.
use Rattle.std.specs.Prelude.{◌≡◌, ◌<◌, ℕ, ◌==◌, ◌&&◌, ◌||◌, Bool, false, cond, List, [], ◌∷◌, length, slice_index_or}
use Rattle.std.specs.Prelude.{Option, None, Some}
use Rattle.cluster_views.specs.declared.fault.SurveyFault.{SurveyFault}
use Rattle.plan_language.specs.declared.plan_command.PlanCommand.{PlanCommand}
use Rattle.plan_language.specs.declared.plan_command.PlanCommand.TheVariants.{Drain}
use Rattle.slot_key_counts.specs.Questions.{with_owner}
use Rattle.slot_key_counts.specs.Rounds.{AreAsked, AreNotAsked, Talk, Told, Wants}

-- a command moves a slot where it drains it
abbrev pub moves_slot : PlanCommand → (slot : ℕ) → Bool
moves_slot (Drain m s t b) slot = m == slot
moves_slot c slot = false

abbrev pub is_moved : List PlanCommand → (slot : ℕ) → Bool
is_moved [] s = false
is_moved (c ∷ cs) s = moves_slot c s || is_moved cs s

-- each slot that the commands move is asked for at its owner
abbrev pub wants_moved : (owner : (slot : ℕ) → ℕ) → List PlanCommand → Wants
wants_moved owner cs n s = is_moved cs s && (owner s == n)

-- the owners of the slots that are asked for, after these commands
abbrev pub with_moved : (owner : (slot : ℕ) → ℕ) → PlanCommand → (ℕ → Option ℕ) → ℕ → Option ℕ
with_moved owner (Drain m s t b) owners = with_owner owners m (owner m)
with_moved owner c owners = owners

abbrev pub with_all_moved : (owner : (slot : ℕ) → ℕ) → List PlanCommand → (ℕ → Option ℕ) → ℕ → Option ℕ
with_all_moved owner [] owners = owners
with_all_moved owner (c ∷ cs) owners = with_all_moved owner cs (with_moved owner c owners)

-- a slot of which nothing was told has none
abbrev pub keys_told : Option ℕ → ℕ
keys_told None = 0
keys_told (Some k) = k

-- what its owner told of a slot, if it was asked
abbrev pub keys_at_owner : Told → (slot : ℕ) → (owner : Option ℕ) → ℕ
keys_at_owner told s None = 0
keys_at_owner told s (Some o) = keys_told (told o s)

-- these are the keys of all slots, from slot 0 on: what the owner told of a slot that is moved, and 0 of the others
abbrev pub AreKeys : (owner : (slot : ℕ) → ℕ) → List PlanCommand → Told → List ℕ → Type 0
AreKeys owner cs told keys = (length keys ≡ 16384)
    × ((s : ℕ) → s < 16384 → slice_index_or keys s 0 ≡ cond (is_moved cs s) (keys_told (told (owner s) s)) 0)

module _ {L : Type 0} (by : Talk L) (owner : (slot : ℕ) → ℕ) where
  -- These are the keys of each slot that the commands move, as its owner answered when it was asked for it, in rounds
  -- over all nodes.
  abbrev pub AreCounted : List PlanCommand → (nodes : ℕ) → List L → (keys : List ℕ) → List L → Type 0
  AreCounted cs nodes links keys links' =
      (told : Told) × AreAsked by (wants_moved owner cs) nodes links told links' × AreKeys owner cs told keys

  -- an owner gave no count, or memory ran out
  abbrev pub IsUncounted : List PlanCommand → (nodes : ℕ) → List L → SurveyFault → List L → Type 0
  IsUncounted cs nodes links e links' = AreNotAsked by (wants_moved owner cs) nodes links e links'
