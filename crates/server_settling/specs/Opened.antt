-- All slots before a plan continues: each that is migrating is settled, and told, in the order of the slots.
use Rattle.std.specs.Prelude.{◌≡◌, ◌≢◌, ◌⊎◌, ℕ, zero, suc, ◌+◌, ◌<◌, ◌≤◌, List, [], ◌∷◌, ◌++◌, length, take, cond, ◌==◌}
use Rattle.std.specs.Prelude.{Result, Ok, Err}
use Rattle.cluster_admin.specs.Phases.{AreTwo}
use Rattle.cluster_admin.specs.Surveys.{Survey}
use Rattle.server_phases.specs.ServerPhases.{IsPhaseAt}
use Rattle.server_phases.specs.declared.server_phase.ServerPhase.{ServerPhase}
use Rattle.server_phases.specs.declared.server_phase.ServerPhase.TheVariants as shown
use Rattle.server_settling.specs.Asking.{Asks}
use Rattle.server_settling.specs.Listing.{IsCountAt}
use Rattle.server_settling.specs.OpenStops.{settled_text, uncounted, unsettled}
use Rattle.server_settling.specs.Settling.{Settles}
use Rattle.server_settling.specs.declared.open_stop.OpenStop.{OpenStop}
use Rattle.server_settling.specs.declared.open_stop.OpenStop.TheVariants as stop
use Rattle.server_settling.specs.declared.opened.Opened.{Opened}
use Rattle.server_settling.specs.declared.settled_slot.SettledSlot.{SettledSlot}
use Rattle.server_settling.specs.declared.settling.Settled.{Settled}
use Rattle.server_settling.specs.declared.setup.OpenSlot.{OpenSlot}
use Rattle.server_settling.specs.declared.setup.SettleSetup.{SettleSetup}
use Rattle.server_settling.specs.declared.stop.SettleStop.{SettleStop}

-- ---- how many

abbrev pub none_opened : Opened
none_opened = record { slots = 0; told = 0 }

-- the slots so far, and one more in this phase
abbrev pub opened_with : ServerPhase → Opened → Opened
opened_with (shown.Importing a b) o = record o { slots = o.slots + 1 }
opened_with (shown.Migrating a b) o = record o { slots = o.slots + 1 }
opened_with (shown.Told a b) o = record { slots = o.slots + 1; told = o.told + 1 }
opened_with other o = o

-- both ends of a slot on its way are of so many nodes
abbrev pub HasEnds : (nodes : ℕ) → ServerPhase → Type 0
HasEnds n (shown.Importing a b) = AreTwo n a b
HasEnds n (shown.Migrating a b) = AreTwo n a b
HasEnds n other = Unit {0}

-- ---- one slot

-- the line is written; or a part of it is, and the writer failed
abbrev pub Writes : {W : Type 0} → (took : W → List ℕ → W → Type 0) → (failures : W → ℕ) → (line : List ℕ) → W → W
    → Type 0
Writes took failures line w w' = (took w line w' × (failures w' ≡ failures w))
    ⊎ ((n : ℕ) × (n ≤ length line) × took w (take n line) w' × (failures w' ≢ failures w))

-- The target of a slot that its source does not migrate holds no key of it.
abbrev pub IsEmptyBy : OpenSlot → Result ℕ SettleStop → Result (Unit {0}) OpenStop → Type 0
IsEmptyBy o (Ok k) r = r ≡ cond (k == 0) (Ok tt)
    (Err (stop.Stranded (record { slot = o.slot; source = o.source; target = o.target; keys = k })))
IsEmptyBy o (Err e) r = r ≡ Err (uncounted e)

-- the target is asked how many keys of the slot it holds
abbrev pub ChecksEmpty : {S : Type 0} → (asks : Asks S) → OpenSlot → S → Result (Unit {0}) OpenStop → S → Type 0
ChecksEmpty asks o l r l' =
    (count : Result ℕ SettleStop) × IsCountAt asks o.target o.slot l count l' × IsEmptyBy o count r

-- the line of a slot that is settled, or no memory for it
abbrev pub TellsSettled : {W : Type 0} → (writes : List ℕ → W → W → Type 0) → SettledSlot → W
    → Result (Unit {0}) OpenStop → W → Type 0
TellsSettled writes d w (Ok u) w' = writes (settled_text d.course d.found ++ 10 ∷ []) w w'
TellsSettled writes d w (Err e) w' = (e ≡ stop.Memory) × (w' ≡ w)

-- over connections S, by `asks`, and beside a writer W, of which `writes` tells what a line makes
module _ {S W : Type 0} (asks : Asks S) (writes : (line : List ℕ) → W → W → Type 0) (x : SettleSetup) where
  -- the slot is settled, and that is told; or it can't be settled
  abbrev pub SettlesOne : OpenSlot → S → W → Result (Unit {0}) OpenStop → S → W → Type 0
  SettlesOne o l w r l' w' = ((d : Settled) × Settles asks x o l (Ok d) l'
      × TellsSettled writes (record { course = o; found = d }) w r w')
      ⊎ ((e : SettleStop) × Settles asks x o l (Err e) l' × (r ≡ Err (unsettled o.slot e)) × (w' ≡ w))

  -- what is done with a slot in this phase
  abbrev pub Treats : (slot : ℕ) → ServerPhase → S → W → Result (Unit {0}) OpenStop → S → W → Type 0
  Treats s (shown.Importing a b) l w r l' w' =
      ChecksEmpty asks (record { slot = s; source = a; target = b }) l r l' × (w' ≡ w)
  Treats s (shown.Migrating a b) l w r l' w' =
      SettlesOne (record { slot = s; source = a; target = b }) l w r l' w'
  Treats s other l w r l' w' = (r ≡ Ok tt) × (l' ≡ l) × (w' ≡ w)

  -- ---- all slots

  module _ (v : Survey) where
    -- the slots below this one, ascending, each in its phase: how many are open
    unfoldable pub SettlesBelow : (count : ℕ) → S → W → Opened → S → W → Type 0
    SettlesBelow zero l w o l' w' = (o ≡ none_opened) × (l' ≡ l) × (w' ≡ w)
    SettlesBelow (suc s) l w o l' w' = (before : Opened) × (p : ServerPhase) × (mid : S) × (written : W)
        × SettlesBelow s l w before mid written × IsPhaseAt v s p × Treats s p mid written (Ok tt) l' w'
        × (o ≡ opened_with p before)

    -- so were the slots below one, which stops the plan
    abbrev pub StopsBelow : (count : ℕ) → S → W → OpenStop → S → W → Type 0
    StopsBelow n l w e l' w' = (s : ℕ) × (before : Opened) × (p : ServerPhase) × (mid : S) × (written : W) × (s < n)
        × SettlesBelow s l w before mid written × IsPhaseAt v s p × Treats s p mid written (Err e) l' w'
