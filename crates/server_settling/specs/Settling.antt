-- An open slot is settled: what goes over the connections, and what that comes to.
use Rattle.std.specs.Prelude.{◌≡◌, ◌⊎◌, ℕ, length, Result, Ok, Err}
use Rattle.server_commands.specs.Servers.{server_at}
use Rattle.server_settling.specs.Asking.{Asks, Then}
use Rattle.server_settling.specs.Copying.{CopiesAll}
use Rattle.server_settling.specs.Keys.{at_both, at_one_alone}
use Rattle.server_settling.specs.Listing.{AreHeld}
use Rattle.server_settling.specs.Marking.{Marks}
use Rattle.server_settling.specs.Quieting.{Quiets}
use Rattle.server_settling.specs.Stops.{stop_by}
use Rattle.server_settling.specs.declared.fault.SettleFault.TheVariants as fault
use Rattle.server_settling.specs.declared.listing.Held.{Held}
use Rattle.server_settling.specs.declared.settling.Settled.{Settled}
use Rattle.server_settling.specs.declared.setup.OpenSlot.{OpenSlot}
use Rattle.server_settling.specs.declared.setup.SettleSetup.{SettleSetup}
use Rattle.server_settling.specs.declared.stop.SettleStop.{SettleStop}

-- what is reported
abbrev pub settled_of : (ended : ℕ) → Held → Settled
settled_of ended held = record {
  ended = ended;
  at_both = length (at_both held.at_source held.at_target);
  at_target_alone = length (at_one_alone held.at_target held.at_source);
}

module _ {S : Type 0} (asks : Asks S) (x : SettleSetup) (o : OpenSlot) where
  -- exactly the keys that both nodes hold go from the source to the target once more
  abbrev pub Replaces : Held → (ended : ℕ) → S → Result Settled SettleStop → S → Type 0
  Replaces held ended s (Ok d) s' =
      CopiesAll asks x o (at_both held.at_source held.at_target) s (Ok tt) s' × (d ≡ settled_of ended held)
  Replaces held ended s (Err e) s' = CopiesAll asks x o (at_both held.at_source held.at_target) s (Err e) s'
      ⊎ ((e ≡ stop_by fault.Memory) × (s' ≡ s))

  -- the keys are listed, and those that both nodes hold are sent
  abbrev pub Overwrites : (ended : ℕ) → S → Result Settled SettleStop → S → Type 0
  Overwrites ended s r s' = Then (AreHeld asks o) (λ held. Replaces held ended) s r s'

  -- the target is quiet, and then the stale copies are overwritten
  abbrev pub SettlesMarked : S → Result Settled SettleStop → S → Type 0
  SettlesMarked s r s' = Then (Quiets asks o.target (server_at x.book o.source).host) Overwrites s r s'

  -- before that the target is told once more that it imports the slot
  abbrev pub Settles : S → Result Settled SettleStop → S → Type 0
  Settles s r s' = Then (Marks asks x o) (λ u. SettlesMarked) s r s'
