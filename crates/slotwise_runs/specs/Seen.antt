-- What a world, threads or servers saw of a plan, slot by slot. No order between the calls of two slots is part of it:
-- which are sent first is free, and so are drains that interleave.
use Rattle.std.specs.Prelude.{◌==◌, ℕ, List, filter}
use Rattle.slot_marks.specs.Verdicts.{first_slot}
use Rattle.cluster_admin.specs.Phases.{Phases}
use Rattle.cluster_admin.specs.declared.admin.AdminCommand.{AdminCommand}
use Rattle.cluster_admin.specs.declared.admin.AdminCommand.TheVariants as command
use Rattle.cluster_admin.specs.declared.call.AdminCall.{AdminCall}
use Rattle.plan_language.specs.declared.plan_command.PlanCommand.{PlanCommand}
use Rattle.plan_semantics.specs.Driving.{StopsAtRefusal}
use Rattle.plan_semantics.specs.Plans.{part}
use Rattle.plan_semantics.specs.Unrolling.{IsPrefix, Unrolls}
use Rattle.telling_order.specs.AnyOrder.{TellsInAnyOrder}

-- the slot that a command names; a MIGRATE names the slot of its keys
abbrev pub slot_called : AdminCommand → ℕ
slot_called (command.Importing s m) = s
slot_called (command.Migrating s m) = s
slot_called (command.SetNode s m) = s
slot_called (command.Stable s) = s
slot_called (command.KeysIn s b) = s
slot_called (command.Migrate ks m) = first_slot ks

-- the calls that name the slot, in order
abbrev pub of_slot : ℕ → List AdminCall → List AdminCall
of_slot s cs = filter (λ c. slot_called c.command == s) cs

-- Of each slot: its calls are a prefix of an unrolling of its part of the plan, and none of them follows a refused one.
-- Calls of other slots may.
abbrev pub AreSeenOfEachSlot : List PlanCommand → List AdminCall → Type 0
AreSeenOfEachSlot plan cs = (s : ℕ) → IsPrefix (part plan s) (of_slot s cs) × StopsAtRefusal (of_slot s cs)

-- every part is carried out
abbrev pub UnrollsEachSlot : List PlanCommand → List AdminCall → Type 0
UnrollsEachSlot plan cs = (s : ℕ) → Unrolls (part plan s) (of_slot s cs)

-- The same of the plan, or of one that tells the same nodes in another order: once the source of a slot was told, the
-- nodes that are not told yet may be told of the owner in any order.
pub record AreSeen (phases : Phases) (plan : List PlanCommand) (cs : List AdminCall) : Type 0 where
  pub as_told : List PlanCommand
  pub between : List (List PlanCommand)
  pub tells : TellsInAnyOrder phases plan between as_told
  pub slots : AreSeenOfEachSlot as_told cs
