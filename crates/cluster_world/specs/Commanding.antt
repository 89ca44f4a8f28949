-- The administrator's command at one node of a world: the first refusal that applies, and what is done where there is
-- none (the pages of CLUSTER SETSLOT, CLUSTER GETKEYSINSLOT and MIGRATE).
use Rattle.std.specs.Prelude.{ℕ, Bool, IsTrue, cond, ◌==◌, ◌&&◌, not, nat_lt, List, [], ◌∷◌, length, Option}
use Rattle.std.specs.Prelude.{is_none, is_some}
use Rattle.std.specs.List.{list_any}
use Rattle.store_commands.specs.Store.{Key}
use Rattle.slot_marks.specs.Verdicts.{first_slot}
use Rattle.byte_texts.specs.Outcomes.{first_refusal}
use Rattle.cluster_node.specs.Nodes.{is_present}
use Rattle.cluster_node.specs.Administration.{reply_if_accepted, node_if_accepted, target_if_accepted}
use Rattle.cluster_node.specs.Administration.{setting_fault, reply_or}
use Rattle.cluster_admin.specs.declared.admin.AdminFault.{AdminFault}
use Rattle.cluster_admin.specs.declared.admin.AdminFault.TheVariants as fault
use Rattle.cluster_admin.specs.declared.admin.AdminCommand.{AdminCommand}
use Rattle.cluster_admin.specs.declared.admin.AdminCommand.TheVariants.{KeysIn, Migrate}
use Rattle.cluster_admin.specs.declared.admin.AdminReply.{AdminReply}
use Rattle.cluster_world.specs.Worlds.{World, node_at, importing, change_node}

-- MIGRATE: the target exists and is another node; where the source holds one of the keys, the target imports their slot
-- and holds none of those
abbrev pub moving_fault : World → (source : ℕ) → List Key → (target : ℕ) → Option AdminFault
moving_fault w source keys target = first_refusal (
    (not (nat_lt target (length w.nodes)), fault.UnknownNode)
    ∷ (target == source, fault.SameNode)
    ∷ (
      list_any (is_present (node_at w source)) keys && is_none (importing w target (first_slot keys)),
      fault.NotImporting,
    )
    ∷ (list_any (λ k. is_present (node_at w source) k && is_present (node_at w target) k) keys, fault.Busy)
    ∷ [])

unfoldable pub admin_fault : World → (node : ℕ) → AdminCommand → Option AdminFault
admin_fault w node (Migrate keys target) = moving_fault w node keys target
admin_fault w node command = setting_fault node (length w.nodes) (node_at w node) command

-- the world after a command that is not refused: the keys stand at the target before they leave the source
unfoldable pub effect : World → (node : ℕ) → AdminCommand → World
effect w node (Migrate keys target) =
    change_node (change_node w target (target_if_accepted (node_at w node) (node_at w target) keys)) node
    (node_if_accepted node (node_at w node) (Migrate keys target))
effect w node (KeysIn slot count) = w
effect w node command = change_node w node (node_if_accepted node (node_at w node) command)

unfoldable pub admin_reply : World → (node : ℕ) → AdminCommand → AdminReply
admin_reply w node command =
    reply_or (admin_fault w node command) (reply_if_accepted (node_at w node) command)

-- a refusal leaves the world as it is
unfoldable pub admin_after : World → (node : ℕ) → AdminCommand → World
admin_after w node command = cond (is_some (admin_fault w node command)) w (effect w node command)

-- MIGRATE goes to another node of the world, and the source holds one of the keys: so it makes a frame, and what the
-- target says of it, which may be a refusal, comes after that
abbrev pub makes_frame : World → (source : ℕ) → List Key → (target : ℕ) → Bool
makes_frame w source keys target =
    nat_lt target (length w.nodes) && not (target == source) && list_any (is_present (node_at w source)) keys

-- The command is answered with memory, so that out of memory may come in the place of its reply: a listing, and a
-- MIGRATE that makes a frame. Any other reply, a refusal above all, is told without.
abbrev pub TakesMemory : World → (node : ℕ) → AdminCommand → Type 0
TakesMemory w node (KeysIn slot count) = Unit {0}
TakesMemory w node (Migrate keys target) = IsTrue (makes_frame w node keys target)
TakesMemory w node command = ⊥
