-- The administrator's commands to one node: the first refusal that applies, the answer, and the change
-- (the pages of CLUSTER SETSLOT, CLUSTER GETKEYSINSLOT and MIGRATE).
use Rattle.std.specs.Prelude.{ℕ, cond, ◌==◌, List, length, take, Option, Some, None, option_map, slice_set, Result, Ok}
use Rattle.std.specs.Prelude.{Err}
use Rattle.std.specs.List.{list_any}
use Rattle.std.specs.FinMap as finite
use Rattle.store_commands.specs.Store.{Key}
use Rattle.store_commands.specs.Effects.{without}
use Rattle.slot_keyspace.specs.Listing.{keys_of}
use Rattle.slot_keyspace.specs.Batches.{batch_of, with_entries}
use Rattle.slot_marks.specs.Setting.{importing_fault, migrating_fault, node_fault}
use Rattle.slot_marks.specs.declared.fault.SlotFault.{SlotFault}
use Rattle.cluster_admin.specs.Faults.{of_slot}
use Rattle.cluster_node.specs.Nodes.{Node, table_of, is_present}
use Rattle.cluster_admin.specs.declared.admin.AdminFault.{AdminFault}
use Rattle.cluster_admin.specs.declared.admin.AdminCommand.{AdminCommand}
use Rattle.cluster_admin.specs.declared.admin.AdminCommand.TheVariants.{Importing, Migrating, SetNode, Stable, KeysIn}
use Rattle.cluster_admin.specs.declared.admin.AdminCommand.TheVariants.{Migrate}
use Rattle.cluster_admin.specs.declared.admin.AdminReply.{AdminReply}
use Rattle.cluster_admin.specs.declared.admin.AdminReply.TheVariants as reply

-- every command but MIGRATE is of one node alone
abbrev pub IsSetting : AdminCommand → Type 0
IsSetting (Migrate keys target) = ⊥
IsSetting command = Unit {0}

-- the refusals that one node can see, at the node `me` among so many
unfoldable pub setting_fault : (me nodes : ℕ) → Node → AdminCommand → Option AdminFault
setting_fault me n x (Importing slot source) = option_map of_slot (importing_fault (table_of me n x) slot source)
setting_fault me n x (Migrating slot target) = option_map of_slot (migrating_fault (table_of me n x) slot target)
setting_fault me n x (SetNode slot owner) =
    option_map of_slot (node_fault (table_of me n x) slot owner (length (keys_of x.held slot)))
setting_fault me n x command = None

-- the answer where there is no refusal
unfoldable pub reply_if_accepted : Node → AdminCommand → AdminReply
reply_if_accepted x (KeysIn slot count) = reply.Keys (take count (keys_of x.held slot))
reply_if_accepted x (Migrate keys target) = cond (list_any (is_present x) keys) reply.Ok reply.NoKey
reply_if_accepted x command = reply.Ok

-- the node to which the command went, where there is no refusal
unfoldable pub node_if_accepted : (me : ℕ) → Node → AdminCommand → Node
node_if_accepted me x (Importing slot source) = record x { importing = finite.insert x.importing slot source }
node_if_accepted me x (Migrating slot target) = record x { migrating = finite.insert x.migrating slot target }
node_if_accepted me x (SetNode slot owner) = record x {
  owners = slice_set x.owners slot owner;
  migrating = cond (owner == me) x.migrating (finite.remove x.migrating slot);
  importing = cond (owner == me) (finite.remove x.importing slot) x.importing;
}
node_if_accepted me x (Stable slot) = record x {
  migrating = finite.remove x.migrating slot;
  importing = finite.remove x.importing slot;
}
node_if_accepted me x (Migrate keys target) = record x { held = without x.held keys }
node_if_accepted me x command = x

-- the target of a MIGRATE, where there is no refusal
unfoldable pub target_if_accepted : (source target : Node) → List Key → Node
target_if_accepted source target keys =
    record target { held = with_entries target.held (batch_of source.held keys) }

abbrev pub reply_or : Option AdminFault → AdminReply → AdminReply
reply_or None r = r
reply_or (Some f) r = reply.Refused f

-- a table's answer as the administrator gets it
abbrev pub reply_to : Result (Unit {0}) SlotFault → AdminReply
reply_to (Ok x) = reply.Ok
reply_to (Err f) = reply.Refused (of_slot f)
