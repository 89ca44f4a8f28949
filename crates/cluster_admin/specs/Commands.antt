-- What every command keeps that an administrator gives to a node, and which reply is a listing
-- (the pages of CLUSTER SETSLOT, CLUSTER GETKEYSINSLOT and MIGRATE).
use Rattle.cluster_admin.specs.Keys.{Key}
use Rattle.std.specs.Prelude.{◌≡◌, ◌<◌, ◌≤◌, List, length, nat_eq}
use Rattle.std.specs.Cmp.Lexicographic.{pointwise}
use Rattle.std.specs.List.{IsDistinct, All}
use Rattle.key_slots.specs.HashSlot.{slot_of}
use Rattle.slot_marks.specs.Verdicts.{first_slot}
use Rattle.cluster_admin.specs.declared.admin.AdminCommand.{AdminCommand}
use Rattle.cluster_admin.specs.declared.admin.AdminCommand.TheVariants.{Migrate}
use Rattle.cluster_admin.specs.declared.admin.AdminReply.{AdminReply}
use Rattle.cluster_admin.specs.declared.admin.AdminReply.TheVariants as reply

-- a MIGRATE names one to 1,000 distinct keys of one slot
pub record AreMovable (ks : List Key) : Type 0 where
  pub some : 0 < length ks
  pub most : length ks ≤ 1000
  pub distinct : IsDistinct (pointwise nat_eq) ks
  pub one_slot : All (λ k. slot_of k ≡ first_slot ks) ks

-- what every command keeps that is given to a node
abbrev pub IsCommand : AdminCommand → Type 0
IsCommand (Migrate keys target) = AreMovable keys
IsCommand command = Unit {0}

-- the reply to GETKEYSINSLOT
abbrev pub IsListing : AdminReply → Type 0
IsListing (reply.Keys keys) = Unit {0}
IsListing other = ⊥
