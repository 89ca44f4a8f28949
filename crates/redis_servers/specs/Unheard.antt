-- Slots of which not all servers had heard in time.
use Rattle.std.specs.Prelude.{◌==◌, ◌&&◌, ℕ, ◌+◌, Bool, false, cond, is_some, min, List, Option}
use Rattle.cluster_admin.specs.declared.admin.AdminCommand.{AdminCommand}
use Rattle.cluster_admin.specs.declared.admin.AdminCommand.TheVariants.{SetNode}
use Rattle.cluster_admin.specs.declared.admin.AdminReply.{AdminReply}
use Rattle.cluster_admin.specs.declared.admin.AdminReply.TheVariants as admin

-- the node took a slot over, and what is said is who had not heard of that in time
abbrev pub is_unheard : (node : ℕ) → AdminCommand → AdminReply → (said : Option (List ℕ)) → Bool
is_unheard n (SetNode slot owner) admin.Ok said = (owner == n) && is_some said
is_unheard n c r said = false

-- the number of such slots, up to the greatest that can be counted
abbrev pub one_more : ℕ → ℕ
one_more k = min (k + 1) 18446744073709551615

abbrev pub unheard_after : (node : ℕ) → AdminCommand → AdminReply → (said : Option (List ℕ)) → (slots : ℕ) → ℕ
unheard_after n c r said k = cond (is_unheard n c r said) (one_more k) k
