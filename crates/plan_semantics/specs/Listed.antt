-- Calls in which each listing was answered with a list of keys.
use Rattle.std.specs.Prelude.{◌≡◌, List, [], ◌∷◌}
use Rattle.cluster_admin.specs.Keys.{Key}
use Rattle.cluster_admin.specs.declared.admin.AdminCommand.{AdminCommand}
use Rattle.cluster_admin.specs.declared.admin.AdminCommand.TheVariants.{KeysIn}
use Rattle.cluster_admin.specs.declared.admin.AdminReply.{AdminReply}
use Rattle.cluster_admin.specs.declared.admin.AdminReply.TheVariants as reply
use Rattle.cluster_admin.specs.declared.call.AdminCall.{AdminCall}

-- a listing has a list of keys as its reply; any other command may have any
abbrev pub IsListed : AdminCommand → AdminReply → Type 0
IsListed (KeysIn slot count) r = (ks : List Key) × (r ≡ reply.Keys ks)
IsListed command r = Unit {0}

abbrev pub AreListed : List AdminCall → Type 0
AreListed [] = Unit {0}
AreListed (c ∷ cs) = IsListed c.command c.reply × AreListed cs
