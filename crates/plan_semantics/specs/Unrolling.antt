-- The same said of whole lists: a list of the administrator's calls unrolls a plan where it spells the plan in order.
use Rattle.std.specs.Prelude.{◌≡◌, ◌↔◌, ℕ, List, [], ◌∷◌, ◌++◌, Option, None}
use Rattle.cluster_admin.specs.Keys.{Key}
use Rattle.cluster_admin.specs.declared.admin.AdminCommand.TheVariants.{Importing, Migrating, SetNode, Stable, KeysIn}
use Rattle.cluster_admin.specs.declared.admin.AdminCommand.TheVariants.{Migrate}
use Rattle.cluster_admin.specs.declared.admin.AdminReply.{AdminReply}
use Rattle.cluster_admin.specs.declared.admin.AdminReply.TheVariants as reply
use Rattle.cluster_admin.specs.declared.call.AdminCall.{AdminCall}
use Rattle.plan_language.specs.declared.plan_command.PlanCommand.{PlanCommand}
use Rattle.plan_language.specs.declared.plan_command.PlanCommand.TheVariants as planned
use Rattle.plan_semantics.specs.Driving.{Remaining, whole, Spelled}

-- a listing that was answered with some keys, and the MIGRATE of exactly these
pub record Pair : Type 0 where
  pub key : Key
  pub keys : List Key
  pub reply : AdminReply

abbrev pub pair_calls : (s source target batch : ℕ) → List Pair → List AdminCall
pair_calls s m t b [] = []
pair_calls s m t b (p ∷ ps) =
    record { node = m; command = KeysIn s b; reply = reply.Keys (p.key ∷ p.keys) }
    ∷ record { node = m; command = Migrate (p.key ∷ p.keys) t; reply = p.reply }
    ∷ pair_calls s m t b ps

-- A SETSLOT is spelt by one call. A drain is spelt by any number of pairs, and then a listing that was answered with no
-- key
abbrev pub Unrolls : List PlanCommand → List AdminCall → Type 0
Unrolls [] cs = cs ≡ []
Unrolls (planned.Importing s m at ∷ plan) cs = (r : AdminReply) × (rest : List AdminCall)
    × (cs ≡ record { node = at; command = Importing s m; reply = r } ∷ rest) × Unrolls plan rest
Unrolls (planned.Migrating s m at ∷ plan) cs = (r : AdminReply) × (rest : List AdminCall)
    × (cs ≡ record { node = at; command = Migrating s m; reply = r } ∷ rest) × Unrolls plan rest
Unrolls (planned.SetNode s m at ∷ plan) cs = (r : AdminReply) × (rest : List AdminCall)
    × (cs ≡ record { node = at; command = SetNode s m; reply = r } ∷ rest) × Unrolls plan rest
Unrolls (planned.Stable s at ∷ plan) cs = (r : AdminReply) × (rest : List AdminCall)
    × (cs ≡ record { node = at; command = Stable s; reply = r } ∷ rest) × Unrolls plan rest
Unrolls (planned.Drain s m t b ∷ plan) cs = (pairs : List Pair) × (rest : List AdminCall)
    × (cs ≡ pair_calls s m t b pairs ++ record { node = m; command = KeysIn s b; reply = reply.Keys [] } ∷ rest)
    × Unrolls plan rest

-- a prefix of an unrolling
abbrev pub IsPrefix : List PlanCommand → List AdminCall → Type 0
IsPrefix plan cs = (more : List AdminCall) × Unrolls plan (cs ++ more)

-- step by step or as a whole list: the same
abbrev pub SpelledByPrefixes : Type 0
SpelledByPrefixes = (plan : List PlanCommand) (cs : List AdminCall)
    → (IsPrefix plan cs ↔ ((left : Remaining) × Spelled (whole plan) cs left))
    × (Unrolls plan cs ↔ Spelled (whole plan) cs (whole []))
