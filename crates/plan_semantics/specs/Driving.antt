-- Runs that a plan drives, step by step.
use Rattle.std.specs.Prelude.{◌≡◌, ℕ, ◌⊎◌, Bool, true, false, List, [], ◌∷◌, Option, Some, None}
use Rattle.cluster_admin.specs.Keys.{Key}
use Rattle.cluster_admin.specs.declared.admin.AdminCommand.{AdminCommand}
use Rattle.cluster_admin.specs.declared.admin.AdminCommand.TheVariants.{Importing, Migrating, SetNode, Stable, KeysIn}
use Rattle.cluster_admin.specs.declared.admin.AdminCommand.TheVariants.{Migrate}
use Rattle.cluster_admin.specs.declared.admin.AdminReply.{AdminReply}
use Rattle.cluster_admin.specs.declared.admin.AdminReply.TheVariants as reply
use Rattle.cluster_admin.specs.declared.call.AdminCall.{AdminCall}
use Rattle.plan_language.specs.declared.plan_command.PlanCommand.{PlanCommand}
use Rattle.plan_language.specs.declared.plan_command.PlanCommand.TheVariants as planned

-- what is left of a plan: its commands, and the keys of a listing that no MIGRATE has followed yet
pub record Remaining : Type 0 where
  pub rest : List PlanCommand
  pub listed : Option (List Key)

abbrev pub remaining : List PlanCommand → Option (List Key) → Remaining
remaining plan listed = record { rest = plan; listed = listed }

-- all of a plan
abbrev pub whole : List PlanCommand → Remaining
whole plan = remaining plan None

abbrev pub called : (node : ℕ) → AdminCommand → AdminReply → AdminCall
called n c r = record { node = n; command = c; reply = r }

-- what the call spells of these commands, where these keys were listed or none, and what it leaves
abbrev pub SpellsNext : List PlanCommand → Option (List Key) → AdminCall → Remaining → Type 0
SpellsNext [] listed c left = ⊥
SpellsNext (planned.Importing s m at ∷ plan) None c left =
    (c.node ≡ at) × (c.command ≡ Importing s m) × (left.rest ≡ plan) × (left.listed ≡ None)
SpellsNext (planned.Migrating s m at ∷ plan) None c left =
    (c.node ≡ at) × (c.command ≡ Migrating s m) × (left.rest ≡ plan) × (left.listed ≡ None)
SpellsNext (planned.SetNode s m at ∷ plan) None c left =
    (c.node ≡ at) × (c.command ≡ SetNode s m) × (left.rest ≡ plan) × (left.listed ≡ None)
SpellsNext (planned.Stable s at ∷ plan) None c left =
    (c.node ≡ at) × (c.command ≡ Stable s) × (left.rest ≡ plan) × (left.listed ≡ None)
SpellsNext (planned.Drain s m t b ∷ plan) None c left = (c.node ≡ m) × (c.command ≡ KeysIn s b)
    × (((c.reply ≡ reply.Keys []) × (left.rest ≡ plan) × (left.listed ≡ None))
    ⊎ ((k : Key) × (ks : List Key) × (c.reply ≡ reply.Keys (k ∷ ks)) × (left.rest ≡ planned.Drain s m t b ∷ plan)
    × (left.listed ≡ Some (k ∷ ks))))
SpellsNext (planned.Drain s m t b ∷ plan) (Some ks) c left =
    (c.node ≡ m) × (c.command ≡ Migrate ks t) × (left.rest ≡ planned.Drain s m t b ∷ plan) × (left.listed ≡ None)
SpellsNext (o ∷ plan) (Some ks) c left = ⊥

-- the call spells what comes next of what is left, and leaves this of it
abbrev pub Spells : Remaining → AdminCall → Remaining → Type 0
Spells left c next = SpellsNext left.rest left.listed c next

-- the calls spell it call by call, and leave this
abbrev pub Spelled : Remaining → List AdminCall → Remaining → Type 0
Spelled left [] last = (last.rest ≡ left.rest) × (last.listed ≡ left.listed)
Spelled left (c ∷ cs) last = (mid : Remaining) × Spells left c mid × Spelled mid cs last

abbrev pub is_refused : AdminReply → Bool
is_refused (reply.Refused fault) = true
is_refused answer = false

-- no call follows a refused one
abbrev pub StopsAtRefusal : List AdminCall → Type 0
StopsAtRefusal [] = Unit {0}
StopsAtRefusal (c ∷ cs) = (is_refused c.reply ≡ true → cs ≡ []) × StopsAtRefusal cs

-- none of the replies is a refusal
abbrev pub NoRefusal : List AdminCall → Type 0
NoRefusal [] = Unit {0}
NoRefusal (c ∷ cs) = (is_refused c.reply ≡ false) × NoRefusal cs
