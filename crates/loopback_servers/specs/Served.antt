-- A cluster that was served to its end: the trail that it leaves, and what was printed of that.
use Rattle.std.specs.Prelude.{◌≡◌, ◌++◌, ℕ, List, None, Option, Some, length}
use Rattle.byte_streams.specs.Streams.{Output}
use Rattle.cluster_world.specs.AdminCalls.{calls}
use Rattle.cluster_world.specs.Earning.{IsFirstDishonest}
use Rattle.cluster_world.specs.Steps.{Run}
use Rattle.cluster_world.specs.Trails.{Trail, IsRunFromOpening, opening}
use Rattle.cluster_world.specs.Worlds.{World}
use Rattle.key_slots.specs.Owners.{IsEvenSplit, IsTable, Owners}
use Rattle.loopback_servers.specs.Announcing.{Announces, served_text, verified_line}
use Rattle.loopback_servers.specs.Carrying.{CarriesOut, line_commands}
use Rattle.transcripts.specs.PlanVerdicts.{IsVerifiedFor}
use Rattle.loopback_servers.specs.declared.options.ServeOptions.{ServeOptions}
use Rattle.plan_language.specs.Lines.{plan_commands}
use Rattle.plan_language.specs.PlanView.{PlanView}
use Rattle.plan_language.specs.declared.plan_command.PlanCommand.{PlanCommand}
use Rattle.reshard_theorem.specs.Headline.{Headline}
use Rattle.reshard_theorem.specs.Threads.{from_opening}

-- a cluster with these owners, from this port on, was closed: the trail that it left is a run from its opening
pub record IsClosedTrail (owners : Owners) (base_port : ℕ) (t : Trail) : Type 0 where
  pub owners_are : t.owners ≡ owners
  pub port_is : t.base_port ≡ base_port
  pub run : IsRunFromOpening t

-- its administrator carried out the plan, and did nothing else
pub record IsServedTrail (owners : Owners) (base_port : ℕ) (plan : Option (List PlanCommand)) (t : Trail) : Type 0 where
  pub closed : IsClosedTrail owners base_port t
  pub carried_out : CarriesOut plan (calls t.events)

-- there is such a trail, and its calls and events were counted in what was printed from the ports on
abbrev pub IsServed : {W : Type 0} → Output W → ServeOptions → Owners → (base_port : ℕ) → Option (List PlanCommand)
    → Type 0
IsServed w options owners base_port plan = (t : Trail) × IsServedTrail owners base_port plan t
    × Announces w.took w.failures (served_text options plan (length (calls t.events)) (length t.events)) w.before
    w.after

abbrev pub whole_text : ServeOptions → Option PlanView → (calls events : ℕ) → List ℕ
whole_text options plan calls events = verified_line (line_commands options.nodes plan)
    ++ served_text options (line_commands options.nodes plan) calls events

-- the same of the cluster of the options, after the plan's count
abbrev pub IsServedWhole : {W : Type 0} → Output W → ServeOptions → Option PlanView → Type 0
IsServedWhole w options plan = (o : Owners) × (t : Trail)
    × IsEvenSplit options.nodes options.even o
    × IsServedTrail o options.base_port (line_commands options.nodes plan) t
    × Announces w.took w.failures (whole_text options plan (length (calls t.events)) (length t.events)) w.before w.after

-- The headline holds of a trail that was served with a plan that was verified for its owners, whatever version it is
-- in, where the search for an event that is not honest finds none.
abbrev pub HeadlineOfServed : Type 0
HeadlineOfServed = (plan : PlanView) (t : Trail) (last : World) → IsTable t.owners → IsVerifiedFor t.owners plan
    → IsServedTrail t.owners t.base_port (Some (plan_commands t.owners.nodes plan.lines)) t
    → Run (opening t) t.events last → IsFirstDishonest (opening t) t.events None
    → Headline (from_opening plan.version (plan_commands t.owners.nodes plan.lines) t) t.events last
