-- The steps of a plan of which others are told in one go.
use Rattle.std.specs.Prelude.{◌≡◌, ◌⊎◌, ℕ, ◌<◌, Bool, true, false, List, [], ◌∷◌, ◌++◌, Option, Some, None}
use Rattle.cluster_admin.specs.declared.admin.AdminCommand.TheVariants.{SetNode}
use Rattle.cluster_admin.specs.Phases.{IsDistinct}
use Rattle.cluster_admin.specs.declared.call.AdminCall.{AdminCall}
use Rattle.plan_runner.specs.ProgressView.{Progress}
use Rattle.plan_runner.specs.declared.plan_state.PlanState.{PlanState}
use Rattle.plan_runner.specs.declared.plan_state.PlanState.TheVariants as states
use Rattle.plan_semantics.specs.declared.order.Order.{Order}
use Rattle.redis_servers.specs.InOneGo.{AreOthers}
use Rattle.redis_servers.specs.Runs.{Runs}
use Rattle.redis_servers.specs.declared.port.ServersPort as port
use Rattle.server_links.specs.Streams.{Streams}
use Rattle.server_runs.specs.InOneGo.{EndsAt, IsGroup, LastTold, Takes, Watching, WatchesGroup, state_of}
use Rattle.server_runs.specs.InOneGo.{owner_told_at}
use Rattle.server_runs.specs.declared.run_end.RunEnd.{RunEnd}
use Rattle.server_runs.specs.declared.steps.Step.{Step}
use Rattle.server_runs.specs.declared.steps.Step.TheVariants.{On, Over}
use Rattle.server_runs.specs.declared.slot_owner.SlotOwner.{SlotOwner}

-- what an order tells, if there is one
abbrev pub owner_told_by : Option Order → Option SlotOwner
owner_told_by None = None
owner_told_by (Some o) = owner_told_at o.node o.command

-- the plan as a step has left it
abbrev pub state_after : Step → PlanState
state_after (On r told) = states.Running r.progress
state_after (Over end) = state_of end

-- of which owner another node was told last, where the plan continues
abbrev pub told_after : Option SlotOwner → Step → Type 0
told_after told (On r last) = last ≡ told
told_after told (Over end) = Unit {0}

-- these calls tell that
abbrev pub IsToldBy : Step → List AdminCall → Type 0
IsToldBy (On r told) g = LastTold told g
IsToldBy (Over end) g = Unit {0}

-- a step that ends a run
abbrev pub IsOver : Step → (RunEnd → Type 0) → Type 0
IsOver (On r told) ends = ⊥
IsOver (Over end) ends = ends end

-- answers of others ended the run, or left the plan as if all were OK
abbrev pub IsBehind : Option RunEnd → SlotOwner → PlanState → Step → Type 0
IsBehind (Some end) x j step = IsOver step (λ e. e ≡ end)
IsBehind None x j step = (state_after step ≡ j) × told_after (Some x) step

-- other nodes of so many, no node twice
abbrev pub AreAhead : (count : ℕ) → SlotOwner → (nodes : List ℕ) → Type 0
AreAhead k x ns = AreOthers k x.owner ns × IsDistinct ns

-- the next command tells one more of them, which stands after the others now; or they stay as they are
abbrev pub PutsNext : (next : Option Order) → (count : ℕ) → SlotOwner → (left : ℕ) → (told told' : List ℕ) → Bool
    → Type 0
PutsNext next k x left told told' true = (n : ℕ) × (told' ≡ told ++ n ∷ []) × AreAhead k x told' × (0 < left)
    × (next ≡ Some (record { node = n; command = SetNode x.slot x.owner }))
PutsNext next k x left told told' false = told' ≡ told

-- the commands were shown, and all are to be sent; or the watcher gave the plan up at one of them
abbrev pub ShowsEach : {W : Type 0} → Watching W → W → List Order → Bool → W → Type 0
ShowsEach by w [] all w' = (all ≡ true) × (w' ≡ w)
ShowsEach {W} by w (o ∷ os) all w' = (by.sees w o false w' × (all ≡ false))
    ⊎ ((mid : W) × by.sees w o true mid × ShowsEach by mid os all w')

module _ {I O P W : Type 0} (streams : Streams I O) (by : Watching W) where
  -- A group of calls was answered, and left this of the plan
  pub record GroupRan (told : Option SlotOwner) (first : port.ServersPort I O P × W) (p : Progress) (g : List AdminCall)
      (last : port.ServersPort I O P × W) (left : PlanState) : Type 0 where
    pub group : IsGroup told g
    pub ran : Runs streams first.0 g last.0
    pub watched : WatchesGroup by first.1 g last.1
    pub takes : Takes p g left

  -- A step: a group was answered, or the run ends
  abbrev pub Advances : (told : Option SlotOwner) → port.ServersPort I O P × W → Progress
      → port.ServersPort I O P × W → Step → Type 0
  Advances told first p last step =
      ((g : List AdminCall) × GroupRan told first p g last (state_after step) × IsToldBy step g)
      ⊎ IsOver step (EndsAt streams by told first last p)
