-- A plan of which the other nodes of a slot are told in one go: once a node other than the target was told of a slot's
-- owner, the command goes to all nodes that the plan tells next of that owner, each over its own connection, and after
-- that their answers are read.
use Rattle.std.specs.Prelude.{◌≡◌, ◌≢◌, ◌⊎◌, ℕ, ◌+◌, Bool, true, false, cond, ◌==◌, List, [], ◌∷◌, ◌++◌, length}
use Rattle.std.specs.Prelude.{map, filter, Option, Some, None, Result, Ok, Err, IfSome}
use Rattle.std.specs.List.{AllByRecursion}
use Rattle.byte_texts.specs.Outcomes.{Chain}
use Rattle.cluster_admin.specs.declared.admin.AdminCommand.{AdminCommand}
use Rattle.cluster_admin.specs.declared.admin.AdminCommand.TheVariants.{SetNode}
use Rattle.cluster_admin.specs.declared.admin.AdminReply.{AdminReply}
use Rattle.cluster_admin.specs.declared.admin.AdminReply.TheVariants as reply
use Rattle.cluster_admin.specs.Phases.{IsDistinct}
use Rattle.cluster_admin.specs.declared.call.AdminCall.{AdminCall}
use Rattle.cluster_admin.specs.declared.port_fault.PortFault.{PortFault}
use Rattle.plan_changes.specs.Loads.{most}
use Rattle.plan_runner.specs.Advancing.{IsNext, runs_on, stopped_by}
use Rattle.plan_runner.specs.PlanStates.{plan_after}
use Rattle.plan_runner.specs.ProgressView.{Progress, waits}
use Rattle.plan_runner.specs.declared.plan_state.PlanState.{PlanState}
use Rattle.plan_runner.specs.declared.plan_state.PlanState.TheVariants as states
use Rattle.plan_runner.specs.declared.stop_cause.StopCause.TheVariants as causes
use Rattle.plan_semantics.specs.Driving.{called}
use Rattle.plan_semantics.specs.declared.order.Order.{Order}
use Rattle.redis_servers.specs.Calls.{Given}
use Rattle.redis_servers.specs.InOneGo.{TellsInOneGo, is_done}
use Rattle.redis_servers.specs.Ports.{Fails}
use Rattle.redis_servers.specs.Runs.{Runs}
use Rattle.redis_servers.specs.declared.port.ServersPort as port
use Rattle.server_links.specs.Streams.{Streams}
use Rattle.server_runs.specs.declared.run_end.RunEnd.{RunEnd}
use Rattle.server_runs.specs.declared.run_end.RunEnd.TheVariants.{Done, Stopped}
use Rattle.server_runs.specs.declared.slot_owner.SlotOwner.{SlotOwner}
use Rattle.plan_semantics.specs.Tellings.{LastTells}

-- ---- tellings

-- of which slot's owner a command tells a node, if the node is another one
abbrev pub owner_told_at : (node : ℕ) → AdminCommand → Option SlotOwner
owner_told_at n (SetNode s t) = cond (t == n) None (Some (record { slot = s; owner = t }))
owner_told_at n other = None

-- the node was told, and has answered OK
abbrev pub told_call : SlotOwner → (node : ℕ) → AdminCall
told_call x n = called n (SetNode x.slot x.owner) reply.Ok

-- other nodes than the owner, no node twice
pub record AreToldOnce (x : SlotOwner) (nodes : List ℕ) : Type 0 where
  pub others : AllByRecursion (λ n. n ≢ x.owner) nodes
  pub distinct : IsDistinct nodes

-- the last of these calls told another node of this owner, if one is given
abbrev pub LastTold : Option SlotOwner → List AdminCall → Type 0
LastTold told cs = IfSome told (λ x. LastTells x.slot x.owner cs)

-- ---- what is sent together

-- one call, or calls by which other nodes are told in one go, of what another node was told before
abbrev pub IsGroup : (told : Option SlotOwner) → List AdminCall → Type 0
IsGroup told g = ((c : AdminCall) × (g ≡ c ∷ []))
    ⊎ ((x : SlotOwner) × (n : ℕ) × (nodes : List ℕ) × (told ≡ Some x) × AreToldOnce x (n ∷ nodes)
    × (g ≡ map (told_call x) (n ∷ nodes)))

-- the calls of groups, one after the other
abbrev pub calls_in : List (List AdminCall) → List AdminCall
calls_in [] = []
calls_in (g ∷ gs) = g ++ calls_in gs

-- groups, one after the other, after these calls
abbrev pub AreGroups : (before : List AdminCall) → List (List AdminCall) → Type 0
AreGroups before [] = Unit {0}
AreGroups before (g ∷ gs) =
    ((told : Option SlotOwner) × LastTold told before × IsGroup told g) × AreGroups (before ++ g) gs

-- ---- what a watcher makes of that

-- what a watcher makes of a command that is next, of a reply, and of a fault
pub record Watching (W : Type 0) : Type 1 where
  pub sees : W → Order → Bool → W → Type 0
  pub hears : W → AdminReply → W → Type 0
  pub misses : W → PortFault → W → Type 0

module _ {W : Type 0} (by : Watching W) where
  -- each of the commands was shown, and is to be sent
  abbrev pub SeesEach : W → List Order → W → Type 0
  SeesEach w [] w' = w' ≡ w
  SeesEach w (o ∷ os) w' = (mid : W) × by.sees w o true mid × SeesEach mid os w'

  -- an answer, or that there is none, was told
  abbrev pub HearsOne : W → Given → W → Type 0
  HearsOne w (Ok r) w' = by.hears w r w'
  HearsOne w (Err f) w' = by.misses w f w'

  abbrev pub HearsEach : W → List Given → W → Type 0
  HearsEach w [] w' = w' ≡ w
  HearsEach w (a ∷ answers) w' = (mid : W) × HearsOne w a mid × HearsEach mid answers w'

-- the command of a call, and its answer
abbrev pub order_of : AdminCall → Order
order_of c = record { node = c.node; command = c.command }

abbrev pub answer_of : AdminCall → Given
answer_of c = Ok c.reply

-- All commands of a group are shown before one is sent, and after that their replies, in the commands' order
abbrev pub WatchesGroup : {W : Type 0} → Watching W → W → List AdminCall → W → Type 0
WatchesGroup {W} by first g last =
    (shown : W) × SeesEach by first (map order_of g) shown × HearsEach by shown (map answer_of g) last

-- ---- the plan

-- each of the calls is the plan's next command as those before it left it, and they make this of the plan
abbrev pub Takes : Progress → List AdminCall → PlanState → Type 0
Takes p [] j = j ≡ states.Running p
Takes p (c ∷ cs) j =
    IsNext p c × runs_on (plan_after (waits p) c.reply) (λ q. Takes q cs j) (λ e. (cs ≡ []) × (j ≡ e))

-- they make this of what is left of a plan
abbrev pub TakesFrom : PlanState → List AdminCall → PlanState → Type 0
TakesFrom from cs j = runs_on from (λ q. Takes q cs j) (λ e. (cs ≡ []) × (j ≡ e))

-- how a run of a plan ended, as a state of the plan
abbrev pub state_of : RunEnd → PlanState
state_of (Done n) = states.Done n
state_of (Stopped cause n) = states.Stopped cause n

-- ---- answers that end a run

abbrev pub done_in : List Given → ℕ
done_in answers = length (filter is_done answers)

abbrev pub first_undone : List Given → Option Given
first_undone [] = None
first_undone (a ∷ answers) = cond (is_done a) (first_undone answers) (Some a)

-- after so many answers, by one that is not OK
abbrev pub end_by : (answered : ℕ) → Given → RunEnd
end_by n (Ok (reply.Refused f)) = Stopped (causes.Refused (most (n + 1)) f) (most (n + 1))
end_by n (Ok reply.Ok) = Stopped causes.StrangeReply (most (n + 1))
end_by n (Ok reply.NoKey) = Stopped causes.StrangeReply (most (n + 1))
end_by n (Ok (reply.Keys ks)) = Stopped causes.StrangeReply (most (n + 1))
end_by n (Err f) = Stopped (stopped_by f) n

-- The first answer that is not OK ends the run; it is counted after all that are.
abbrev pub end_after : (spent : ℕ) → Option Given → List Given → Option RunEnd
end_after n None answers = None
end_after n (Some a) answers = Some (end_by (most (n + done_in answers)) a)

-- ---- a run

module _ {I O P W : Type 0} (streams : Streams I O) (by : Watching W) where
  -- nothing was left of the plan
  pub record IsEmpty (at last : port.ServersPort I O P × W) (q : Progress) (end : RunEnd) : Type 0 where
    pub rest : q.rest ≡ []
    pub same : last ≡ at
    pub is : end ≡ Done q.spent

  -- some commands that are next were shown, and at the next one the watcher gave the plan up, with none of them sent
  pub record IsGivenUp (at last : port.ServersPort I O P × W) (q : Progress) (end : RunEnd) : Type 0 where
    pub cs : List AdminCall
    pub state : PlanState
    pub next : Takes q cs state
    pub shown : List Order
    pub order : Order
    pub later : List Order
    pub orders : map order_of cs ≡ shown ++ order ∷ later
    pub between : W
    pub sees : SeesEach by at.1 shown between
    pub gives_up : by.sees between order false last.1
    pub port : last.0 ≡ at.0
    pub is : end ≡ Stopped causes.Abandoned q.spent

  -- Commands that are next were shown, and the port failed at the first of them
  pub record IsFailed (at last : port.ServersPort I O P × W) (q : Progress) (end : RunEnd) : Type 0 where
    pub call : AdminCall
    pub cs : List AdminCall
    pub state : PlanState
    pub next : Takes q (call ∷ cs) state
    pub shown : W
    pub sees : SeesEach by at.1 (map order_of (call ∷ cs)) shown
    pub fault : PortFault
    pub fails : Fails streams at.0 call.node call.command fault last.0
    pub misses : by.misses shown fault last.1
    pub is : end ≡ Stopped (stopped_by fault) q.spent

  -- Others were told in one go, and not all of them have answered OK. All answers were read and told.
  pub record IsStoppedInOneGo (told : Option SlotOwner) (at last : port.ServersPort I O P × W) (q : Progress)
      (end : RunEnd) : Type 0 where
    pub owned : SlotOwner
    pub behind : told ≡ Some owned
    pub node : ℕ
    pub nodes : List ℕ
    pub others : AreToldOnce owned (node ∷ nodes)
    pub state : PlanState
    pub next : Takes q (map (told_call owned) (node ∷ nodes)) state
    pub shown : W
    pub sees : SeesEach by at.1 (map order_of (map (told_call owned) (node ∷ nodes))) shown
    pub answers : List Given
    pub tells : TellsInOneGo streams owned.slot owned.owner (node ∷ nodes) at.0 answers last.0
    pub hears : HearsEach by shown answers last.1
    pub is : Some end ≡ end_after q.spent (first_undone answers) answers

  -- how a run ends of whose plan this is left, and whose last call told another node of this owner, if one is given
  abbrev pub EndsAt : (told : Option SlotOwner) → (at last : port.ServersPort I O P × W) → Progress → RunEnd → Type 0
  EndsAt told at last q end = IsEmpty at last q end ⊎ IsGivenUp at last q end ⊎ IsFailed at last q end
      ⊎ IsStoppedInOneGo told at last q end

  -- the last replies have ended the plan, or it ends so
  abbrev pub EndsBehind : (told : Option SlotOwner) → (at last : port.ServersPort I O P × W) → PlanState → RunEnd
      → Type 0
  EndsBehind told at last left end =
      runs_on left (λ q. EndsAt told at last q end) (λ j. (state_of end ≡ j) × (last ≡ at))

  -- Groups of calls were answered, and left this of the plan
  pub record HasRun (first at : port.ServersPort I O P × W) (start : Progress) (groups : List (List AdminCall))
      (left : PlanState) : Type 0 where
    pub ran : Runs streams first.0 (calls_in groups) at.0
    pub watched : Chain (WatchesGroup by) first.1 groups at.1
    pub takes : Takes start (calls_in groups) left
    pub grouped : AreGroups [] groups

  -- a whole run
  pub record RunsInOneGo (first last : port.ServersPort I O P × W) (start : Progress) (end : RunEnd) : Type 0 where
    pub groups : List (List AdminCall)
    pub at : port.ServersPort I O P × W
    pub left : PlanState
    pub has_run : HasRun first at start groups left
    pub told : Option SlotOwner
    pub last_told : LastTold told (calls_in groups)
    pub ends : EndsBehind told at last left end
