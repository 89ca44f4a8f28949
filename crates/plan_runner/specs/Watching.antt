-- What a plan that is watched does to the list of its seat, and what its watcher sees and hears of that.
use Rattle.std.specs.Prelude.{◌≡◌, ◌⊎◌, ℕ, ◌+◌, Bool, true, false, List, ◌++◌, Some, length}
use Rattle.cluster_admin.specs.declared.admin.AdminCommand.{AdminCommand}
use Rattle.cluster_admin.specs.declared.admin.AdminReply.{AdminReply}
use Rattle.cluster_admin.specs.declared.call.AdminCall.{AdminCall}
use Rattle.cluster_admin.specs.declared.port_fault.PortFault.{PortFault}
use Rattle.byte_texts.specs.Outcomes.{Chain}
use Rattle.plan_semantics.specs.Orders.{sending}
use Rattle.plan_semantics.specs.declared.order.Order.{Order}
use Rattle.plan_runner.specs.ProgressView.{Progress}
use Rattle.plan_runner.specs.Advancing.{IsPending, PortState, PortSteps, Runs, Sends}
use Rattle.plan_runner.specs.declared.plan_state.PlanState.{PlanState}
use Rattle.plan_runner.specs.declared.plan_state.PlanState.TheVariants as states
use Rattle.plan_runner.specs.declared.stop_cause.StopCause.TheVariants as causes

-- the command of a call is shown before it is sent, and its reply after that
abbrev pub WatchesCall : {W : Type 0} → (sees : W → Order → Bool → W → Type 0) → (hears : W → AdminReply → W → Type 0)
    → W → AdminCall → W → Type 0
WatchesCall {W} sees hears first c last =
    (shown : W) × sees first (record { node = c.node; command = c.command }) true shown × hears shown c.reply last

-- what a port does, and what its watcher makes of that: of a command that is next, of a reply, and of a fault
pub record WatchedSteps (P W : Type 0) : Type 1 where
  pub moves : P → AdminCall → P → Type 0
  pub fails : P → ℕ → AdminCommand → PortFault → P → Type 0
  pub sees : W → Order → Bool → W → Type 0
  pub hears : W → AdminReply → W → Type 0
  pub misses : W → PortFault → W → Type 0

-- What port and watcher do together: a call, which the watcher sees and hears; or the port fails at a command that the
-- watcher had seen, which is told
abbrev pub both : {P W : Type 0} → WatchedSteps P W → PortSteps (P × W)
both {P} {W} by = record {
  moves = λ first c last. by.moves first.0 c last.0 × WatchesCall by.sees by.hears first.1 c last.1;
  fails = λ first n c f last. by.fails first.0 n c f last.0
      × ((shown : W) × by.sees first.1 (record { node = n; command = c }) true shown × by.misses shown f last.1);
}

-- the watcher gave the plan up before this command was sent, and the port is as it was
abbrev pub GivesUp : {P W : Type 0} → (sees : W → Order → Bool → W → Type 0) → P × W → P × W → Order → Type 0
GivesUp sees first last s = sees first.1 s false last.1 × (last.0 ≡ first.0)

-- as a plan that nobody watches; or it was given up
abbrev pub SendsWatched : {P W : Type 0} → WatchedSteps P W → PortState (P × W) → PortState (P × W) → Progress
    → PlanState → Type 0
SendsWatched by first last p j =
    Sends (both by) first last p j
    ⊎ ((s : Order) × (sending p.rest p.listed ≡ Some s) × (last.calls ≡ first.calls)
    × GivesUp by.sees first.port last.port s × (j ≡ states.Stopped causes.Abandoned p.spent))

-- A whole run: as one that nobody watches, where the watcher saw each command before it was sent and heard each reply
-- before the next command; or after some calls the plan was given up, before the next command was sent
abbrev pub RunsWatched : {P W : Type 0} → WatchedSteps P W → PortState (P × W) → PortState (P × W) → Progress
    → PlanState → Type 0
RunsWatched {P} {W} by first last p end =
    Runs (both by) first last p end
    ⊎ ((cs : List AdminCall) × (at : P × W) × (s : Order) × (last.calls ≡ first.calls ++ cs) × IsPending p cs s
    × Chain (both by).moves first.port cs at × GivesUp by.sees at last.port s
    × (end ≡ states.Stopped causes.Abandoned (p.spent + length cs)))
