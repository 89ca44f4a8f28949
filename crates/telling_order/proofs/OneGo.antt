-- A run that stopped while nodes were told in one go is a run of a plan that tells these first.
use Rattle.std.proofs.Common.{◌≡◌, ℕ, true, List, [], ◌∷◌, ◌++◌, append_assoc, length, sym, refl, ap, subst}
use Rattle.std.specs.List.{AllByRecursion}
use Rattle.cluster_admin.specs.declared.admin.AdminCommand.TheVariants.{SetNode}
use Rattle.cluster_world.specs.Honesty.{Honest, past_of}
use Rattle.cluster_world.specs.Openness.{Open}
use Rattle.cluster_admin.specs.Phases.{Phases, among}
use Rattle.cluster_world.specs.Servers.{ServerRun}
use Rattle.cluster_world.specs.Serving.{served, store_after}
use Rattle.cluster_world.specs.Worlds.{World}
use Rattle.cluster_admin.specs.declared.call.AdminCall.{AdminCall}
use Rattle.cluster_world.specs.declared.event.Event.{Event}
use Rattle.plan_language.specs.declared.plan_command.PlanCommand.{PlanCommand}
use Rattle.cluster_world.specs.AdminCalls.{calls}
use Rattle.plan_semantics.specs.Driving.{whole}
use Rattle.plan_semantics.specs.Plans.{Legal, tell}
use Rattle.reshard_theorem.specs.Starts.{Reshard, Starts}
use Rattle.plan_semantics.specs.Unrolling.{IsPrefix, Unrolls}
use Rattle.reshard_theorem.proofs.Driven.{driven_step_by_step}
use Rattle.plan_semantics.proofs.OnePhase.{all_among}
use Rattle.plan_semantics.proofs.Unrolling.{spelled_by_prefixes}
use Rattle.reshard_theorem.specs.ServerHeadline.{IsServerRunOf, ServerHeadline, ServerHeadlineHolds}
use Rattle.reshard_theorem.specs.ServerRuns.{ServerPrefixesAreDriven, ServersLeaveOpen}
use Rattle.telling_order.specs.AnyOrder.{IsSourceTold, TellsInAnotherOrder, TellsInAnyOrder}
use Rattle.telling_order.specs.Headline.{AreAsGood, reordered}
use Rattle.telling_order.specs.OneGo.{AreToldInOneGo, StopsInOneGo, as_told, nodes_called, still_left}
use Rattle.telling_order.proofs.Blocks.{tell_join}
use Rattle.telling_order.proofs.Once.{nodes_distinct}
use Rattle.telling_order.proofs.Plans.{are_as_good, starts_so}
use Rattle.telling_order.proofs.StillLeft.{told_first}
use Rattle.telling_order.proofs.Unrollings.{unrolls_join}

-- ---- calls that tell

told_unrolls : (s t : ℕ) (nodes : List ℕ) (cs : List AdminCall)
    → AllByRecursion (λ c. (c.command ≡ SetNode s t) × (among c.node nodes ≡ true)) cs
    → Unrolls (tell s t (nodes_called cs)) cs
told_unrolls s t nodes [] all = refl
told_unrolls s t nodes (c ∷ cs) all = (
  c.reply,
  cs,
  ap (λ k. record { node = c.node; command = k; reply = c.reply } ∷ cs) all.0.0,
  told_unrolls s t nodes cs all.1,
)

called_among : (s t : ℕ) (nodes : List ℕ) (cs : List AdminCall)
    → AllByRecursion (λ c. (c.command ≡ SetNode s t) × (among c.node nodes ≡ true)) cs
    → AllByRecursion (λ m. among m nodes ≡ true) (nodes_called cs)
called_among s t nodes [] all = tt
called_among s t nodes (c ∷ cs) all = (all.0.1, called_among s t nodes cs all.1)

-- ---- told in one go

-- the nodes in the order in which they were told, and then those that are left
abbrev pub in_their_order : (nodes : List ℕ) → List AdminCall → List ℕ
in_their_order nodes cs = nodes_called cs ++ still_left (nodes_called cs) nodes

module _ (s t : ℕ) (nodes : List ℕ) (cs : List AdminCall) (are : AreToldInOneGo s t nodes cs)
    (front back : List PlanCommand) where
  abbrev pub told_plan : List PlanCommand
  told_plan = front ++ (tell s t (in_their_order nodes cs) ++ back)

  -- after what spells the front
  pub told_prefix : (before : List AdminCall) → Unrolls front before → IsPrefix told_plan (before ++ cs)
  told_prefix before carried_out =
      let told = nodes_called cs in
      let left = still_left told nodes in
      let rest = tell s t left ++ back in
      let more = (spelled_by_prefixes rest []).0.1 (whole rest, (refl, refl)) in
      let go = unrolls_join (tell s t told) rest cs more.0 (told_unrolls s t nodes cs are.each) more.1 in
      let all = unrolls_join front (tell s t told ++ rest) before (cs ++ more.0) carried_out go in (
        more.0,
        subst (λ l. Unrolls (front ++ l) ((before ++ cs) ++ more.0)) (tell_join s t told left back)
            (subst (Unrolls (front ++ (tell s t told ++ rest))) (sym (append_assoc before cs more.0)) all),
      )

  pub told_in_another : (v n : ℕ) (phases : Phases) (plan : List PlanCommand) → Legal v plan phases n
      → IsSourceTold phases front s t → plan ≡ front ++ (tell s t nodes ++ back)
      → TellsInAnotherOrder phases plan told_plan
  told_in_another v n phases plan legal told is = record {
    s = s;
    target = t;
    front = front;
    back = back;
    nodes = nodes;
    nodes' = in_their_order nodes cs;
    told = told;
    reordered = told_first (nodes_called cs) nodes are.once
        (nodes_distinct v n phases plan front back s t nodes is legal)
        (all_among (λ m. among m nodes ≡ true) (nodes_called cs) (called_among s t nodes cs are.each));
    is = is;
    other_is = refl;
  }

-- one plan more
tells_then : (phases : Phases) (plan next other : List PlanCommand) (between : List (List PlanCommand))
    → TellsInAnyOrder phases plan between next → TellsInAnotherOrder phases next other
    → TellsInAnyOrder phases plan (between ++ other ∷ []) other
tells_then phases plan next other [] is tells =
    (subst (λ l. TellsInAnotherOrder phases l other) is tells, refl)
tells_then phases plan next other (b ∷ between) is tells =
    (is.0, tells_then phases b next other between is.1 tells)

-- ---- the headline

-- what holds of a run that a plan in another order drives
pub record RunsSo (reshard : Reshard) (other : List PlanCommand) (events : List Event) (last : World) : Type 0 where
  pub is_run : IsServerRunOf (reordered reshard other) events last
  pub headline : ServerHeadline (reordered reshard other) events last
  pub as_good : AreAsGood reshard other events
  pub is_open : (now : Phases)
      × Open last now (store_after reshard.store (served events)) (past_of reshard.before events)

pub runs_so : ServerHeadlineHolds → ServerPrefixesAreDriven → ServersLeaveOpen → (reshard : Reshard)
    (other : List PlanCommand) (between : List (List PlanCommand)) (events : List Event) (last : World)
    → Starts reshard → TellsInAnyOrder reshard.phases reshard.plan between other
    → ServerRun reshard.first events last → Honest reshard.first reshard.before events
    → IsPrefix other (calls events) → RunsSo reshard other events last
runs_so holds prefixes opens reshard other between events last starts tells run honest prefix =
    let begins = starts_so reshard other between tells starts in
    let driven = prefixes (reordered reshard other) events last begins run prefix honest in
    let is_run : IsServerRunOf (reordered reshard other) events last =
    record {
      starts = begins;
      run = run;
      driven = (driven_step_by_step other events).1 (driven.0, driven.1.drives.driven);
      honest = honest;
    } in
    record {
      is_run = is_run;
      headline = holds (reordered reshard other) events last is_run;
      as_good = are_as_good reshard other between events tells;
      is_open = opens (reordered reshard other) events last driven.0 driven.1;
    }

pub stops_in_one_go : ServerHeadlineHolds → ServerPrefixesAreDriven → ServersLeaveOpen → StopsInOneGo
stops_in_one_go holds prefixes opens reshard plan between events last starts is stop run honest =
    let other = as_told reshard.phases plan events stop in
    let legal : Legal reshard.version plan reshard.phases (length reshard.first.nodes) =
    (starts_so reshard plan between is starts).legal in
    let tells : TellsInAnotherOrder reshard.phases plan other =
    told_in_another stop.s stop.target stop.nodes stop.in_one_go stop.are_told stop.front stop.back reshard.version
    (length reshard.first.nodes) reshard.phases plan legal stop.told stop.is in
    let prefix : IsPrefix other (calls events) =
    subst (IsPrefix other) (sym stop.calls_are)
    (told_prefix stop.s stop.target stop.nodes stop.in_one_go stop.are_told stop.front stop.back stop.before
    stop.carried_out) in
    let by = tells_then reshard.phases reshard.plan plan other between is tells in
    let all = between ++ other ∷ [] in
    let r = runs_so holds prefixes opens reshard other all events last starts by run honest prefix in
    record {
      tells = tells;
      is_run = r.is_run;
      headline = r.headline;
      as_good = r.as_good;
      is_open = r.is_open;
    }
