-- A plan that is not carried out whole has taken fewer calls than its cost.
use Rattle.std.proofs.Common.{◌≡◌, ◌+◌, ◌≤◌, List, [], ◌∷◌, ◌++◌, length, ap, ◌∙◌, subst, length-append, arith}
use Rattle.cluster_world.specs.Worlds.{World}
use Rattle.cluster_world.specs.Steps.{after}
use Rattle.cluster_world.specs.Servers.{AnswersAsServer, ServerRun}
use Rattle.cluster_world.specs.declared.event.Event.{Event}
use Rattle.cluster_world.specs.declared.event.Event.TheVariants.{Admin}
use Rattle.cluster_world.specs.AdminCalls.{calls}
use Rattle.plan_semantics.specs.Costs.{plan_cost}
use Rattle.reshard_theorem.specs.Counts.{counts, first_counts}
use Rattle.reshard_theorem.specs.ServerRuns.{IsDrivenServerRun, ServerGoesOn, ServersStayBelowCost}
use Rattle.reshard_theorem.proofs.Nexts.{calls-append, some_command_goes_on}
use Rattle.reshard_theorem.proofs.Spending.{within_its_cost}

pub run_more : (es : List Event) (e : Event) (w last : World) → ServerRun w es last → AnswersAsServer last e → ServerRun w (es ++ e ∷ []) (after last e)
run_more [] e w last run answers = (subst (λ x. AnswersAsServer x e) run answers, ap (λ x. after x e) run)
run_more (x ∷ es) e w last run answers = (run.0, run_more es e (after w x) last run.1 answers)

pub stays_below_cost : ServersStayBelowCost
stays_below_cost reshard events last left run fine not_whole =
    let g : ServerGoesOn reshard.plan events last left = some_command_goes_on reshard events last left run fine not_whole in (
      g.order,
      g.is_next,
      λ reply may.
          let e : Event = Admin g.order.node g.order.command reply in
          let d = g.driven reply may in
          let more : IsDrivenServerRun reshard (events ++ e ∷ []) (after last e) d.0 =
          record { starts = run.starts; run = run_more events e reshard.first last run.run (g.there, may); driven = d.1 } in
          let most : length (calls (events ++ e ∷ [])) ≤ plan_cost (counts (first_counts reshard.first reshard.plan) reshard.first (events ++ e ∷ [])) reshard.plan = within_its_cost reshard (events ++ e ∷ []) (after last e) d.0 more in
          let one : length (calls (events ++ e ∷ [])) ≡ length (calls events) + 1 = ap length (calls-append events g.order.node g.order.command reply) ∙ length-append (calls events) _ in
          omega arith,
    )
