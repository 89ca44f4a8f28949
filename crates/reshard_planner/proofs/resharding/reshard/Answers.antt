use Rattle.std.proofs.Common.{subst, sym, ◌≡◌}
use Rattle.cluster_admin.specs.Phases.{closed_by}
use Rattle.plan_language.specs.Lines.{plan_commands}
use Rattle.plan_semantics.specs.Plans.{Legal}
use Rattle.reshard_planner.specs.Answers.{reshard_answer}
use Rattle.reshard_planner.specs.Laws.{moved_count}
use Rattle.reshard_planner.proofs.Planned.{reshards_are_legal, reshards_move_all}
use Rattle.reshard_planner.proofs.Refused.{handed_on, no_memory}
use Rattle.reshard_planner.proofs.resharding.reshard.Goals as goal

pub returns-clause-legal : goal.returns-clause-legal
returns-clause-legal c =
    subst (λ p. Legal p.version (plan_commands c.args.owners.now.nodes p.lines) (closed_by c.args.owners.now.owners) c.args.owners.now.nodes)
    (sym c.in_ok-plan.ensures)
    (reshards_are_legal c.args.owners.now c.args.sources.now c.args.target c.args.count c.args.batch
    _ c.in_ok-exchange.ensures.table c.requires.target_exists (c.requires.some_keys, c.requires.most_keys)
    (c.in_ok-exchange.ensures.is c.args.batch)).legal

pub returns-clause-moves : goal.returns-clause-moves
returns-clause-moves c =
    subst (λ p. moved_count (plan_commands c.args.owners.now.nodes p.lines) ≡ c.args.count) (sym c.in_ok-plan.ensures)
    (reshards_move_all c.args.owners.now c.args.sources.now c.args.target c.args.count c.args.batch
    _ c.in_ok-exchange.ensures.table c.requires.target_exists (c.requires.some_keys, c.requires.most_keys)
    (c.in_ok-exchange.ensures.is c.args.batch))

pub returns-in_err-exchange-clause-exact : goal.returns-in_err-exchange-clause-exact
returns-in_err-exchange-clause-exact c =
    handed_on c.args.owners.now.nodes (reshard_answer c.args.owners.now c.args.sources.now c.args.target c.args.count c.args.batch)
    c.from_residual.result c.in_err-exchange.field-0.0 c.from_residual.ensures.1 (c.in_err-exchange.ensures c.args.batch)

pub returns-in_err-plan-clause-exact : goal.returns-in_err-plan-clause-exact
returns-in_err-plan-clause-exact c =
    no_memory c.args.owners.now.nodes (reshard_answer c.args.owners.now c.args.sources.now c.args.target c.args.count c.args.batch)
    _ c.from_residual-in_err-plan.result (c.in_ok-exchange.ensures.is c.args.batch) c.from_residual-in_err-plan.ensures.1
