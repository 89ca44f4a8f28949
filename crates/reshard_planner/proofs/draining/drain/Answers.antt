use Rattle.std.proofs.Common.{subst, sym}
use Rattle.cluster_admin.specs.Phases.{closed_by}
use Rattle.plan_language.specs.Lines.{plan_commands}
use Rattle.plan_semantics.specs.Plans.{Legal}
use Rattle.reshard_planner.specs.Answers.{drain_answer}
use Rattle.reshard_planner.specs.Draining.{IsDrain}
use Rattle.reshard_planner.proofs.Drained.{drains_are_legal, drains_empty_sources}
use Rattle.reshard_planner.proofs.Refused.{handed_on, no_memory}
use Rattle.reshard_planner.proofs.draining.drain.Goals as goal

pub returns-clause-legal : goal.returns-clause-legal
returns-clause-legal c =
    let o = c.args.owners.now in
    subst (λ p. Legal p.version (plan_commands o.nodes p.lines) (closed_by o.owners) o.nodes) (sym c.in_ok-plan.ensures)
    (drains_are_legal o c.args.sources.now c.args.targets.now c.args.batch _ c.in_ok-exchange.ensures.table
    c.requires.targets_exist (c.requires.some_keys, c.requires.most_keys)
    (c.in_ok-exchange.ensures.is c.args.batch)).legal

pub returns-clause-drains : goal.returns-clause-drains
returns-clause-drains c =
    let o = c.args.owners.now in
    subst (λ p. IsDrain o c.args.sources.now c.args.targets.now p.lines) (sym c.in_ok-plan.ensures)
    (drains_empty_sources o c.args.sources.now c.args.targets.now c.args.batch _ c.in_ok-exchange.ensures.table
    c.requires.targets_exist (c.requires.some_keys, c.requires.most_keys) (c.in_ok-exchange.ensures.is c.args.batch))

pub returns-in_err-exchange-clause-exact : goal.returns-in_err-exchange-clause-exact
returns-in_err-exchange-clause-exact c =
    handed_on c.args.owners.now.nodes
    (drain_answer c.args.owners.now c.args.sources.now c.args.targets.now c.args.batch) c.from_residual.result
    c.in_err-exchange.field-0.0 c.from_residual.ensures.1 (c.in_err-exchange.ensures c.args.batch)

pub returns-in_err-plan-clause-exact : goal.returns-in_err-plan-clause-exact
returns-in_err-plan-clause-exact c =
    no_memory c.args.owners.now.nodes
    (drain_answer c.args.owners.now c.args.sources.now c.args.targets.now c.args.batch) _
    c.from_residual-in_err-plan.result (c.in_ok-exchange.ensures.is c.args.batch)
    c.from_residual-in_err-plan.ensures.1
