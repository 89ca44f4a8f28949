-- What is left of a plan that runs on.
use Rattle.std.proofs.Common.{sym, subst, is_some, ◌+◌}
use Rattle.plan_semantics.specs.Driving.{Spells, called}
use Rattle.plan_runner.specs.Finishing.{IsOpen}
use Rattle.plan_runner.specs.PlanStates.{after}
use Rattle.plan_runner.specs.ProgressView.{Progress, left_of}
use Rattle.plan_runner.specs.Advancing.{waits}
use Rattle.plan_runner.proofs.Going.{run_at, running_left}
use Rattle.plan_runner.proofs.Spelling.{spells_after}
use Rattle.plan_runner.specs.Taking.{TakingSpells}

pub taking_spells : TakingSpells
taking_spells p q o reply open_first next running =
    let r = run_at p.nodes (after p.rest (is_some p.listed) reply) (p.spent + 1) p.most q (running_left (waits p) reply q running) in
    let t = spells_after p.rest p.listed o reply r.0 open_first next r.1 in
    (subst (λ (x : Progress). Spells (left_of p) (called o.node o.command reply) (left_of x)) (sym r.2) t.0, subst (λ (x : Progress). IsOpen x.rest x.listed) (sym r.2) t.1)
