-- Runs that a plan drives, whole and step by step.
use Rattle.cluster_world.specs.AdminCalls.{calls}
use Rattle.reshard_theorem.specs.Driven.{DrivenStepByStep}
use Rattle.plan_semantics.proofs.Unrolling.{spelled_by_prefixes}

pub driven_step_by_step : DrivenStepByStep
driven_step_by_step plan events = (
  λ d. let s = (spelled_by_prefixes plan (calls events)).0.0 d.0 in (s.0, (s.1, d.1)),
  λ s. ((spelled_by_prefixes plan (calls events)).0.1 (s.0, s.1.0), s.1.1),
)
