-- A plan that takes turns over a running cluster.
use Rattle.std.specs.Prelude.{◌≡◌, ℕ}
use Rattle.plan_runner.specs.declared.running.Taken.{Taken}
use Rattle.plan_runner.specs.declared.running.Taken.TheVariants.{Running, Done, Stopped}

-- a plan that runs is one for a cluster of so many nodes
abbrev pub Fits : {S : Type 0} → Taken S → ℕ → Type 0
Fits (Running r) n = n ≡ r.progress.nodes
Fits (Done d) n = Unit {0}
Fits (Stopped s) n = Unit {0}
