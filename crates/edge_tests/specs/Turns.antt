-- A plan that takes turns with a client over a world.
use Rattle.std.specs.Prelude.{◌≡◌, length}
use Rattle.cluster_world.specs.Worlds.{World}
use Rattle.plan_runner.specs.declared.running.Taken.{Taken}
use Rattle.plan_runner.specs.declared.running.Taken.TheVariants.{Running, Done, Stopped}

-- a plan that runs is one for a cluster of as many nodes as the world has
abbrev pub Fits : {S : Type 0} → Taken S → World → Type 0
Fits (Running r) w = length w.nodes ≡ r.progress.nodes
Fits (Done d) w = Unit {0}
Fits (Stopped s) w = Unit {0}
