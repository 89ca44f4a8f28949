-- In runs each listing is answered with a list of keys.
use Rattle.std.specs.Prelude.{List}
use Rattle.cluster_world.specs.AdminCalls.{calls}
use Rattle.cluster_world.specs.Servers.{ServerRun}
use Rattle.cluster_world.specs.Steps.{Run}
use Rattle.cluster_world.specs.Worlds.{World}
use Rattle.cluster_world.specs.declared.event.Event.{Event}
use Rattle.plan_semantics.specs.Listed.{AreListed}

-- the nodes of a world answer each listing so, and so do servers
abbrev pub RunsAreListed : Type 0
RunsAreListed = (first : World) (events : List Event) (last : World) → Run first events last
    → AreListed (calls events)

abbrev pub ServerRunsAreListed : Type 0
ServerRunsAreListed = (first : World) (events : List Event) (last : World) → ServerRun first events last
    → AreListed (calls events)
