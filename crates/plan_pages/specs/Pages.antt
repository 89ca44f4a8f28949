-- The page that tells what a plan comes to.
use Rattle.std.specs.Prelude.{ℕ, List, ◌++◌, is_some}
use Rattle.plan_outlines.specs.declared.nodes.NodeServer.{NodeServer}
use Rattle.plan_outlines.specs.declared.outline.PlanOutline.{PlanOutline}
use Rattle.plan_pages.specs.Commands.{commands_section}
use Rattle.plan_pages.specs.Moves.{moves_section}
use Rattle.plan_pages.specs.Nodes.{nodes_section}
use Rattle.plan_pages.specs.Pairs.{pairs_section}
use Rattle.plan_pages.specs.Runs.{runs_section}
use Rattle.plan_pages.specs.Servers.{servers_section}
use Rattle.plan_pages.specs.Stops.{stop_section}

-- the sections, each with an empty line before it but the first
abbrev pub page_text : PlanOutline → List NodeServer → (resume : List ℕ) → List ℕ
page_text o servers resume =
    pairs_section (is_some o.load) o.pairs.items ++ (nodes_section o.nodes.items ++ (servers_section servers
    ++ (moves_section o.ranges.items ++ (commands_section o
    ++ (runs_section o.moved_again.items o.moved_back.items ++ stop_section o.most_open resume)))))
