use Rattle.std.proofs.Common.{◌≡◌, List, length}
use Rattle.listed_nodes.specs.declared.node_line.NodeLine.{NodeLine}
use Rattle.cluster_views.specs.Naming.{AreToldIn}
use Rattle.cluster_views.specs.Numbers.{first_given, numbers_to}
use Rattle.cluster_views.specs.Views.{unaware_fault}
use Rattle.cluster_views.proofs.Firsts.{numbers_from}
use Rattle.cluster_views.proofs.knowing.first_unaware.Given as goal

-- the server knows all before
abbrev pub invariant-loop-number : goal.invariant-loop-number
invariant-loop-number l = (ls : List NodeLine) → AreToldIn l.book ls l.row
    → first_given (unaware_fault l.book l.at ls) (numbers_to (length l.book))
    ≡ first_given (unaware_fault l.book l.at ls) (numbers_from (length l.book) l.number)
