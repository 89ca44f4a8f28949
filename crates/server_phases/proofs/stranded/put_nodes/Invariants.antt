use Rattle.server_phases.specs.Stranded.{IsNodeText}
use Rattle.server_phases.proofs.Successive.{AreBehind}
use Rattle.server_phases.proofs.stranded.put_nodes.Given as goal

-- the lines of the nodes before are put
abbrev pub invariant-loop-number : goal.invariant-loop-number
invariant-loop-number g l =
    AreBehind (IsNodeText g.C.KeyCounts.counts l.slot l.owner) l.number l.fn.counts l.fn.out.items l.counts l.out.items
