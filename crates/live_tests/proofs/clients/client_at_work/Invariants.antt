use Rattle.std.proofs.Common.{◌≤◌, length}
use Rattle.live_tests.proofs.clients.client_at_work.Given as goal

-- the client believes in nodes of the cluster alone
abbrev pub invariant-loop-round : goal.invariant-loop-round
invariant-loop-round g l = l.client.owners.nodes ≤ length g.B.ClusterBrand.setup.opening.nodes
