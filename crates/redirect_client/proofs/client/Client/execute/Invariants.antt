use Rattle.std.proofs.Common.{◌≡◌}
use Rattle.redirect_client.proofs.Following.{SoFar}
use Rattle.redirect_client.proofs.client.Client.execute.Given as goal

abbrev pub invariant-loop : goal.invariant-loop
invariant-loop g l = record {
  kept : g.P.NodeCount.count l.port ≡ g.P.NodeCount.count l.fn.port;
  so_far : SoFar g.P.NodePort.sends l.fn.port l.port l.fn.self l.self l.next l.fn.command l.counter;
}
