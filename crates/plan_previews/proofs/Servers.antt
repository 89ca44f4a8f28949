-- The servers of a book that told their figures.
use Rattle.std.proofs.Common.{ap, ℕ, List, length}
use Rattle.server_links.specs.Exchanges.{Answer}
use Rattle.plan_outlines.specs.declared.nodes.NodeServer.{NodeServer}
use Rattle.plan_previews.specs.Counted.{AreServers, IsServer}
use Rattle.server_commands.specs.Servers.{server_at}
use Rattle.server_commands.specs.declared.book.Server.{Server}
use Rattle.server_infos.specs.Asking.{AreToldBy, IsToldBy}

is_server : {L : Type 0} (exchanges : L → Answer → L → Type 0) (n : ℕ) (s : Server) (t : NodeServer) → IsToldBy exchanges n s t
    → IsServer n s t
is_server exchanges n s t told = record {
  node = ap (λ (x : NodeServer). x.node) told.4;
  host = ap (λ (x : NodeServer). x.host) told.4;
  port = ap (λ (x : NodeServer). x.port) told.4;
  name = ap (λ (x : NodeServer). x.name) told.4;
}

pub are_servers : {L : Type 0} (exchanges : L → Answer → L → Type 0) (book : List Server) (told : List NodeServer)
    → AreToldBy exchanges book (length book) told → AreServers book told
are_servers exchanges book told all =
    (all.0, λ n lt. (let one = all.1 n lt in (one.0, one.1, is_server exchanges n (server_at book n) one.0 one.2)))
