-- What was found, and the masters that were left out.
use Rattle.std.proofs.Common.{◌≡◌, ℕ, List, Option, length}
use Rattle.std.specs.declared.net.socket_addr.SocketAddrV4.{SocketAddrV4}
use Rattle.listed_nodes.specs.declared.node_line.NodeLine.{NodeLine}
use Rattle.cluster_admin.specs.Surveys as surveys
use Rattle.node_names.specs.Names.{Names}
use Rattle.server_commands.specs.declared.book.Server.{Server}
use Rattle.server_commands.specs.declared.credentials.Credentials.{Credentials}
use Rattle.server_links.specs.Streams.{Streams}
use Rattle.server_links.specs.declared.link.Link as link
use Rattle.server_links.specs.declared.unreached.Unreached.{Unreached}
use Rattle.cluster_survey.specs.Found.{IsFoundBeside, IsFoundIn}

pub found_beside : {I O : Type 0} (reaches : SocketAddrV4 → I → O → Type 0) (refuses : SocketAddrV4 → Unreached → Type 0)
    (by : Streams I O) (k : Option Credentials) (lines : List NodeLine) (names : Names) (b : List Server)
    (links : List (link.Link I O)) (v : surveys.Survey) (epochs : List ℕ) (left : List Server) (count : ℕ)
    → IsFoundIn reaches refuses by k lines names b links v epochs left → count ≡ length b
    → IsFoundBeside left b v epochs count
found_beside reaches refuses by k lines names b links v epochs left count h same =
    let agreed = h.1.2.3 in
    record {
      found = record {
        lines = lines;
        names = names;
        masters = h.0;
        views = agreed.0;
        count = agreed.1;
        surveyed = agreed.3;
        told = agreed.4;
        linked = same;
      };
      passed = h.2;
    }
