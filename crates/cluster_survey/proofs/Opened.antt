-- New connections, with credentials or without.
use Rattle.std.proofs.Common.{◌≡◌, true, [], Option, Some, None, Ok, sym, subst}
use Rattle.std.specs.declared.net.socket_addr.SocketAddrV4.{SocketAddrV4}
use Rattle.server_commands.specs.Spelling.{auth_request}
use Rattle.server_commands.specs.declared.credentials.Credentials.{Credentials}
use Rattle.server_links.specs.Links.{LogsIn}
use Rattle.server_links.specs.Streams.{Streams}
use Rattle.server_links.specs.declared.link.Link as link
use Rattle.cluster_survey.specs.Opening.{IsLetIn, IsNewTo}

module _ {I O : Type 0} where
  -- both ends are those that were reached
  pub new_link : (reaches : SocketAddrV4 → I → O → Type 0) (a : SocketAddrV4) (l : link.Link I O) (reader : I) (writer : O)
      → reaches a reader writer → l.wire.writer ≡ writer → l.wire.incoming.reader ≡ reader
      → l.wire.incoming.unread.items ≡ [] → l.fault ≡ None → IsNewTo reaches a l
  new_link reaches a l reader writer reached writes reads blank there = record {
    reached = subst (λ (x : I). reaches a x l.wire.writer) (sym reads)
        (subst (λ (y : O). reaches a reader y) (sym writes) reached);
    blank = blank;
    there = there;
  }

  pub let_in_with : (by : Streams I O) (k : Option Credentials)
      (c : Credentials) (l l' last : link.Link I O) → k ≡ Some c → LogsIn by (auth_request c) l (Ok true) l'
      → last ≡ l' → IsLetIn by k l last
  let_in_with by k c l l' last some logs is =
      subst (λ (o : Option Credentials). IsLetIn by o l last) (sym some)
      (subst (λ (x : link.Link I O). LogsIn by (auth_request c) l (Ok true) x) (sym is) logs)

  pub let_in_without : (by : Streams I O) (k : Option Credentials)
      (l last : link.Link I O) → k ≡ None → last ≡ l → IsLetIn by k l last
  let_in_without by k l last none is =
      subst (λ (o : Option Credentials). IsLetIn by o l last) (sym none) is
