-- A request that is sent, and whose reply is read then, was asked.
use Rattle.std.proofs.Common.{◌≡◌, ℕ, false, List, Ok, Err, inl, inr, length, take, subst, sym, arith}
use Rattle.std.proofs.lemmas.List.{take_all}
use Rattle.server_links.specs.Exchanges.{Answer, IsBegun}
use Rattle.cluster_admin.specs.declared.port_fault.PortFault.{PortFault}
use Rattle.cluster_admin.specs.declared.port_fault.PortFault.TheVariants.{Io, Memory, Wire}
use Rattle.resp2_wire.specs.View.{tree}
use Rattle.server_links.specs.Links.{Breaks, Exchanges, GoesSilent, Receives, Sends}
use Rattle.server_links.specs.Replies.{IsAnswered}
use Rattle.server_links.specs.Sources.{source}
use Rattle.server_links.specs.Streams.{Streams}
use Rattle.server_links.specs.declared.incoming.Incoming as incoming
use Rattle.server_links.specs.declared.link.Link as link

module _ {I O : Type 0} (by : Streams I O) (request : List ℕ) where
  -- the whole request was written, and then nothing
  begun_whole : (x y z : O) → by.took x request y → z ≡ y → IsBegun by.took request x z
  begun_whole x y z took same = (
    length request,
    omega arith,
    subst (λ (w : O). by.took x (take (length request) request) w) (sym same)
        (subst (λ (bytes : List ℕ). by.took x bytes y) (sym (take_all (length request) request (omega arith))) took),
  )

  went_silent : (l m l' : link.Link I O) (u : Unit {0}) (f : PortFault) → Sends by request l (Ok u) m → GoesSilent m f l'
      → Breaks by.took request l f l'
  went_silent l m l' u f sent gone =
      (sent.0, begun_whole l.wire.writer m.wire.writer l'.wire.writer sent.1 gone.1, gone.2)

  pub sent_then_received : (l m l' : link.Link I O) (u : Unit {0}) (r : Answer) → Sends by request l (Ok u) m → Receives by m r l'
      → Exchanges by request l r l'
  sent_then_received l m l' u (Ok r) sent got = (
    sent.0,
    (
      subst (λ (w : O). by.took l.wire.writer request w) (sym got.1) sent.1,
      subst (λ (i : incoming.Incoming I). IsAnswered by.gave false (source i) (tree r) l'.wire.incoming.reader) sent.2 got.2,
    ),
    got.3,
  )
  sent_then_received l m l' u (Err Memory) sent got = got
  sent_then_received l m l' u (Err Io) sent got = went_silent l m l' u Io sent got
  sent_then_received l m l' u (Err Wire) sent (inl gone) = absurd (gone.0 sent.3)
  sent_then_received l m l' u (Err Wire) sent (inr gone) = inr (went_silent l m l' u Wire sent gone)
