-- Why a node is not told, by what was asked.
use Rattle.std.proofs.Common.{◌≡◌, ℕ, List, Result, Ok, Err, IfOk, inr, subst, sym}
use Rattle.std.specs.Prelude.{Option, option_map}
use Rattle.std.specs.declared.net.socket_addr.SocketAddrV4.{SocketAddrV4}
use Rattle.cluster_survey.specs.Linking.{IsAddressOf}
use Rattle.cluster_survey.specs.Opening.{IsOpenTo}
use Rattle.resp2_wire.specs.declared.reply.Reply.{Reply}
use Rattle.resp2_wire.specs.declared.reply.Reply.TheVariants as reply
use Rattle.server_commands.specs.declared.book.Server.{Server}
use Rattle.server_commands.specs.declared.credentials.Credentials.{Credentials}
use Rattle.server_links.specs.Exchanges.{Answer}
use Rattle.server_links.specs.Links.{Exchanges}
use Rattle.server_links.specs.Streams.{Streams}
use Rattle.server_links.specs.declared.link.Link as link
use Rattle.server_links.specs.declared.unreached.Unreached.{Unreached}
use Rattle.node_forgetting.specs.Outcomes.{error_reason, forget_request, reason_in}
use Rattle.node_forgetting.specs.Telling.{IsOutcome, asking_of}

module _ {V E : Type 0} (items : V → List ℕ) (k : Option Credentials) where
  -- an error is read as its text
  pub error_read : (r : Result (Option V) E) (x : Reply) (t text : List ℕ) → x ≡ reply.Error text → t ≡ text
      → IfOk r (λ o. option_map items o ≡ error_reason k t) → IfOk r (λ o. option_map items o ≡ reason_in k (Ok x))
  error_read (Err e) x t text is same reason = tt
  error_read (Ok o) x t text is same reason =
      subst (λ y. option_map items o ≡ reason_in k (Ok y)) (sym is)
      (subst (λ u. option_map items o ≡ error_reason k u) same reason)

  -- what was asked over a new connection
  pub outcome_asked : {I O : Type 0} (reaches : SocketAddrV4 → I → O → Type 0)
      (refuses : SocketAddrV4 → Unreached → Type 0) (by : Streams I O) (late : Type 0) (id : List ℕ) (s : Server)
      (a : SocketAddrV4) (l l' : link.Link I O) (r : Result (Option V) E) → IsAddressOf s a
      → IsOpenTo reaches refuses by k a l
      → IfOk r (λ o. (x : Answer) × Exchanges by (forget_request id) l x l' × (option_map items o ≡ reason_in k x))
      → IfOk r (λ o. IsOutcome (asking_of reaches refuses by k late) k id s (option_map items o))
  outcome_asked reaches refuses by late id s a l l' (Err e) is opened asked = tt
  outcome_asked reaches refuses by late id s a l l' (Ok o) is opened asked =
      inr (inr (a, is, inr (asked.0, (l, l', opened, asked.1), asked.2)))
