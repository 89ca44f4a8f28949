-- Waits: one turn more, and their end.
use Rattle.std.proofs.Common.{◌≡◌, ℕ, suc, Bool, true, false, List, Option, Ok, Err, ap, inr, subst, ◌∙◌}
use Rattle.std.specs.Prelude.{MatchResult, Result, Some}
use Rattle.listed_nodes.specs.declared.node_line.NodeLine.{NodeLine}
use Rattle.server_commands.specs.declared.credentials.Credentials.{Credentials}
use Rattle.resp2_wire.specs.declared.reply.Reply.{Reply}
use Rattle.server_links.specs.Streams.{Question}
use Rattle.redis_servers.specs.Hearing.{LastTurn, Turn, Turns, Waits, unheard_text}
use Rattle.redis_servers.specs.Looking.{LastLook, LookTurn, LookTurns, LooksUntil, StopsWith}
use Rattle.redis_servers.specs.declared.port_stop.PortStop.{PortStop}

module _ {L : Type 0} (asks : List L → ℕ → Result Reply PortStop → List L → Type 0) (login : Option Credentials)
    (name : List ℕ) where
  pub one_more : (s t k : ℕ) (links mid links' : List L) (heard : Bool) → Turns asks login name s t k links mid
      → Turn asks login name s t mid (Ok heard) links' → heard ≡ false → Turns asks login name s t (suc k) links links'
  one_more s t k links mid links' heard before turn not =
      (mid, before, subst (λ b. Turn asks login name s t mid (Ok b) links') not turn)

  pub waited_by : (s t : ℕ) (text : List ℕ) (links links' : List L) (heard : Bool) (r : Result (Unit {0}) PortStop)
      → text ≡ unheard_text s t → LastTurn asks login name s t links (Ok heard) links'
      → MatchResult r (λ u. heard ≡ true) (λ h. (heard ≡ false) × StopsWith text h)
      → Waits asks login name s t links r links'
  waited_by s t text links links' heard (Ok u) same last is =
      subst (λ b. LastTurn asks login name s t links (Ok b) links') is last
  waited_by s t text links links' heard (Err h) same last is =
      inr (subst (λ b. LastTurn asks login name s t links (Ok b) links') is.0 last, is.1.0, is.1.1 ∙ ap (λ x. Some x) same)

module _ {L : Type 0} (asks : Question → List L → ℕ → Result Reply PortStop → List L → Type 0) (login : Option Credentials)
    (q : Question) (Shows : List NodeLine → Type 0) (n : ℕ) where
  pub one_look_more : (k : ℕ) (links mid links' : List L) (shown : Bool) → LookTurns asks login q Shows n k links mid
      → LookTurn asks login q Shows n mid (Ok shown) links' → shown ≡ false
      → LookTurns asks login q Shows n (suc k) links links'
  one_look_more k links mid links' shown before turn not =
      (mid, before, subst (λ b. LookTurn asks login q Shows n mid (Ok b) links') not turn)

  pub looked_by : (text words : List ℕ) (links links' : List L) (shown : Bool) (r : Result (Unit {0}) PortStop)
      → text ≡ words → LastLook asks login q Shows n links (Ok shown) links'
      → MatchResult r (λ u. shown ≡ true) (λ h. (shown ≡ false) × StopsWith text h)
      → LooksUntil asks login q Shows n words links r links'
  looked_by text words links links' shown (Ok u) same last is =
      subst (λ b. LastLook asks login q Shows n links (Ok b) links') is last
  looked_by text words links links' shown (Err h) same last is =
      inr (subst (λ b. LastLook asks login q Shows n links (Ok b) links') is.0 last, subst (λ x. StopsWith x h) same is.1)
