-- What is said of a node that is to be forgotten, by what was found.
use Rattle.std.proofs.Common.{◌≡◌, ◌∙◌, ◌≤◌, ℕ, List, ◌++◌, Result, Ok, Err, IfOk, inl, inr, subst, sym}
use Rattle.std.specs.Prelude.{Option, None, Some, length}
use Rattle.cluster_admin.specs.Surveys.{Survey}
use Rattle.listed_nodes.specs.declared.node_line.NodeLine.{NodeLine}
use Rattle.server_commands.specs.declared.book.Server.{Server}
use Rattle.server_commands.specs.declared.credentials.Credentials.{Credentials}
use Rattle.transcripts.specs.OutcomeTexts.{refused_text}
use Rattle.transcripts.specs.declared.transcript.Transcript.{Transcript}
use Rattle.node_forgetting.specs.Forgetting.{SaysFollowed, SaysForgotten, SaysFree, SaysHeld, SaysListed, SaysOthers}
use Rattle.node_forgetting.specs.Forgetting.{SaysTold, any_asking}
use Rattle.node_forgetting.specs.Holding.{hold}
use Rattle.node_forgetting.specs.Others.{others}
use Rattle.node_forgetting.specs.Telling.{Asking}
use Rattle.node_forgetting.specs.Texts.{hold_text}
use Rattle.node_forgetting.specs.declared.hold.Hold.{Hold}
use Rattle.node_forgetting.proofs.Weaker.{any_forgotten}

module _ {E : Type 0} (asking : Asking) (k : Option Credentials) (node : ℕ) (server : Server) (v : Survey)
    (o : Option Hold) (found : o ≡ hold v node) where
  -- what holds the node is told
  pub held_says : (h : Hold) (r : Result Transcript E) → o ≡ Some h → IfOk r (λ t. t.status ≡ 1)
      → IfOk r (λ t. t.printed.items ≡ refused_text (hold_text h))
      → IfOk r (λ t. SaysForgotten asking k node server v t.status t.printed.items)
  held_says h (Err e) is status text = tt
  held_says h (Ok t) is status text =
      subst (λ o. SaysHeld asking k node server o t.status t.printed.items) (sym is ∙ found) (status, text)

  -- nothing does
  pub free_says : (r : Result Transcript E) → o ≡ None
      → IfOk r (λ t. SaysFree asking k node server t.status t.printed.items)
      → IfOk r (λ t. SaysForgotten asking k node server v t.status t.printed.items)
  free_says (Err e) is says = tt
  free_says (Ok t) is says =
      subst (λ o. SaysHeld asking k node server o t.status t.printed.items) (sym is ∙ found) says

-- the servers are forgotten
pub known_says : {E : Type 0} (asking : Asking) (k : Option Credentials) (node : ℕ) (server : Server) (v : Survey)
    (r : Result Transcript E) → IfOk r (λ t. SaysForgotten asking k node server v t.status t.printed.items)
    → IfOk r (λ t. SaysForgotten any_asking k node server v t.status t.printed.items)
known_says asking k node server v (Err e) says = tt
known_says asking k node server v (Ok t) says =
    any_forgotten asking k node server t.status t.printed.items v says

-- the node listed these
pub listed_says : {E : Type 0} (asking : Asking) (k : Option Credentials) (node : ℕ) (server : Server)
    (lines given : List NodeLine) (r : Result Transcript E) → asking.lists node lines → given ≡ lines
    → IfOk r (λ t. SaysOthers asking k node server given t.status t.printed.items)
    → IfOk r (λ t. SaysListed asking k node server t.status t.printed.items)
listed_says asking k node server lines given (Err e) listed same says = tt
listed_says asking k node server lines given (Ok t) listed same says = inl (
  lines,
  listed,
  subst (λ ls. SaysOthers asking k node server ls t.status t.printed.items) same says,
)
