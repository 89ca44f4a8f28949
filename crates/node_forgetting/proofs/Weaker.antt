-- What is known of the servers, forgotten.
use Rattle.std.proofs.Common.{◌≡◌, ◌⊎◌, ℕ, zero, suc, List, [], ◌∷◌, inl, inr, length}
use Rattle.std.specs.Prelude.{Option, None, Some}
use Rattle.cluster_admin.specs.Surveys.{Survey}
use Rattle.listed_nodes.specs.declared.node_line.NodeLine.{NodeLine}
use Rattle.server_commands.specs.declared.book.Server.{Server}
use Rattle.server_commands.specs.declared.credentials.Credentials.{Credentials}
use Rattle.node_forgetting.specs.Forgetting.{SaysFollowed, SaysForgotten, SaysFree, SaysHeld, SaysListed, SaysOthers}
use Rattle.node_forgetting.specs.Forgetting.{SaysTold, any_asking}
use Rattle.node_forgetting.specs.Holding.{hold}
use Rattle.node_forgetting.specs.Telling.{AreTold, Asking, IsOutcome}
use Rattle.node_forgetting.specs.declared.hold.Hold.{Hold}

module _ (asking : Asking) (k : Option Credentials) where
  any_outcome : (id : List ℕ) (s : Server) (r : Option (List ℕ)) → IsOutcome asking k id s r
      → IsOutcome any_asking k id s r
  any_outcome id s r (inl late) = inl (tt, late.1)
  any_outcome id s r (inr (inl nowhere)) = inr (inl nowhere)
  any_outcome id s r (inr (inr (a, is, inl fault))) = inr (inr (a, is, inl (fault.0, tt, fault.2)))
  any_outcome id s r (inr (inr (a, is, inr answer))) = inr (inr (a, is, inr (answer.0, tt, answer.2)))

  any_told : (id : List ℕ) (ss : List Server) (n told : ℕ) (text : List ℕ) → AreTold asking k id ss n told text
      → AreTold any_asking k id ss n told text
  any_told id ss zero told text are = are
  any_told id ss (suc n) told text are = (
    are.0,
    are.1,
    are.2,
    are.3,
    any_told id ss n are.0 are.1 are.4,
    are.5,
    any_outcome id are.2 are.3 are.6,
    are.7,
    are.8,
  )

  module _ (node : ℕ) (server : Server) (status : ℕ) (text : List ℕ) where
    any_servers : (ss : List Server) → SaysTold asking k node server ss status text
        → SaysTold any_asking k node server ss status text
    any_servers ss says =
        (says.0, says.1, any_told server.name ss (length ss) says.0 says.1 says.2, says.3, says.4)

    any_others : (lines : List NodeLine) → SaysOthers asking k node server lines status text
        → SaysOthers any_asking k node server lines status text
    any_others lines (inl told) = inl (any_servers _ told)
    any_others lines (inr none) = inr none

    any_listed : SaysListed asking k node server status text → SaysListed any_asking k node server status text
    any_listed (inl listed) = inl (listed.0, tt, any_others listed.0 listed.2)
    any_listed (inr none) = inr none

    any_followed : (rs : List NodeLine) → SaysFollowed asking k node server rs status text
        → SaysFollowed any_asking k node server rs status text
    any_followed [] says = any_listed says
    any_followed (r ∷ rs) says = says

    any_free : SaysFree asking k node server status text → SaysFree any_asking k node server status text
    any_free (inl told) = inl (told.0, tt, any_followed told.0 told.2)
    any_free (inr none) = inr none

    any_held : (h : Option Hold) → SaysHeld asking k node server h status text
        → SaysHeld any_asking k node server h status text
    any_held None says = any_free says
    any_held (Some h) says = says

    pub any_forgotten : (v : Survey) → SaysForgotten asking k node server v status text
        → SaysForgotten any_asking k node server v status text
    any_forgotten v says = any_held (hold v node) says
