-- Nodes that are told one after the other.
use Rattle.std.proofs.Common.{◌≡◌, ℕ, suc, ◌+◌, List, ◌++◌, Option, Some, arith, subst}
use Rattle.std.specs.Prelude.{slice_get}
use Rattle.server_commands.specs.declared.book.Server.{Server}
use Rattle.server_commands.specs.declared.credentials.Credentials.{Credentials}
use Rattle.node_forgetting.specs.Telling.{AreTold, Asking, IsOutcome, told_by}
use Rattle.node_forgetting.specs.Texts.{outcome_line}

module _ (asking : Asking) (k : Option Credentials) (id : List ℕ) (ss : List Server) where
  -- one more is told
  pub one_told : (n before told : ℕ) (a text : List ℕ) (s : Server) (r : Option (List ℕ))
      → AreTold asking k id ss n before a → slice_get ss n ≡ Some s → IsOutcome asking k id s r
      → told ≡ before + told_by r → text ≡ a ++ outcome_line id s r → AreTold asking k id ss (n + 1) told text
  one_told n before told a text s r are at outcome count put =
      let more : suc n ≡ n + 1 = omega arith in
      let next : AreTold asking k id ss (suc n) told text = (before, a, s, r, are, at, outcome, count, put) in
      subst (λ m. AreTold asking k id ss m told text) more next
