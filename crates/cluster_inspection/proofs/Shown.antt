-- What is shown beside a survey.
use Rattle.std.proofs.Common.{◌≡◌, ◌∙◌, ℕ, zero, suc, List, [], ◌++◌, ap, inl, inr}
use Rattle.byte_streams.specs.Streams.{Output}
use Rattle.server_links.specs.Exchanges.{Answer}
use Rattle.cluster_admin.specs.Surveys.{Survey}
use Rattle.server_commands.specs.declared.book.Server.{Server}
use Rattle.server_replicas.specs.Replicas.{AreNodeTexts, Asking, IsNodeText, IsValkey}
use Rattle.server_versions.specs.declared.versions.ServerVersion.{ServerVersion}
use Rattle.std.specs.Prelude.{length}
use Rattle.cluster_inspection.specs.Surveying.{NoneIsValkey, ShowsTold, ShowsVersions}

module _ {L : Type 0} (asking : Asking L) (b : List Server) (v : Survey) where
  nothing_of : (n : ℕ) (x : ServerVersion) (t : List ℕ) → (IsValkey x → ⊥) → IsNodeText asking b v n x t → t ≡ []
  nothing_of n x t other (inl said) = said.1
  nothing_of n x t other (inr (inl said)) = said.1
  nothing_of n x t other (inr (inr said)) = absurd (other said.0)

  -- of servers that are none of Valkey nothing is said
  nothing_more : (versions : List ServerVersion) (k : ℕ) (t : List ℕ) → NoneIsValkey versions
      → AreNodeTexts asking b v versions k t → t ≡ []
  nothing_more versions zero t none said = said
  nothing_more versions (suc k) t none said =
      said.3
      ∙ ap (λ a. a ++ said.1) (nothing_more versions k said.0 none said.4)
      ∙ nothing_of k said.2 said.1 (none k said.2 said.5) said.6

  pub versions_shown : {E : Type 0} (exchanges : L → Answer → L → Type 0) (e : Output E)
      → ShowsTold exchanges asking b v e → ShowsVersions e
  versions_shown exchanges e said =
      (said.0, said.1, λ none. nothing_more said.0 (length b) said.1 none said.3, said.4)
