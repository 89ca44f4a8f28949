-- A survey leaves as many connections as there were.
use Rattle.std.proofs.Common.{◌≡◌, ◌∙◌, List, [], ◌∷◌, length, Result, Ok, Err, arith, ap, inl, inr}
use Rattle.std.specs.Prelude.{slice_index_or}
use Rattle.std.proofs.lemmas.List.{length-set}
use Rattle.server_links.specs.Exchanges.{Answer}
use Rattle.cluster_survey.specs.Asking.{IsStopped}
use Rattle.cluster_views.specs.declared.fault.SurveyFault.{SurveyFault}
use Rattle.cluster_views.specs.declared.surveying.Surveyed.{Surveyed}
use Rattle.cluster_survey.proofs.Rounds.{IsAsked}
use Rattle.server_commands.specs.declared.book.Server.{Server}

module _ {L : Type 0} (exchanges : L → Answer → L → Type 0) where
  stopped_at : (links : List L) (e : SurveyFault) (links' : List L) → L → IsStopped exchanges links e links'
      → length links' ≡ length links
  stopped_at links e links' d s =
      ap length (s.others d) ∙ length-set s.before (length s.views) (slice_index_or links' (length s.views) d)
      ∙ s.asked.count

  -- a server was asked, so there is one
  stopped_count : (links : List L) (e : SurveyFault) (links' : List L) → IsStopped exchanges links e links'
      → length links' ≡ length links
  stopped_count [] e links' s = absurd (omega (arith, s.some))
  stopped_count (d ∷ links) e links' s = stopped_at (d ∷ links) e links' d s

  pub survey_count : (b : List Server) (links : List L) (r : Result Surveyed SurveyFault) (links' : List L)
      → IsAsked exchanges b links r links' → length links' ≡ length links
  survey_count b links (Ok s) links' asked = asked.2.count
  survey_count b links (Err e) links' (inl stopped) = stopped_count links e links' stopped
  survey_count b links (Err e) links' (inr refused) = refused.1.count
