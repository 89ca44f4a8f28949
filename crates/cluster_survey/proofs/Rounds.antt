-- Rounds of surveys, up to the first after which servers are not asked again.
use Rattle.std.proofs.Common.{◌≡◌, ◌⊎◌, ℕ, ◌+◌, List, length, Result, Ok, Err, add-one}
use Rattle.std.specs.Prelude.{MatchResult}
use Rattle.server_links.specs.Exchanges.{Answer}
use Rattle.cluster_survey.specs.Agreeing.{Agree, AreRepeated, Disagree, MayPass}
use Rattle.cluster_survey.specs.Asking.{AreAsked, IsUnsurveyed}
use Rattle.cluster_views.specs.Surveying.{IsSurveyed, Views, epochs_of}
use Rattle.cluster_views.specs.declared.fault.SurveyFault.{SurveyFault}
use Rattle.cluster_views.specs.declared.surveying.Surveyed.{Surveyed}
use Rattle.server_commands.specs.declared.book.Server.{Server}

module _ {L : Type 0} (exchanges : L → Answer → L → Type 0) (b : List Server) where
  -- what one survey of all servers gives
  abbrev pub IsAsked : List L → Result Surveyed SurveyFault → List L → Type 0
  IsAsked links r links' = MatchResult r
      (λ (s : Surveyed). (views : Views) × (length views ≡ length b) × AreAsked exchanges links views links'
      × IsSurveyed b views s.survey × (s.epochs.items ≡ epochs_of b views))
      (λ (e : SurveyFault). IsUnsurveyed exchanges b links e links')

  -- one round more
  pub repeated : (rounds : ℕ) (links mid links' : List L) (r : Result Surveyed SurveyFault)
      → AreRepeated exchanges b rounds links mid → IsAsked mid r links' → MayPass r
      → AreRepeated exchanges b (rounds + 1) links links'
  repeated rounds links mid links' (Ok s) before asked passes = absurd passes
  repeated rounds links mid links' (Err e) before asked passes =
      rw add-one (mid, e, before, passes, asked)

  -- the last round
  pub ended : (over : Type 0) (rounds : ℕ) (links mid links' : List L) (r : Result Surveyed SurveyFault)
      → AreRepeated exchanges b rounds links mid → IsAsked mid r links' → (MayPass r → over ⊎ (rounds ≡ 1000))
      → MatchResult r (λ (s : Surveyed). Agree exchanges b links s.survey s.epochs.items links')
      (λ (e : SurveyFault). Disagree exchanges b over links e links')
  ended over rounds links mid links' (Ok s) before asked last = (rounds, mid, before, asked)
  ended over rounds links mid links' (Err e) before asked last = (rounds, mid, before, asked, last)
