-- Servers are surveyed until they agree. `exchanges` says how CLUSTER NODES goes over a connection, and `over` that the
-- time has passed in which they are asked again.
use Rattle.std.specs.Prelude.{◌≡◌, ◌⊎◌, ℕ, zero, suc, true, List, length, Result, Ok, Err}
use Rattle.server_links.specs.Exchanges.{Answer}
use Rattle.cluster_admin.specs.Surveys.{Survey}
use Rattle.cluster_survey.specs.Asking.{AreAsked, IsUnsurveyed}
use Rattle.cluster_views.specs.Faults.{is_passing}
use Rattle.cluster_views.specs.Surveying.{IsSurveyed, Views, epochs_of}
use Rattle.cluster_views.specs.declared.fault.SurveyFault.{SurveyFault}
use Rattle.cluster_views.specs.declared.surveying.Surveyed.{Surveyed}
use Rattle.server_commands.specs.declared.book.Server.{Server}

-- what stands against the survey may pass by itself
abbrev pub MayPass : Result Surveyed SurveyFault → Type 0
MayPass (Ok s) = ⊥
MayPass (Err e) = is_passing e ≡ true

module _ {L : Type 0} (exchanges : L → Answer → L → Type 0) (b : List Server) where
  -- all servers were asked once each, and their views are surveyed
  abbrev pub AreSurveyed : List L → Survey → (epochs : List ℕ) → List L → Type 0
  AreSurveyed links v epochs links' = (views : Views) × (length views ≡ length b)
      × AreAsked exchanges links views links' × IsSurveyed b views v × (epochs ≡ epochs_of b views)

  -- so many times there was no survey, for a fault that may pass
  abbrev pub AreRepeated : (rounds : ℕ) → List L → List L → Type 0
  AreRepeated zero links links' = links' ≡ links
  AreRepeated (suc rounds) links links' = (mid : List L) × (e : SurveyFault) × AreRepeated rounds links mid
      × (is_passing e ≡ true) × IsUnsurveyed exchanges b mid e links'

  -- after such rounds, or none, all servers were asked once more, and agree
  abbrev pub Agree : List L → Survey → (epochs : List ℕ) → List L → Type 0
  Agree links v epochs links' =
      (rounds : ℕ) × (mid : List L) × AreRepeated rounds links mid × AreSurveyed mid v epochs links'

  -- They do not: a fault stands against the last survey. One that may pass is told only once the time is over, or after
  -- 1000 rounds.
  abbrev pub Disagree : (over : Type 0) → List L → SurveyFault → List L → Type 0
  Disagree over links e links' = (rounds : ℕ) × (mid : List L) × AreRepeated rounds links mid
      × IsUnsurveyed exchanges b mid e links' × (is_passing e ≡ true → over ⊎ (rounds ≡ 1000))
