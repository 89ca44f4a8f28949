-- What is told where the file of a survey has none, or a plan is refused by it.
use Rattle.std.proofs.Common.{◌≤◌, ℕ, List, Option, None, Some, Ok, Err, inl, inr, refl, subst, sym, arith}
use Rattle.std.specs.Prelude.{IfErr, IsErrAnd, MatchOption, Result}
use Rattle.command_words.specs.declared.usage.Start.{Start}
use Rattle.command_words.specs.declared.usage.Start.TheVariants.{Cluster, Even, Survey}
use Rattle.key_slots.specs.Owners.{Owners}
use Rattle.node_names.specs.Names.{Names}
use Rattle.plan_language.specs.PlanView.{PlanView}
use Rattle.transcripts.specs.PlanVerdicts.{SaysCount, SaysFault, SaysOfPlan}
use Rattle.cluster_inspection.specs.Refusals.{IsNoClusterOf, IsRefusal}
use Rattle.cluster_inspection.specs.Starts.{IsNoFile, IsUnstarted, IsUnsurveyed, TellsNoSurvey, unread_reason}
use Rattle.cluster_inspection.specs.VerifyingFrom.{IsAnswerFrom}
use Rattle.cluster_inspection.specs.declared.no_cluster.NoCluster.{NoCluster}
use Rattle.cluster_inspection.specs.declared.no_cluster.NoCluster.TheVariants as none
use Rattle.cluster_inspection.specs.declared.refusal.Refusal.{Refusal}

-- ---- no survey

-- the file can't be read
pub unread_file : (path why : List ℕ) (u : NoCluster) → IsUnsurveyed (unread_reason path why) u → IsNoFile path u
unread_file path why none.Memory told = tt
unread_file path why (none.Answer t) told = (told.0, (unread_reason path why, told.1, inl (why, refl)))

-- its text is none
pub no_survey_file : (path : List ℕ) (names : Names) (text : List ℕ) (u : NoCluster) → TellsNoSurvey names text u
    → IsNoFile path u
no_survey_file path names text none.Memory told = tt
no_survey_file path names text (none.Answer t) (f, no_survey, told) =
    (told.0, (_, told.1, inr (names, text, f, no_survey, refl)))

pub no_survey_files : {T : Type 0} (path : List ℕ) (names : Names) (text : List ℕ) (r : Result T NoCluster)
    → IfErr r (TellsNoSurvey names text) → IfErr r (IsNoFile path)
no_survey_files path names text (Ok x) told = tt
no_survey_files path names text (Err u) told = no_survey_file path names text u told

-- ---- nothing to start from

pub unstarted_refusal : (start : Start) (u : NoCluster) (r : Refusal) → IsUnstarted start u → IsNoClusterOf u r → IsRefusal r
unstarted_refusal start none.Memory r why is = subst IsRefusal (sym is) tt
unstarted_refusal (Even s) (none.Answer t) r why is = absurd why
unstarted_refusal (Cluster g) (none.Answer t) r why is = subst IsRefusal (sym is) (inl why)
unstarted_refusal (Survey path) (none.Answer t) r why is =
    subst IsRefusal (sym is) (inl (why.0, inr (why.1.0, why.1.1)))

pub refused_unstarted : {T : Type 0} (start : Start) (u : NoCluster) (r : Result T Refusal) → IsUnstarted start u
    → IsErrAnd r (IsNoClusterOf u) → IfErr r IsRefusal
refused_unstarted start u (Ok x) why is = absurd is
refused_unstarted start u (Err e) why is = unstarted_refusal start u e why is

-- ---- what is said of a plan

pub says_of_plan : {A : Type 0} (o : Owners) (plan : PlanView) (v : Option A) (R : A → Type 0) (status : ℕ)
    (text : List ℕ)
    → MatchOption v (SaysFault o plan status text) (λ p. R p × SaysCount o plan status text)
    → SaysOfPlan o plan status text
says_of_plan o plan None R status text fault = inr fault
says_of_plan o plan (Some p) R status text counted = inl counted.1

said_status : (o : Owners) (plan : PlanView) (status : ℕ) (text : List ℕ) → SaysOfPlan o plan status text → status ≤ 1
said_status o plan status text (inl counted) = omega (arith, counted.1)
said_status o plan status text (inr fault) = omega (arith, fault.3)

pub few_from : (start : Start) (input : List ℕ) (status : ℕ) (text : List ℕ) → IsAnswerFrom start input status text
    → status ≤ 1
few_from start input status text (plan, read, says) = said_status says.0 plan status text says.3
