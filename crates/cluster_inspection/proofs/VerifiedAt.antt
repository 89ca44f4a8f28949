-- What is said of a plan at a cluster of servers.
use Rattle.std.proofs.Common.{◌≡◌, ◌≤◌, ◌∙◌, ℕ, List, ◌++◌, Option, None, Some, inl, inr, arith, ap, sym}
use Rattle.std.proofs.Common.{subst}
use Rattle.std.specs.Prelude.{MatchOption}
use Rattle.key_slots.specs.Owners.{Owners}
use Rattle.plan_language.specs.PlanView.{PlanView}
use Rattle.transcripts.specs.PlanVerdicts.{SaysCount, SaysFault}
use Rattle.plan_language.specs.Lines.{plan_commands}
use Rattle.plan_changes.specs.Loads.{load_of}
use Rattle.plan_changes.specs.declared.load.PlanLoad.{PlanLoad}
use Rattle.transcripts.specs.OutcomeTexts.{Prints}
use Rattle.transcripts.specs.declared.transcript.Transcript.{Transcript}
use Rattle.cluster_inspection.specs.Starts.{AreCleanOwners, names_listed}
use Rattle.cluster_inspection.specs.VerifyingAt.{IsAnswerAt, SaysOfPlanAt, line_of}

of_plan : (o : Owners) (plan : PlanView) (status : ℕ) (text : List ℕ) → SaysOfPlanAt plan status text → status ≤ 1
of_plan o plan status text (o', clean, inl load) = omega (arith, load.2.1)
of_plan o plan status text (o', clean, inr fault) = omega (arith, fault.3)

pub few : (input : List ℕ) (status : ℕ) (text : List ℕ) → IsAnswerAt input status text → status ≤ 1
few input status text answer = of_plan answer.2.0 answer.0 status text answer.2

-- ---- what is said

-- the plan is verified, and what it will move is said after the count
pub loaded : {A : Type 0} (R : A → Type 0) (o : Owners) (plan copy : PlanView) (n : ℕ) (v : Option A) (p : A)
    (l : PlanLoad) (t t' now : Transcript)
    → v ≡ Some p → copy ≡ plan → n ≡ o.nodes → now ≡ t'
    → MatchOption v (SaysFault o plan t.status t.printed.items) (λ p. R p × SaysCount o plan t.status t.printed.items)
    → ((keys : List ℕ) × (l ≡ load_of keys (plan_commands n copy.lines))) → Prints t t' (line_of l) t.status
    → AreCleanOwners (names_listed plan) o → SaysOfPlanAt plan now.status now.printed.items
loaded R o plan copy n v p l t t' now is same nodes last says load prints clean =
    let count = (subst (λ v. MatchOption v (SaysFault o plan t.status t.printed.items)
    (λ p. R p × SaysCount o plan t.status t.printed.items)) is says).1 in
    let what : l ≡ load_of load.0 (plan_commands o.nodes plan.lines) =
    load.1 ∙ ap (λ k. load_of load.0 (plan_commands k copy.lines)) nodes
    ∙ ap (λ (q : PlanView). load_of load.0 (plan_commands o.nodes q.lines)) same
    in (
      o,
      clean,
      inl (
        t.printed.items,
        load.0,
        subst (λ s. SaysCount o plan s t.printed.items) (sym (ap (λ (x : Transcript). x.status) last ∙ prints.1)) count,
        ap (λ (x : Transcript). x.printed.items) last ∙ prints.0
            ∙ ap (λ (m : PlanLoad). t.printed.items ++ line_of m) what,
      ),
    )

-- it is refused
pub faulty : {A : Type 0} (R : A → Type 0) (o : Owners) (plan : PlanView) (v : Option A) (t now : Transcript) → v ≡ None
    → now ≡ t
    → MatchOption v (SaysFault o plan t.status t.printed.items) (λ p. R p × SaysCount o plan t.status t.printed.items)
    → AreCleanOwners (names_listed plan) o → SaysOfPlanAt plan now.status now.printed.items
faulty R o plan v t now is last says clean =
    let fault = subst (λ v. MatchOption v (SaysFault o plan t.status t.printed.items)
    (λ p. R p × SaysCount o plan t.status t.printed.items)) is says in
    (o, clean, inr (subst (λ (x : Transcript). SaysFault o plan x.status x.printed.items) (sym last) fault))
