-- How a plan that stopped is told.
use Rattle.std.proofs.Common.{◌≡◌, ◌≢◌, ℕ, List, Option, None, Some, Result, Ok, Err, OnOk, refl, sym, subst, inl, inr}
use Rattle.plan_runner.specs.declared.stop_cause.StopCause.{StopCause}
use Rattle.plan_runner.specs.declared.stop_cause.StopCause.TheVariants as cause
use Rattle.transcripts.specs.OutcomeTexts.{Prints}
use Rattle.transcripts.specs.RunTexts.{stopped_by_text}
use Rattle.transcripts.specs.declared.transcript.Transcript.{Transcript}
use Rattle.server_runs.specs.Outcomes.{reason, stop_number, stop_status, stop_text}

restated : {E : Type 0} (r : Result (Unit {0}) E) (t now : Transcript) (a b : ℕ) (x y : List ℕ) → a ≡ b → x ≡ y
    → OnOk r (Prints t now (stopped_by_text a x) 1) → OnOk r (Prints t now (stopped_by_text b y) 1)
restated r t now a b x y same alike p =
    subst (λ (z : List ℕ). OnOk r (Prints t now (stopped_by_text b z) 1)) alike
    (subst (λ (k : ℕ). OnOk r (Prints t now (stopped_by_text k x) 1)) same p)

pub prints_stop : {E : Type 0} (r : Result (Unit {0}) E) (t now : Transcript) (said : Option (List ℕ)) (n number : ℕ) (text : List ℕ)
    (c : StopCause) → (c ≡ cause.Abandoned → ⊥) → number ≡ stop_number n c → text ≡ reason said c
    → OnOk r (Prints t now (stopped_by_text number text) 1) → OnOk r (Prints t now (stop_text said n c) (stop_status c))
prints_stop r t now said n number text cause.Abandoned other is told p = absurd (other refl)
prints_stop r t now said n number text (cause.Refused k f) other is told p = restated r t now number _ text _ is told p
prints_stop r t now said n number text cause.Memory other is told p = restated r t now number _ text _ is told p
prints_stop r t now said n number text cause.StrangeReply other is told p = restated r t now number _ text _ is told p
prints_stop r t now said n number text cause.Limit other is told p = restated r t now number _ text _ is told p
prints_stop r t now said n number text cause.Lost other is told p = restated r t now number _ text _ is told p
