-- A cluster that is not served to its end.
use Rattle.std.proofs.Common.{◌≡◌, ◌≢◌, ◌⊎◌, ℕ, inl, inr, subst, codes, List, Result, Ok, Err, None, Some, false, take, true}
use Rattle.std.specs.Prelude.{IsOk}
use Rattle.byte_streams.specs.Inputs.{IsWholeInput}
use Rattle.byte_streams.specs.Streams.{Input, Output}
use Rattle.command_words.specs.declared.usage.ServeWords.{ServeWords}
use Rattle.plan_language.specs.Faults.{parse_fault_text}
use Rattle.plan_language.specs.Texts.{GivesPlan, plan_of_text}
use Rattle.plan_language.specs.PlanView.{PlanView}
use Rattle.plan_language.specs.declared.parse_fault.ParseCause.TheVariants as cause
use Rattle.plan_language.specs.declared.parse_fault.ParseFault.{ParseFault}
use Rattle.transcripts.specs.Writing.{Writes}
use Rattle.transcripts.specs.OutcomeTexts.{refused_text}
use Rattle.cluster_cli.specs.Serving.{IsServedTo, IsUnserved, options_given}
use Rattle.loopback_servers.specs.Served.{IsServedWhole}
use Rattle.loopback_servers.specs.Verdicts.{JudgesPlan}
use Rattle.loopback_servers.specs.declared.options.ServeOptions.{ServeOptions}

-- what was reported is written
pub reported : {W A B C : Type 0} (took : W → List ℕ → W → Type 0) (failures : W → ℕ) (printed text : List ℕ) (old new : W)
    → printed ≡ text
    → (A × took old printed new × B) ⊎ (C × ((n : ℕ) × took old (take n printed) new) × (failures new ≢ failures old))
    → Writes took failures text old new
reported took failures printed text old new is (inl whole) = inl (subst (λ (t : List ℕ). took old t new) is whole.1)
reported took failures printed text old new is (inr cut) =
    inr (cut.1.0, subst (λ (t : List ℕ). took old (take cut.1.0 t) new) is cut.1.1, cut.2)

-- the fault of a text was written, or that memory ran out
abbrev WritesFault : {W : Type 0} → Output W → ParseFault → Type 0
WritesFault o fault =
    ((fault.cause ≢ cause.Memory) × Writes o.took o.failures (refused_text (parse_fault_text fault)) o.before o.after)
    ⊎ Writes o.took o.failures (codes "out of memory\n") o.before o.after

module _ {R W : Type 0} (i : Input R) (o : Output W) (g : ServeWords) (given : Result PlanView ParseFault)
    (read : (input : List ℕ) × IsWholeInput i.gave i.ends i.before i.after input × GivesPlan given (plan_of_text input)) where
  refused : (fault : ParseFault) → g.plan ≡ true → (plan_of_text read.0 ≡ Err fault) ⊎ ((fault.cause ≡ cause.Memory) × IsOk (plan_of_text read.0))
      → WritesFault o fault → IsUnserved i o g
  refused fault asked is (inr memory) = inr (asked, inr ((read.1.0.0, read.0, read.1.0.1), inr memory))
  refused fault asked (inl is) (inl written) = inr (asked, inl (read.0, fault, read.1, is, written.1))
  refused fault asked (inr memory) (inl written) = absurd (written.0 memory.0)

  -- a text that gives no plan is refused
  pub unserved : (fault : ParseFault) → given ≡ Err fault → g.plan ≡ true → WritesFault o fault → IsUnserved i o g
  unserved fault is asked written =
      refused fault asked (subst (λ (x : Result PlanView ParseFault). GivesPlan x (plan_of_text read.0)) is read.2) written

  module _ (plan : PlanView) (is : given ≡ Ok plan) (asked : g.plan ≡ true) (options : ServeOptions) (same : options ≡ options_given g) where
    -- all of the input is the plan
    is_plan : plan_of_text read.0 ≡ Ok plan
    is_plan = subst (λ (x : Result PlanView ParseFault). GivesPlan x (plan_of_text read.0)) is read.2

    pub served_plan : IsServedWhole o options (Some plan) → IsServedTo i o g
    served_plan served = (
      Some plan,
      (asked, read.0, read.1, is_plan),
      subst (λ x. IsServedWhole o x (Some plan)) same served,
    )

    pub unserved_plan : (status : ℕ) → status ≡ 1 → JudgesPlan o options (Some plan) status → IsUnserved i o g
    unserved_plan status one judged = inl (
      Some plan,
      (asked, read.0, read.1, is_plan),
      subst (λ x. JudgesPlan o x (Some plan) 1) same (subst (λ n. JudgesPlan o options (Some plan) n) one judged),
    )

-- a cluster without a plan
pub unserved_alone : {R W : Type 0} (i : Input R) (o : Output W) (g : ServeWords) (options : ServeOptions) (status : ℕ) → g.plan ≡ false
    → i.after ≡ i.before → options ≡ options_given g → status ≡ 1 → JudgesPlan o options None status → IsUnserved i o g
unserved_alone i o g options status none unread same one judged = inl (
  None,
  (none, unread),
  subst (λ x. JudgesPlan o x None 1) same (subst (λ n. JudgesPlan o options None n) one judged),
)
