-- What is said of a plan.
use Rattle.std.proofs.Common.{arith, ◌≤◌, ◌≡◌, ◌≢◌, ◌∙◌, ◌⊎◌, ◌++◌, ℕ, inl, inr, sym, ap, subst, codes, List, [], Ok, Err, Option, None, Some}
use Rattle.std.specs.Prelude.{IsOk, MatchOption, decimal, length}
use Rattle.byte_streams.specs.Streams.{Input, Output}
use Rattle.key_slots.specs.Owners.{Owners}
use Rattle.plan_language.specs.Faults.{parse_fault_text}
use Rattle.plan_language.specs.Lines.{plan_commands}
use Rattle.plan_language.specs.Texts.{Parsed, plan_of_text}
use Rattle.plan_language.specs.PlanView.{PlanView}
use Rattle.plan_language.specs.declared.parse_fault.ParseCause.TheVariants as cause
use Rattle.plan_language.specs.declared.parse_fault.ParseFault.{ParseFault}
use Rattle.plan_runner.specs.Faults.{verify_fault_text}
use Rattle.transcripts.specs.OutcomeTexts.{Prints, refused_text}
use Rattle.transcripts.specs.declared.transcript.Transcript.{Transcript}
use Rattle.command_words.specs.CommandLine.{EndsLine}
use Rattle.cluster_cli.specs.Verifying.{IsAnswered, Says, WritesLines}
use Rattle.transcripts.specs.PlanVerdicts.{SaysCount, SaysFault, SaysOfPlan}
use Rattle.command_words.specs.declared.sizes.Sizes.{Sizes}

-- one of the two things that may be said of a plan
pub says_of_plan : {A : Type 0} (o : Owners) (plan : PlanView) (v : Option A) (R : A → Type 0) (status : ℕ) (text : List ℕ)
    → MatchOption v (SaysFault o plan status text) (λ p. R p × SaysCount o plan status text) → SaysOfPlan o plan status text
says_of_plan o plan None R status text fault = inr fault
says_of_plan o plan (Some p) R status text counted = inl counted.1

pub said_status : (o : Owners) (plan : PlanView) (status : ℕ) (text : List ℕ) → SaysOfPlan o plan status text → status ≤ 1
said_status o plan status text (inl counted) = omega (arith, counted.1)
said_status o plan status text (inr fault) = omega (arith, fault.3)

pub says_plan : (o : Owners) (wanted : Parsed) (plan : PlanView) (t now : Transcript) → wanted ≡ Ok plan → t ≡ now
    → SaysOfPlan o plan now.status now.printed.items → Says o wanted t.status t.printed.items
says_plan o wanted plan t now is same says =
    subst (λ (x : Transcript). Says o wanted x.status x.printed.items) (sym same)
    (subst (λ (p : Parsed). Says o p now.status now.printed.items) (sym is) says)

pub says_fault : (o : Owners) (wanted : Parsed) (f : ParseFault) (start t now : Transcript)
    → (wanted ≡ Err f) ⊎ ((f.cause ≡ cause.Memory) × IsOk wanted) → f.cause ≢ cause.Memory → start.printed.items ≡ [] → t ≡ now
    → Prints start now (refused_text (parse_fault_text f)) 1 → Says o wanted t.status t.printed.items
says_fault o wanted f start t now (inl is) other fresh same prints =
    subst (λ (x : Transcript). Says o wanted x.status x.printed.items) (sym same)
    (subst (λ (p : Parsed). Says o p now.status now.printed.items) (sym is)
    (prints.1, prints.0 ∙ ap (λ t. t ++ refused_text (parse_fault_text f)) fresh))
says_fault o wanted f start t now (inr memory) other fresh same prints = absurd (other memory.0)

says_line : (o : Owners) (p : Parsed) (status : ℕ) (text : List ℕ) → Says o p status text → EndsLine text
says_line o (Ok plan) status text (inl count) = (codes "verified " ++ decimal (length (plan_commands o.nodes plan.lines)) ++ codes " commands", count.2)
says_line o (Ok plan) status text (inr fault) = (codes "refused: " ++ verify_fault_text fault.0, fault.4)
says_line o (Err f) status text says = (codes "refused: " ++ parse_fault_text f, says.1)

pub answered_line : {R W : Type 0} (i : Input R) (o : Output W) (s : Sizes) (status : ℕ) → IsAnswered i o s status
    → WritesLines o.took o.before o.after
answered_line i o s status a = (a.1, says_line a.3.0 (plan_of_text a.0) status a.1 a.3.2, a.4)
