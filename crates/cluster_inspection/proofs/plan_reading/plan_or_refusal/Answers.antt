use Rattle.std.proofs.Common.{◌++◌, ◌∙◌, ap, inr}
use Rattle.plan_language.specs.Faults.{parse_fault_text}
use Rattle.transcripts.specs.OutcomeTexts.{refused_text}
use Rattle.cluster_inspection.proofs.plan_reading.plan_or_refusal.Goals as goal

pub returns-in_ok-report_no_plan-in-Err-clause-refusal : goal.returns-in_ok-report_no_plan-in-Err-clause-refusal
returns-in_ok-report_no_plan-in-Err-clause-refusal c =
    let reason = parse_fault_text c.in-Err.fault in
    let told = c.in_ok-report_no_plan-in-Err.ensures.1 in
    inr (told.1, (reason, told.0 ∙ ap (λ t. t ++ refused_text reason) c.new-answer.ensures.printed))
