use Rattle.std.proofs.Common.{◌≡◌, ℕ, List, codes, decimal, subst, ◌∙◌}
use Rattle.std.proofs.lemmas.Result.{on_ok_weaker}
use Rattle.transcripts.specs.OutcomeTexts.{Prints, closed, stop_text}
use Rattle.transcripts.proofs.OnTranscript.{four_print}
use Rattle.transcripts.proofs.transcript.Transcript.report_stopped.Goals as goal

pub returns : goal.returns
returns c =
    let reported : c.as_bytes.result.now ≡ stop_text c.args.cause = c.as_bytes.ensures.value ∙ c.cause_text.ensures in
    on_ok_weaker
    c.failing_line.result
    (λ e.
    four_print
    c.args.self.now
    c.text.new.self
    c.number.new.self
    c.text-2.new.self
    c.failing_line.new.self
    (codes "stopped at command ")
    (decimal c.args.commands)
    (codes ": ")
    (stop_text c.args.cause)
    _
    _
    _
    1
    c.in_ok-text.ensures
    c.in_ok-number.ensures
    c.in_ok-text-2.ensures
    (subst (λ (x : List ℕ). Prints c.text-2.new.self c.failing_line.new.self (closed x) 1) reported e))
    c.failing_line.ensures
