use Rattle.std.proofs.Common.{codes, decimal, ◌∙◌}
use Rattle.std.proofs.lemmas.Result.{on_ok_weaker}
use Rattle.transcripts.proofs.OnTranscript.{three_print}
use Rattle.transcripts.proofs.transcript.Transcript.report_abandoned.Goals as goal

pub returns : goal.returns
returns c =
    on_ok_weaker
    c.line.result
    (λ e.
    three_print
    c.args.self.now
    c.text.new.self
    c.number.new.self
    c.line.new.self
    (codes "abandoned after ")
    (decimal c.args.commands)
    (codes " commands")
    _
    _
    c.args.self.now.status
    c.in_ok-text.ensures
    c.in_ok-number.ensures
    (e.0, e.1 ∙ c.in_ok-number.ensures.1 ∙ c.in_ok-text.ensures.1))
    c.line.ensures
