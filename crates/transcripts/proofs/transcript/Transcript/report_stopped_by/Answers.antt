use Rattle.std.proofs.Common.{codes, decimal}
use Rattle.std.proofs.lemmas.Result.{on_ok_weaker}
use Rattle.transcripts.proofs.OnTranscript.{four_print}
use Rattle.transcripts.proofs.transcript.Transcript.report_stopped_by.Goals as goal

pub returns : goal.returns
returns c =
    on_ok_weaker
    c.failing_line.result
    (λ e.
    four_print
    c.args.self.now
    c.text.new.self
    c.number.new.self
    c.text-2.new.self
    c.failing_line.new.self
    (codes "stopped at command ")
    (decimal c.args.commands)
    (codes ": ")
    c.args.reason.now
    _
    _
    _
    1
    c.in_ok-text.ensures
    c.in_ok-number.ensures
    c.in_ok-text-2.ensures
    e)
    c.failing_line.ensures
