use Rattle.std.proofs.Common.{codes, decimal}
use Rattle.std.proofs.lemmas.Result.{on_ok_weaker}
use Rattle.transcripts.proofs.OnTranscript.{three_print}
use Rattle.transcripts.proofs.transcript.Transcript.report_paused.Goals as goal

pub returns : goal.returns
returns c =
    on_ok_weaker
    c.line.result
    (λ e.
    three_print
    c.args.self.now
    c.text.new.self
    c.number.new.self
    c.line.new.self
    (codes "paused after ")
    (decimal c.args.commands)
    (codes " commands, no slot is open")
    _
    _
    3
    c.in_ok-text.ensures
    c.in_ok-number.ensures
    e)
    c.line.ensures
