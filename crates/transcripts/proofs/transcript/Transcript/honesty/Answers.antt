use Rattle.std.proofs.Common.{◌++◌, [], codes, decimal}
use Rattle.std.proofs.lemmas.Result.{on_ok_weaker}
use Rattle.transcripts.specs.OutcomeTexts.{closed}
use Rattle.transcripts.proofs.OnTranscript.{prints_more}
use Rattle.transcripts.proofs.transcript.Transcript.honesty.Goals as goal

pub returns-in_ok-number-in-Some : goal.returns-in_ok-number-in-Some
returns-in_ok-number-in-Some c =
    let before = codes "dishonest event " in
    let number = decimal c.in-Some.number in
    let first =
    prints_more c.args.self.now c.text.new.self c.number.new.self before number c.in_ok-text-in-Some.ensures
    c.in_ok-number-in-Some.ensures in
    rw c.in-Some.is (on_ok_weaker
    c.line-in-Some.result
    (λ e. prints_more c.args.self.now c.number.new.self c.line-in-Some.new.self (before ++ number) (closed []) first e)
    c.line-in-Some.ensures)
