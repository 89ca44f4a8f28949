use Rattle.std.proofs.Common.{◌++◌, codes, decimal}
use Rattle.std.proofs.lemmas.Result.{on_ok_weaker}
use Rattle.transcripts.proofs.OnTranscript.{closes, prints_more}
use Rattle.transcripts.proofs.transcript.Transcript.report_load.Goals as goal

pub returns : goal.returns
returns c =
    let p1 = prints_more c.args.self.now c.text.new.self c.number.new.self (codes "moves ") (decimal c.args.moves)
    c.in_ok-text.ensures c.in_ok-number.ensures in
    let p2 = prints_more c.args.self.now c.number.new.self c.text-2.new.self (codes "moves " ++ decimal c.args.moves)
    (codes " slots with ") p1 c.in_ok-text-2.ensures in
    let p3 = prints_more c.args.self.now c.text-2.new.self c.number-2.new.self
    (codes "moves " ++ decimal c.args.moves ++ codes " slots with ") (decimal c.args.keys) p2
    c.in_ok-number-2.ensures in
    let p4 = prints_more c.args.self.now c.number-2.new.self c.text-3.new.self
    (codes "moves " ++ decimal c.args.moves ++ codes " slots with " ++ decimal c.args.keys)
    (codes " keys by at most ") p3 c.in_ok-text-3.ensures in
    let p5 = prints_more c.args.self.now c.text-3.new.self c.number-3.new.self
    (codes "moves " ++ decimal c.args.moves ++ codes " slots with " ++ decimal c.args.keys ++ codes
    " keys by at most ") (decimal c.args.commands) p4 c.in_ok-number-3.ensures in
    on_ok_weaker c.line.result (λ e. closes c.args.self.now c.number-3.new.self c.line.new.self (codes "moves " ++ decimal c.args.moves ++ codes " slots with " ++ decimal c.args.keys ++ codes " keys by at most " ++ decimal c.args.commands) (codes " commands") p5 e) c.line.ensures
