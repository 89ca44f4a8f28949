use Rattle.std.proofs.Common.{◌++◌, codes, decimal}
use Rattle.std.proofs.lemmas.Result.{on_ok_weaker}
use Rattle.transcripts.specs.RunTexts.{left_text, rate, seconds_text}
use Rattle.transcripts.proofs.OnTranscript.{prints_more}
use Rattle.transcripts.proofs.transcript.Transcript.progress.Goals as goal

pub returns : goal.returns
returns c =
    let p1 = prints_more c.args.self.now c.number.new.self c.text.new.self (decimal c.args.progress.now.slots)
    (codes " of ") c.in_ok-number.ensures c.in_ok-text.ensures in
    let p2 = prints_more c.args.self.now c.text.new.self c.number-2.new.self
    (decimal c.args.progress.now.slots ++ codes " of ") (decimal c.args.progress.now.all_slots) p1
    c.in_ok-number-2.ensures in
    let p3 = prints_more c.args.self.now c.number-2.new.self c.text-2.new.self
    (decimal c.args.progress.now.slots ++ codes " of " ++ decimal c.args.progress.now.all_slots)
    (codes " slots, ") p2 c.in_ok-text-2.ensures in
    let p4 = prints_more c.args.self.now c.text-2.new.self c.number-3.new.self
    (decimal c.args.progress.now.slots ++ codes " of " ++ decimal c.args.progress.now.all_slots ++ codes
    " slots, ") (decimal c.args.progress.now.keys) p3 c.in_ok-number-3.ensures in
    let p5 = prints_more c.args.self.now c.number-3.new.self c.text-3.new.self
    (decimal c.args.progress.now.slots ++ codes " of " ++ decimal c.args.progress.now.all_slots ++ codes
    " slots, " ++ decimal c.args.progress.now.keys) (codes " keys, ") p4 c.in_ok-text-3.ensures in
    let p6 = prints_more c.args.self.now c.text-3.new.self c.number-4.new.self
    (decimal c.args.progress.now.slots ++ codes " of " ++ decimal c.args.progress.now.all_slots ++ codes
    " slots, " ++ decimal c.args.progress.now.keys ++ codes " keys, ") (decimal c.args.progress.now.commands) p5
    c.in_ok-number-4.ensures in
    let p7 = prints_more c.args.self.now c.number-4.new.self c.text-4.new.self
    (decimal c.args.progress.now.slots ++ codes " of " ++ decimal c.args.progress.now.all_slots ++ codes
    " slots, " ++ decimal c.args.progress.now.keys ++ codes " keys, " ++ decimal c.args.progress.now.commands)
    (codes " commands, ") p6 c.in_ok-text-4.ensures in
    let p8 = prints_more c.args.self.now c.text-4.new.self c.seconds.new.self
    (decimal c.args.progress.now.slots ++ codes " of " ++ decimal c.args.progress.now.all_slots ++ codes
    " slots, " ++ decimal c.args.progress.now.keys ++ codes " keys, " ++ decimal c.args.progress.now.commands ++
    codes " commands, ") (seconds_text c.args.progress.now.millis) p7 c.in_ok-seconds.ensures in
    let p9 = prints_more c.args.self.now c.seconds.new.self c.text-5.new.self
    (decimal c.args.progress.now.slots ++ codes " of " ++ decimal c.args.progress.now.all_slots ++ codes
    " slots, " ++ decimal c.args.progress.now.keys ++ codes " keys, " ++ decimal c.args.progress.now.commands ++
    codes " commands, " ++ seconds_text c.args.progress.now.millis) (codes " s, ") p8 c.in_ok-text-5.ensures in
    let p10 = prints_more c.args.self.now c.text-5.new.self c.rate.new.self
    (decimal c.args.progress.now.slots ++ codes " of " ++ decimal c.args.progress.now.all_slots ++ codes
    " slots, " ++ decimal c.args.progress.now.keys ++ codes " keys, " ++ decimal c.args.progress.now.commands ++
    codes " commands, " ++ seconds_text c.args.progress.now.millis ++ codes " s, ")
    (decimal (rate c.args.progress.now.keys c.args.progress.now.millis)) p9 c.in_ok-rate.ensures in
    let p11 = prints_more c.args.self.now c.rate.new.self c.text-6.new.self
    (decimal c.args.progress.now.slots ++ codes " of " ++ decimal c.args.progress.now.all_slots ++ codes
    " slots, " ++ decimal c.args.progress.now.keys ++ codes " keys, " ++ decimal c.args.progress.now.commands ++
    codes " commands, " ++ seconds_text c.args.progress.now.millis ++ codes " s, " ++ decimal
    (rate c.args.progress.now.keys c.args.progress.now.millis)) (codes " keys/s") p10 c.in_ok-text-6.ensures in
    on_ok_weaker c.left.result (λ e. prints_more c.args.self.now c.text-6.new.self c.left.new.self (decimal c.args.progress.now.slots ++ codes " of " ++ decimal c.args.progress.now.all_slots ++ codes " slots, " ++ decimal c.args.progress.now.keys ++ codes " keys, " ++ decimal c.args.progress.now.commands ++ codes " commands, " ++ seconds_text c.args.progress.now.millis ++ codes " s, " ++ decimal (rate c.args.progress.now.keys c.args.progress.now.millis) ++ codes " keys/s") (left_text c.args.progress.now.slots c.args.progress.now.all_slots c.args.progress.now.millis) p11 e) c.left.ensures
