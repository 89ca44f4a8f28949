use Rattle.std.proofs.Common.{◌++◌, codes}
use Rattle.std.specs.Fmt.{HasWritten, decimal}
use Rattle.server_settling.specs.OpenStops.{alone_text, doubled_text, ended_text}
use Rattle.server_settling.specs.declared.settled_slot.Alone.{Alone}
use Rattle.server_settling.specs.declared.settled_slot.Doubled.{Doubled}
use Rattle.server_settling.specs.declared.settled_slot.Ended.{Ended}
use Rattle.server_settling.proofs.Parts.{with_parts}
use Rattle.server_settling.proofs.settled_slot.SettledSlotDisplay.fmt.Goals as goal

pub returns-clause-writes : goal.returns-clause-writes
returns-clause-writes g c = λ p o.
    with_parts (λ (e : Ended) (d : Doubled) (a : Alone). HasWritten g.W.Write.write_str_gives c.args.f.now
    (codes "settled slot " ++ (decimal c.args.self.now.course.slot ++ (codes ": " ++ (ended_text e.count e.source e.target ++ (
    codes ", " ++ (doubled_text d.count d.source d.target ++ (codes ", " ++ alone_text a.count a.target))))))) c.write.new.self)
    c.ended-ended.result _ c.doubled-doubled.result _ c.alone-alone.result _ c.ended-ended.ensures c.doubled-doubled.ensures c.alone-alone.ensures
    (c.write.ensures.writes p o)
