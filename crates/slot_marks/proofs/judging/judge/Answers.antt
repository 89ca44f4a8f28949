use Rattle.std.proofs.Common.{sym}
use Rattle.slot_marks.proofs.Verdicts.{slot-first}
use Rattle.slot_marks.proofs.judging.judge.Goals as goal

pub judge_at-requires-clause-slot : goal.judge_at-requires-clause-slot
judge_at-requires-clause-slot c =
    sym (slot-first c.args.keys.now c.index-keys-0.result c.get.result.now c.slot_of.result c.requires.some c.index-keys-0.is c.get.ensures.value c.slot_of.ensures.value)
