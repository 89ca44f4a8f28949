use Rattle.std.proofs.Common.{sym, ◌∙◌}
use Rattle.rehearsal.proofs.Ending.{last_kept}
use Rattle.rehearsal.proofs.script.Rehearsal.end_last.Goals as goal

pub returns-clause-ends : goal.returns-clause-ends
returns-clause-ends c =
    last_kept c.args.stage c.args.self.now.pending.items c.args.self.now c.end_line.new.self c.end_line.result (rw c.as_slice.ensures.value at (sym c.is_empty.ensures ∙ c.if-is_empty.false)) c.end_line.ensures.ends
