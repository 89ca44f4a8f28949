use Rattle.std.proofs.Common.{sym, ◌∙◌}
use Rattle.slot_marks.proofs.Verdicts.{source-none, source-all}
use Rattle.slot_marks.proofs.judging.at_source.Goals as goal

pub returns-then-not-any_here : goal.returns-then-not-any_here
returns-then-not-any_here c = source-none c.args.target c.args.present.now (sym c.any_here.ensures ∙ c.if-not-any_here.true)

pub returns-else-any_missing : goal.returns-else-any_missing
returns-else-any_missing c =
    source-all c.args.target c.args.present.now (sym c.any_here.ensures ∙ c.if-not-any_here.false) (sym c.any_missing.ensures ∙ c.if-any_missing.false)
