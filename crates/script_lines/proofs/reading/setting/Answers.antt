use Rattle.std.proofs.Common.{rules}
use Rattle.script_lines.specs.Forms.{setting_form}
use Rattle.script_lines.proofs.Halting.{halted}
use Rattle.script_lines.proofs.Shapes.{setting_halts, setting_short, setting_long, nows}
use Rattle.script_lines.proofs.reading.setting.Goals.{in_default-via-then-words-lt5, in_default-via-else-words-lt5+else-words-lt6}
use Rattle.script_lines.proofs.reading.setting.Goals as goal

pub returns-in_default-clause-value : goal.returns-in_default-clause-value
returns-in_default-clause-value c =
    elim c.in_default.branch [
      | in_default-via-then-words-lt5 w ↦ setting_short c.args.nodes c.args.words.now (search rules)
      | in_default-via-else-words-lt5+else-words-lt6 w ↦ setting_long c.args.nodes c.args.words.now (search rules)
    ]

pub returns-in_err-command-clause-value : goal.returns-in_err-command-clause-value
returns-in_err-command-clause-value c =
    let ws = c.args.words.now in
    let h = c.in_err-command.field-0.0 in
    halted (setting_form c.args.nodes (nows ws)) c.from_residual.result _ h c.from_residual.ensures.1
    (setting_halts c.args.nodes ws _ h c.in-len5.len_at_least c.in-len5.len_below c.in_err-command.ensures.value)
