use Rattle.std.proofs.Common.{rules}
use Rattle.script_lines.specs.Forms.{stable_form}
use Rattle.script_lines.proofs.Halting.{halted}
use Rattle.script_lines.proofs.Shapes.{stable_halts, stable_short, stable_long, nows}
use Rattle.script_lines.proofs.reading.stable.Goals.{in_default-via-then-words-lt4, in_default-via-else-words-lt4+else-words-lt5}
use Rattle.script_lines.proofs.reading.stable.Goals as goal

pub returns-in_default-clause-value : goal.returns-in_default-clause-value
returns-in_default-clause-value c =
    elim c.in_default.branch [
      | in_default-via-then-words-lt4 w ↦ stable_short c.args.nodes c.args.words.now (search rules)
      | in_default-via-else-words-lt4+else-words-lt5 w ↦ stable_long c.args.nodes c.args.words.now (search rules)
    ]

pub returns-in_err-command-clause-value : goal.returns-in_err-command-clause-value
returns-in_err-command-clause-value c =
    let ws = c.args.words.now in
    let h = c.in_err-command.field-0.0 in
    halted (stable_form c.args.nodes (nows ws)) c.from_residual.result _ h c.from_residual.ensures.1
    (stable_halts c.args.nodes ws _ h c.in-len4.len_at_least c.in-len4.len_below c.in_err-command.ensures.value)
