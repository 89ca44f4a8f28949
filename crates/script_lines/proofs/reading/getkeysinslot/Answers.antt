use Rattle.script_lines.specs.Forms.{getkeysinslot_form}
use Rattle.script_lines.proofs.Halting.{halted}
use Rattle.script_lines.proofs.Shapes.{listing_halts, nows}
use Rattle.script_lines.proofs.reading.getkeysinslot.Goals as goal

pub returns-in_err-command-clause-value : goal.returns-in_err-command-clause-value
returns-in_err-command-clause-value c =
    let ws = c.args.words.now in
    let h = c.in_err-command.field-0.0 in
    halted (getkeysinslot_form c.args.nodes (nows ws)) c.from_residual-in_err-command.result _ h c.from_residual-in_err-command.ensures.1
    (listing_halts c.args.nodes ws _ h _ c.in-len4.len_at_least c.in-len4.len_below c.in_ok-is_verb.ensures c.if-not-branch.false c.in_err-command.ensures.value)
