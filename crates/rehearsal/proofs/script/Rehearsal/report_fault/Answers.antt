use Rattle.std.proofs.Common.{inr, refl}
use Rattle.script_lines.specs.declared.fault.Halt.TheVariants.{Memory}
use Rattle.rehearsal.specs.Scripts.{halt_text}
use Rattle.rehearsal.proofs.script.Rehearsal.report_fault.Goals as goal

pub returns-in-Err : goal.returns-in-Err
returns-in-Err g c = (halt_text c.args.self.now.line Memory, inr refl, c.put-in-Err.ensures.wrote)
