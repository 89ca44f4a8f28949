use Rattle.resp2_wire.specs.declared.fault.WireFault.TheVariants as faults
use Rattle.node_session.proofs.FaultLines.{line_is}
use Rattle.node_session.proofs.writing.fault_line.Goals as goal

pub returns-in-NotArray : goal.returns-in-NotArray
returns-in-NotArray c = line_is faults.NotArray c.args.fault c.in-NotArray.is

pub returns-in-BadCount : goal.returns-in-BadCount
returns-in-BadCount c = line_is faults.BadCount c.args.fault c.in-BadCount.is

pub returns-in-NotBulk : goal.returns-in-NotBulk
returns-in-NotBulk c = line_is faults.NotBulk c.args.fault c.in-NotBulk.is

pub returns-in-BadLength : goal.returns-in-BadLength
returns-in-BadLength c = line_is faults.BadLength c.args.fault c.in-BadLength.is

pub returns-in-TooLarge : goal.returns-in-TooLarge
returns-in-TooLarge c = line_is faults.TooLarge c.args.fault c.in-TooLarge.is

pub returns-in-MissingCrLf : goal.returns-in-MissingCrLf
returns-in-MissingCrLf c = line_is faults.MissingCrLf c.args.fault c.in-MissingCrLf.is

pub returns-in-Memory : goal.returns-in-Memory
returns-in-Memory c = line_is faults.Memory c.args.fault c.in-Memory.is

pub returns-in-BadMark : goal.returns-in-BadMark
returns-in-BadMark c = line_is faults.BadMark c.args.fault c.in-BadMark.is
