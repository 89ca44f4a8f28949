use Rattle.std.proofs.Common.{rules, ◌≡◌, ℕ, List, IfOk}
use Rattle.server_runs.proofs.Logging.{logs_line, logs_nothing}
use Rattle.server_runs.proofs.run_record.RunRecord.log_line.Goals as goal

pub returns-in-Ok-clause-log : goal.returns-in-Ok-clause-log
returns-in-Ok-clause-log g c text timed =
    logs_line g.L.ByteOut.took text c.args.self.now.log c.in-Some.log c.write.new.self c.args.line c.in-Ok.line c.in-Some.is c.in-Ok.is
    timed (search rules)

pub returns-in-Err-clause-log : goal.returns-in-Err-clause-log
returns-in-Err-clause-log g c text timed =
    logs_nothing g.L.ByteOut.took g.met.L.ByteOut.took_none text c.args.self.now.log c.in-Some.log c.give_up.new.self c.in-Some.is
    c.give_up.ensures.broken c.give_up.ensures.writer
