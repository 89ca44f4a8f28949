use Rattle.std.proofs.Common.{[]}
use Rattle.std.proofs.lemmas.Result.{err_from_is_err_and}
use Rattle.migrate_frames.specs.Reading.{many, new_piece_at}
use Rattle.migrate_frames.proofs.Many.{goes_on, ends}
use Rattle.migrate_frames.proofs.collections.members_at.Goals as goal

pub returns-in_err-rest : goal.returns-in_err-rest
returns-in_err-rest c =
    let p = err_from_is_err_and c.from_residual.result c.from_residual.ensures.1 in
    rw (p.1, p.2) (ends new_piece_at c.args.count c.loop.counter c.loop.members c.loop.rest.now (many new_piece_at [] c.args.count c.args.bytes.now) c.loop.invariant c.in_err-rest.field-0.0 c.loop-test.true c.in_err-rest.ensures)

pub loop-preserved : goal.loop-preserved
loop-preserved c = goes_on new_piece_at c.args.count c.loop.counter c.loop.members c.loop.rest.now (many new_piece_at [] c.args.count c.args.bytes.now) c.loop.invariant c.read_member.new.members c.in_ok-rest.rest.now c.loop-test.true c.in_ok-rest.ensures
