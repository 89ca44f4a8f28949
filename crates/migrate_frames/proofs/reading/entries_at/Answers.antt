use Rattle.std.proofs.Common.{[]}
use Rattle.std.proofs.lemmas.Result.{err_from_is_err_and}
use Rattle.migrate_frames.specs.Reading.{many, entry_at}
use Rattle.migrate_frames.proofs.Many.{goes_on, ends}
use Rattle.migrate_frames.proofs.reading.entries_at.Goals as goal

pub returns-in_err-rest : goal.returns-in_err-rest
returns-in_err-rest c =
    let p = err_from_is_err_and c.from_residual.result c.from_residual.ensures.1 in
    rw (p.1, p.2) (ends entry_at c.args.count c.loop.counter c.loop.batch.items c.loop.rest.now (many entry_at [] c.args.count c.args.bytes.now) c.loop.invariant.so_far c.in_err-rest.field-0.0 c.loop-test.true c.in_err-rest.ensures.read)

pub loop-preserved : goal.loop-preserved
loop-preserved c = record {
  seen = c.in_ok-rest.ensures.keys;
  so_far = goes_on entry_at c.args.count c.loop.counter c.loop.batch.items c.loop.rest.now (many entry_at [] c.args.count c.args.bytes.now) c.loop.invariant.so_far c.read_entry.new.batch.items c.in_ok-rest.rest.now c.loop-test.true c.in_ok-rest.ensures.read;
}
