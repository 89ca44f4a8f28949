use Rattle.std.proofs.Common.{refl}
use Rattle.std.proofs.lemmas.Result.{err_from_is_err_and}
use Rattle.resp2_wire.specs.declared.fault.WireFault.TheVariants.{BadLength}
use Rattle.resp2_wire.specs.Reading.{header_at}
use Rattle.resp2_wire.proofs.Keeping.{not_by_memory}
use Rattle.resp2_wire.proofs.Staying.{is_header}
use Rattle.resp2_wire.proofs.decoding.bulk_at.Goals as goal

pub returns-in_err-length-clause-memory : goal.returns-in_err-length-clause-memory
returns-in_err-length-clause-memory c =
    let p = err_from_is_err_and c.from_residual.result c.from_residual.ensures.1 in
    rw (p.1, p.2) (not_by_memory (Unit {0}) (header_at BadLength c.args.bytes.now) c.in_err-length.field-0.0 _ ((is_header BadLength refl).tells c.args.bytes.now) c.in_err-length.ensures)
