use Rattle.std.proofs.lemmas.Result.{err_from_is_err_and}
use Rattle.resp2_wire.specs.Replies.{line_at}
use Rattle.resp2_wire.proofs.Keeping.{not_by_memory}
use Rattle.resp2_wire.proofs.ReplyStaying.{is_text_line}
use Rattle.resp2_wire.proofs.decoding.error_at.Goals as goal

pub returns-in_err-text-clause-memory : goal.returns-in_err-text-clause-memory
returns-in_err-text-clause-memory c =
    let p = err_from_is_err_and c.from_residual.result c.from_residual.ensures.1 in
    rw (p.1, p.2) (not_by_memory (Unit {0}) (line_at 1024 c.args.bytes.now) c.in_err-text.field-0.0 _ ((is_text_line 1024).tells c.args.bytes.now) c.in_err-text.ensures.read)
