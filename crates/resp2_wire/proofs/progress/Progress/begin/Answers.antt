use Rattle.std.proofs.Common.{◌≡◌, ◌≤◌, [], length, arith}
use Rattle.std.proofs.Math.Nat.{sub-zero}
use Rattle.std.proofs.lemmas.Result.{err_from_is_err_and}
use Rattle.resp2_wire.specs.Reading.{count_at}
use Rattle.resp2_wire.specs.Progress.{words_of}
use Rattle.resp2_wire.proofs.Staying.{is_count}
use Rattle.resp2_wire.proofs.Going.{stops_from, rest_fits, count_fails, count_positive, count_reads, no_words}
use Rattle.resp2_wire.proofs.progress.Progress.begin.Goals as goal

pub returns-in_err-count-clause-err : goal.returns-in_err-count-clause-err
returns-in_err-count-clause-err c =
    let p = err_from_is_err_and c.from_residual.result c.from_residual.ensures.1 in
    rw (p.1, p.2) (stops_from _ _ (count_fails _ _ c.in_err-count.ensures.read))

pub overflow_sub-self : goal.overflow_sub-self
overflow_sub-self c = (rest_fits (count_at c.args.bytes.now) _ c.args.bytes.now _ c.in_ok-count.ensures.read (is_count.cuts c.args.bytes.now)).0

pub returns-clause-follows : goal.returns-clause-follows
returns-clause-follows c =
    let bytes = c.args.bytes.now in
    let fits = rest_fits (count_at bytes) _ bytes _ c.in_ok-count.ensures.read (is_count.cuts bytes) in
    let positive = count_positive _ bytes _ (c.requires.follows.not_empty c.requires.nothing) c.in_ok-count.ensures.read in
    let few : length (words_of c.args.self.now) ≤ c.args.self.now.count = c.requires.follows.few in
    let none : words_of c.args.self.now ≡ [] = no_words _ (omega (arith, c.requires.nothing)) in
    record {
      fits = omega arith;
      few = omega (arith, c.requires.nothing);
      most = c.in_ok-count.ensures.limit;
      start = λ z. absurd (omega arith);
      not_empty = λ z. absurd (omega arith);
      reads = λ lt more. rw (none, fits.1, sub-zero) (count_reads _ bytes _ more c.in_ok-count.ensures.read);
    }

pub returns-clause-ok : goal.returns-clause-ok
returns-clause-ok c = count_positive _ c.args.bytes.now _ (c.requires.follows.not_empty c.requires.nothing) c.in_ok-count.ensures.read
