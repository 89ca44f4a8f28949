use Rattle.std.proofs.Common.{rules, ◌≡◌, ◌∙◌, ◌+◌, ◌++◌, ℕ, List, inr, false, sym, subst, Result, Ok, Err}
use Rattle.std.specs.Prelude.{IfErr}
use Rattle.byte_streams.proofs.reading.read_whole.Goals as goal

if_err : {T E : Type 0} (r : Result T E) (P : Type 0) → P → IfErr r (λ _. P)
if_err (Ok x) P p = tt
if_err (Err e) P p = p

pub returns-in_err-read_piece-clause-begun : goal.returns-in_err-read_piece-clause-begun
returns-in_err-read_piece-clause-begun g c =
    let read = c.in_err-read_piece.ensures.gave in
    if_err c.from_residual-in_err-read_piece.result _
    (c.loop.counter + 1, c.loop.text.items ++ read.0, g.met.R.ByteIn.gave_then c.args.reader.now c.loop.reader c.read_piece.new.reader c.loop.counter 1 c.loop.text.items read.0 c.loop.invariant.0 read.1)

pub returns-then-not-branch-clause-whole : goal.returns-then-not-branch-clause-whole
returns-then-not-branch-clause-whole g c =
    let read = c.in_ok-read_piece.ensures.gave in
    let given = g.met.R.ByteIn.gave_then c.args.reader.now c.loop.reader c.read_piece.new.reader c.loop.counter 1 c.loop.text.items read.0 c.loop.invariant.0 read.1 in
    let ended : c.in_ok-read_piece.field-0 ≡ false = search rules in (
      (c.loop.counter + 1, subst (λ (t : List ℕ). g.R.ByteIn.gave c.args.reader.now (c.loop.counter + 1) t c.read_piece.new.reader) (sym read.2) given),
      λ same. c.in_ok-read_piece.ensures.end ended (same ∙ sym c.loop.invariant.1),
    )

pub returns-clause-failed : goal.returns-clause-failed
returns-clause-failed g c = λ failed.
    let all : c.loop.counter ≡ 9223372036854775807 = search rules in
    inr (c.loop.text.items, subst (λ (n : ℕ). g.R.ByteIn.gave c.args.reader.now n c.loop.text.items c.loop.reader) all c.loop.invariant.0)
