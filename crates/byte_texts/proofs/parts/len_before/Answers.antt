use Rattle.std.proofs.Common.{nat_eq, ◌-◌, length, arith}
use Rattle.byte_texts.proofs.Parting.{passed_all, stopped, ended}
use Rattle.byte_texts.proofs.parts.len_before.Goals as goal

pub returns-then-before-lt16 : goal.returns-then-before-lt16
returns-then-before-lt16 c =
    stopped (λ b. nat_eq b c.args.byte) c.args.text.now c.loop-start.start c.len_before_of_16-before.result
    (omega (arith, c.loop-start-test.true)) c.len_before_of_16-before.ensures c.loop-start.invariant c.if-before-lt16.true

pub loop-start-preserved : goal.loop-start-preserved
loop-start-preserved c =
    passed_all (λ b. nat_eq b c.args.byte) c.args.text.now c.loop-start.start c.len_before_of_16-before.result
    (omega (arith, c.loop-start-test.true)) c.len_before_of_16-before.ensures c.loop-start.invariant c.if-before-lt16.false

pub returns : goal.returns
returns c =
    ended (λ b. nat_eq b c.args.byte) c.args.text.now c.loop-start.start (length c.args.text.now - 16)
    c.len_before_of_16.result (omega (arith, c.requires)) c.loop-start-test.false c.len_before_of_16.ensures
    c.loop-start.invariant
