use Rattle.std.proofs.Common.{rules}
use Rattle.transcripts.specs.Printing.{stands_for_itself}
use Rattle.transcripts.proofs.Plain.{passed_all, stopped}
use Rattle.transcripts.proofs.printing.plain_len.Goals as goal

pub returns-then-count-lt16-clause-value : goal.returns-then-count-lt16-clause-value
returns-then-count-lt16-clause-value c =
    stopped stands_for_itself c.args.bytes.now c.loop-start.start c.plain_len_of_16-count.result (search rules)
    c.plain_len_of_16-count.ensures c.loop-start.invariant.passed c.if-count-lt16.true

pub loop-start-preserved : goal.loop-start-preserved
loop-start-preserved c = record {
  within = search rules;
  passed = passed_all stands_for_itself c.args.bytes.now c.loop-start.start c.plain_len_of_16-count.result
      (search rules) c.plain_len_of_16-count.ensures c.loop-start.invariant.passed c.if-count-lt16.false;
}
