use Rattle.std.proofs.Common.{◌≡◌, rules, false, refl, true}
use Rattle.cluster_cli.proofs.Unserved.{served_plan, unserved, unserved_alone, unserved_plan}
use Rattle.cluster_cli.proofs.service.serve_words.Goals as goal

pub returns-in-Ok-Ok-clause-served : goal.returns-in-Ok-Ok-clause-served
returns-in-Ok-Ok-clause-served g c = λ none.
    let asked : c.args.words.now.plan ≡ true = search rules in
    served_plan (record {
      gave = g.R.ByteIn.gave;
      ends = g.R.ByteIn.ends;
      failures = g.R.ByteIn.failures;
      before = c.args.reader.now;
      after = c.plan_in.new.reader;
    })
    (record {
      took = g.W.ByteOut.took;
      failures = g.W.ByteOut.failures;
      before = c.args.writer.now;
      after = c.serve_and_explain-in-Ok-Ok.new.writer;
    })
    c.args.words.now c.in-Ok-Ok.field-0 c.in-Ok-Ok.ensures.given c.in-Ok-Ok.plan c.in-Ok-Ok.field-0-is asked c.options_of-options.result
    c.options_of-options.ensures (c.serve_and_explain-in-Ok-Ok.ensures.announced none)

pub returns-in-Ok-Ok-clause-unserved : goal.returns-in-Ok-Ok-clause-unserved
returns-in-Ok-Ok-clause-unserved g c = λ one.
    let asked : c.args.words.now.plan ≡ true = search rules in
    unserved_plan (record {
      gave = g.R.ByteIn.gave;
      ends = g.R.ByteIn.ends;
      failures = g.R.ByteIn.failures;
      before = c.args.reader.now;
      after = c.plan_in.new.reader;
    })
    (record {
      took = g.W.ByteOut.took;
      failures = g.W.ByteOut.failures;
      before = c.args.writer.now;
      after = c.serve_and_explain-in-Ok-Ok.new.writer;
    })
    c.args.words.now c.in-Ok-Ok.field-0 c.in-Ok-Ok.ensures.given c.in-Ok-Ok.plan c.in-Ok-Ok.field-0-is asked c.options_of-options.result
    c.options_of-options.ensures c.serve_and_explain-in-Ok-Ok.result one c.serve_and_explain-in-Ok-Ok.ensures.judged

pub returns-in-Ok-Err-clause-unserved : goal.returns-in-Ok-Err-clause-unserved
returns-in-Ok-Err-clause-unserved g c = λ status.
    let asked : c.args.words.now.plan ≡ true = search rules in
    unserved (record {
      gave = g.R.ByteIn.gave;
      ends = g.R.ByteIn.ends;
      failures = g.R.ByteIn.failures;
      before = c.args.reader.now;
      after = c.plan_in.new.reader;
    })
    (record {
      took = g.W.ByteOut.took;
      failures = g.W.ByteOut.failures;
      before = c.args.writer.now;
      after = c.refuse.new.writer;
    })
    c.args.words.now c.in-Ok-Err.field-0 c.in-Ok-Err.ensures.given c.in-Ok-Err.fault c.in-Ok-Err.field-0-is asked c.refuse.ensures.reported

pub returns-then-not-words-clause-unserved : goal.returns-then-not-words-clause-unserved
returns-then-not-words-clause-unserved g c = λ one.
    let none : c.args.words.now.plan ≡ false = search rules in
    unserved_alone (record {
      gave = g.R.ByteIn.gave;
      ends = g.R.ByteIn.ends;
      failures = g.R.ByteIn.failures;
      before = c.args.reader.now;
      after = c.args.reader.now;
    })
    (record {
      took = g.W.ByteOut.took;
      failures = g.W.ByteOut.failures;
      before = c.args.writer.now;
      after = c.serve_and_explain.new.writer;
    })
    c.args.words.now c.options_of-options.result c.serve_and_explain.result none refl c.options_of-options.ensures one
    c.serve_and_explain.ensures.judged
