use Rattle.command_words.proofs.Addressing.{none_written, one_more}
use Rattle.command_words.proofs.addresses.each_address.Goals as goal

pub returns-in_default : goal.returns-in_default
returns-in_default c = record {
  written = λ addresses. none_written c.args.words.now addresses c.loop-word.word-index _ c.loop-word-test.true
      c.in_default.ensures;
}

pub loop-word-preserved : goal.loop-word-preserved
loop-word-preserved c =
    one_more c.args.words.now c.loop-word.word-index _ c.loop-word.found.items c.push.new.self.items c.in-Some.address c.loop-word-test.true
    c.loop-word.invariant c.in-Some.ensures c.in_ok-push.ensures.items
