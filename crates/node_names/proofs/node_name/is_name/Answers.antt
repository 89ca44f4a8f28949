use Rattle.std.proofs.Common.{arith}
use Rattle.node_names.proofs.Names.{with_len}
use Rattle.node_names.proofs.node_name.is_name.Goals as goal

pub returns-then-word-eq40 : goal.returns-then-word-eq40
returns-then-word-eq40 c =
    with_len c.args.word.now c.are_name_digits.result (omega (arith, c.if-word-eq40.true)) c.are_name_digits.ensures
