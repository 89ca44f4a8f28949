use Rattle.std.proofs.Common.{◌∙◌, sym}
use Rattle.resp2_wire.specs.View.{tree}
use Rattle.resp2_wire.proofs.LimitTests.{within}
use Rattle.resp2_wire.proofs.reply.Reply.is_within_limits.Goals as goal

pub returns-clause-within : goal.returns-clause-within
returns-clause-within c = λ e. within 8 (tree c.args.self.now) (sym c.is_within.ensures ∙ e)
