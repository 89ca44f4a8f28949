use Rattle.std.proofs.Common.{◌+◌, ◌*◌, length}
use Rattle.client_questions.proofs.hello.+options.Given as goal

abbrev pub decreases-options_end : goal.decreases-options_end
decreases-options_end l = 3 * length l.options.now

abbrev pub decreases-option_end : goal.decreases-option_end
decreases-option_end l = 3 * length l.further.now + 2

abbrev pub decreases-long_end : goal.decreases-long_end
decreases-long_end l = 3 * length l.more.now + 4
