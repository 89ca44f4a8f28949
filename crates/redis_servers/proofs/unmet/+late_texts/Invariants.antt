use Rattle.std.proofs.Common.{length}
use Rattle.redis_servers.proofs.unmet.+late_texts.Given as goal

abbrev pub decreases-late_texts : goal.decreases-late_texts
decreases-late_texts l = length l.hearers.now
