use Rattle.std.proofs.Common.{length}
use Rattle.redis_servers.proofs.unmet.+unmet_texts.Given as goal

abbrev pub decreases-unmet_texts : goal.decreases-unmet_texts
decreases-unmet_texts l = length l.duties.now
