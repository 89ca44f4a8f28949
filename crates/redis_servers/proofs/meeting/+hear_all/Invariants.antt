use Rattle.std.proofs.Common.{length}
use Rattle.redis_servers.proofs.meeting.+hear_all.Given as goal

abbrev pub decreases-hear_all : goal.decreases-hear_all
decreases-hear_all g l = length l.hearers.now
