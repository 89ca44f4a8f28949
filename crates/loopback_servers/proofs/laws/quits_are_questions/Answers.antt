use Rattle.loopback_servers.proofs.Quits.{quits_told}
use Rattle.loopback_servers.proofs.laws.quits_are_questions.Goals as goal

pub returns : goal.returns
returns c = quits_told
