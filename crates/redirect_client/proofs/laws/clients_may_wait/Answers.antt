use Rattle.redirect_client.proofs.Waiting.{clients_may_wait}
use Rattle.redirect_client.proofs.laws.clients_may_wait.Goals as goal

pub returns : goal.returns
returns c = clients_may_wait
