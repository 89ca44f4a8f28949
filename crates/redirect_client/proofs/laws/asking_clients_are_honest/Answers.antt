use Rattle.redirect_client.proofs.Honestly.{clients_are_honest}
use Rattle.redirect_client.proofs.laws.asking_clients_are_honest.Goals as goal

pub returns : goal.returns
returns c = clients_are_honest
