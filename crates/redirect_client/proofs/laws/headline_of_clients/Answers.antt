use Rattle.redirect_client.proofs.Honestly.{headline_of_clients}
use Rattle.redirect_client.proofs.laws.headline_of_clients.Goals as goal

pub returns : goal.returns
returns c = headline_of_clients
