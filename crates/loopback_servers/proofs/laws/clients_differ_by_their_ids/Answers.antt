use Rattle.loopback_servers.proofs.Clients.{ids_differ}
use Rattle.loopback_servers.proofs.laws.clients_differ_by_their_ids.Goals as goal

pub returns : goal.returns
returns c = ids_differ
