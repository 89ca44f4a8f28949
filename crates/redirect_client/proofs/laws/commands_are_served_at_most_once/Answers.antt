use Rattle.redirect_client.proofs.ServedOnce.{served_at_most_once}
use Rattle.redirect_client.proofs.laws.commands_are_served_at_most_once.Goals as goal

pub returns : goal.returns
returns c = served_at_most_once
