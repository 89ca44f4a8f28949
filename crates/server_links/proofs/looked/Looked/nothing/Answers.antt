use Rattle.server_links.proofs.Following.{nothing_looked}
use Rattle.server_links.proofs.looked.Looked.nothing.Goals as goal

pub returns : goal.returns
returns c = nothing_looked
