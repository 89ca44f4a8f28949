use Rattle.plan_changes.proofs.Lost.{emptied_lose_last}
use Rattle.plan_changes.proofs.load_laws.emptied_nodes_lose_their_last_slot.Goals as goal

pub returns : goal.returns
returns c = emptied_lose_last
