use Rattle.redirect_client.proofs.OneMeaning.{one_meaning}
use Rattle.redirect_client.proofs.laws.replies_have_one_meaning.Goals as goal

pub returns : goal.returns
returns c = one_meaning
