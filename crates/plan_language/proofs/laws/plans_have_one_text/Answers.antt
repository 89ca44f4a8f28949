use Rattle.plan_language.proofs.Exactly.{one_text}
use Rattle.plan_language.proofs.laws.plans_have_one_text.Goals as goal

pub returns : goal.returns
returns c = one_text
