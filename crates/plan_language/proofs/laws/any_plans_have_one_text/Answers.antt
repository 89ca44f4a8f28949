use Rattle.plan_language.proofs.Exactly.{any_one_text}
use Rattle.plan_language.proofs.laws.any_plans_have_one_text.Goals as goal

pub returns : goal.returns
returns c = any_one_text
