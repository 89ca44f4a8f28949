use Rattle.std.proofs.Common.{refl}
use Rattle.plan_language.specs.Texts.{plan_text}
use Rattle.plan_language.proofs.Exactly.{any_one_text}
use Rattle.cluster_inspection.proofs.naming.reads_back.Goals as goal

pub returns : goal.returns
returns c = (any_one_text (plan_text c.args.plan.now) c.args.plan.now).1 (refl, c.lines-lines.ensures.plan, c.requires)
