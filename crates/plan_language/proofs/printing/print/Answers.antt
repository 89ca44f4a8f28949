use Rattle.std.proofs.lemmas.Grind.{common_steps}
use Rattle.std.proofs.Common.{arith, ◌≡◌, ap, ◌∙◌}
use Rattle.plan_language.specs.Texts.{any_plan_of_text, plan_of_text, plan_text}
use Rattle.plan_language.proofs.Printed.{any_plan_read, plan_read}
use Rattle.plan_language.proofs.printing.print.Goals as goal

pub returns-clause-text : goal.returns-clause-text
returns-clause-text c = grind (arith, common_steps)

pub returns-clause-read_back : goal.returns-clause-read_back
returns-clause-read_back c none =
    let text : c.extend_from_slice.new.self.items ≡ plan_text c.args.plan.now = returns-clause-text c in
    ap plan_of_text text ∙ plan_read c.args.plan.now c.lines-line-items.ensures.plan none

pub returns-clause-any_read_back : goal.returns-clause-any_read_back
returns-clause-any_read_back c listed =
    let text : c.extend_from_slice.new.self.items ≡ plan_text c.args.plan.now = returns-clause-text c in
    ap any_plan_of_text text ∙ any_plan_read c.args.plan.now c.lines-line-items.ensures.plan listed
