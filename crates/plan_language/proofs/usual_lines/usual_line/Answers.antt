use Rattle.plan_language.proofs.Usual.{usual_text}
use Rattle.plan_language.proofs.usual_lines.usual_line.Goals as goal

pub returns-clause-text : goal.returns-clause-text
returns-clause-text c =
    let at = c.in_ok-with_node in
    let node = c.in_ok-with_setting in
    let setting = c.in_ok-with_slot in
    let digits = c.in_ok-digits in
    let slot = c.in_ok-slot in
    usual_text setting.setting c.args.text.now at.with_node.now node.with_setting.now setting.with_slot.now
    digits.digits.now slot.slot node.node at.at c.of.result c.of-2.result c.command-command.result at.ensures.1
    node.ensures.1 setting.ensures digits.ensures slot.ensures
    c.command-command.ensures c.of.ensures c.of-2.ensures
