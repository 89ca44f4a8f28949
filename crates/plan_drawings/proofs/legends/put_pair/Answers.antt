use Rattle.plan_drawings.proofs.Chains.{two}
use Rattle.plan_drawings.proofs.legends.put_pair.Goals as goal

pub returns-clause-text : goal.returns-clause-text
returns-clause-text c =
    rw (← c.line_form.ensures.form)
    (two c.put_filled-2.result c.args.out.now.items c.put_filled.new.out.items c.put_filled-2.new.out.items _ _
    c.in_ok-put_filled.ensures.text c.put_filled-2.ensures.text)
