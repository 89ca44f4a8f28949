use Rattle.std.proofs.Common.{◌∙◌, ap, arith, length, option_map}
use Rattle.std.proofs.lemmas.Result.{err_from_is_err_and}
use Rattle.plan_language.proofs.Reading.{past_line}
use Rattle.plan_language.proofs.plan_lines.PlanLines.next.Goals as goal

pub returns-in_err-take_in : goal.returns-in_err-take_in
returns-in_err-take_in c =
    let h = err_from_is_err_and c.from_residual.result c.from_residual.ensures.1 in
    let l = c.self.inside in
    let past =
    past_line (option_map (λ names. names.now) l.names) l.version l.number l.count c.in-Some.text.now l.lines c.next_whole.new.self c.ends_plan.result c.in-Some.ensures
    c.ends_plan.ensures c.if-ends_plan.false in
    rw (h.1, h.2, ← c.self.view_is) (past ∙ c.in_err-take_in.ensures.read)

pub returns : goal.returns
returns c =
    let l = c.self.inside in
    let taken = c.in_ok-take_in.ensures in
    let past =
    past_line (option_map (λ names. names.now) l.names) l.version l.number l.count c.in-Some.text.now l.lines c.next_whole.new.self c.ends_plan.result c.in-Some.ensures
    c.ends_plan.ensures c.if-ends_plan.false in
    rw (← c.self.view_is) (record {
      whole = past ∙ taken.read;
      well_formed = taken.line.0;
      within = taken.line.1;
      fits = taken.line.2;
      listed = taken.line.3;
      same_version = taken.version;
      same_names = taken.names;
      counted = taken.line.4;
      room = taken.line.5;
      less = omega (arith, ap length taken.lines, ap length c.in-Some.ensures.0);
    })
