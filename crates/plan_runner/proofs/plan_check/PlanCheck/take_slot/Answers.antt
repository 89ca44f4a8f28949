use Rattle.std.proofs.Common.{rules, arith, sym, ap, ◌∙◌, subst, ◌++◌}
use Rattle.std.proofs.lemmas.Result.{err_from_is_err_and}
use Rattle.plan_language.specs.Lines.{others}
use Rattle.plan_language.specs.Moves.{move_of}
use Rattle.plan_language.specs.declared.plan_command.PlanCommand.TheVariants as planned
use Rattle.plan_runner.specs.Standing.{Stands, noted}
use Rattle.plan_runner.proofs.Standing.{move_taken, fault_found, taken_few}
use Rattle.plan_runner.proofs.plan_check.PlanCheck.take_slot.Goals as goal

pub note-requires : goal.note-requires
note-requires g c = (
  omega arith,
  (
    search rules,
    (
      c.requires.room,
      taken_few c.args.rules.version c.args.rules.nodes g.row.N c.args.self.now (planned.Importing c.args.slot c.args.source c.args.target) _ c.in_ok-next.field-0
          c.requires.nodes (sym c.next.ensures.value ∙ c.in_ok-next.was),
    ),
  ),
)

pub returns-in_err-next-clause-takes : goal.returns-in_err-next-clause-takes
returns-in_err-next-clause-takes g c b phases prefix h =
    let p = err_from_is_err_and c.from_residual.result c.from_residual.ensures.1 in
    rw (p.1, p.2) (λ rest. fault_found c.args.rules.version c.args.rules.nodes phases prefix _ c.args.self.now (planned.Importing c.args.slot c.args.source c.args.target)
    c.in_err-next.field-0.0 c.next.ensures.within (sym c.next.ensures.value ∙ c.in_err-next.was) h)

pub returns-clause-takes : goal.returns-clause-takes
returns-clause-takes g c b phases prefix h =
    let importing = planned.Importing c.args.slot c.args.source c.args.target in
    let moved = move_of c.args.slot c.args.source c.args.target b (others c.args.rules.nodes c.args.source c.args.target) in
    subst (Stands c.args.rules.version c.args.rules.nodes phases (prefix ++ moved))
    (sym (c.note.ensures.noted ∙ ap (λ q. noted c.args.self.now importing q c.args.each) c.moved_to.ensures))
    (move_taken c.args.rules.version c.args.rules.nodes phases prefix c.args.self.now c.args.slot c.args.source c.args.target b c.args.each _ c.in_ok-next.field-0
    (omega arith) c.next.ensures.within c.requires.each (sym c.next.ensures.value ∙ c.in_ok-next.was) h)
