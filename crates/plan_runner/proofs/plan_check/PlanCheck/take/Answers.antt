use Rattle.std.proofs.Common.{rules, ◌∷◌, arith, sym, ◌∙◌, subst, ◌++◌, []}
use Rattle.std.proofs.lemmas.Result.{err_from_is_err_and}
use Rattle.plan_runner.specs.Standing.{Stands}
use Rattle.plan_runner.proofs.Standing.{one_taken, fault_found, taken_few}
use Rattle.plan_runner.proofs.plan_check.PlanCheck.take.Goals as goal

pub note-requires : goal.note-requires
note-requires g c = (
  omega arith,
  (
    search rules,
    (
      omega (arith, c.requires.room),
      taken_few c.args.rules.version c.args.rules.nodes g.row.N c.args.self.now c.args.command _ c.in_ok-state.state
          c.requires.nodes (sym c.next.ensures.value ∙ c.in_ok-state.was),
    ),
  ),
)

pub returns-in_err-state-clause-takes : goal.returns-in_err-state-clause-takes
returns-in_err-state-clause-takes g c phases prefix h =
    let p = err_from_is_err_and c.from_residual.result c.from_residual.ensures.1 in
    rw (p.1, p.2) (λ rest. fault_found c.args.rules.version c.args.rules.nodes phases prefix rest c.args.self.now c.args.command c.in_err-state.field-0.0
    c.next.ensures.within (sym c.next.ensures.value ∙ c.in_err-state.was) h)

pub returns-clause-takes : goal.returns-clause-takes
returns-clause-takes g c phases prefix h =
    subst (Stands c.args.rules.version c.args.rules.nodes phases (prefix ++ c.args.command ∷ [])) (sym c.note.ensures.noted)
    (one_taken c.args.rules.version c.args.rules.nodes phases prefix c.args.self.now c.args.command _ c.in_ok-state.state
    (omega arith) c.next.ensures.within (sym c.next.ensures.value ∙ c.in_ok-state.was) h)
