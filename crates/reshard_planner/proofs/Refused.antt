-- What is given where there is no plan.
use Rattle.std.proofs.Common.{◌≡◌, ℕ, List, Result, Ok, Err, sym, subst}
use Rattle.std.specs.Prelude.{IsErrAnd}
use Rattle.std.proofs.lemmas.Result.{err_from_is_err_and}
use Rattle.byte_texts.specs.Outcomes.{IsAnswered, RefusedUnlessMemory}
use Rattle.plan_language.specs.PlanView.{PlanView}
use Rattle.plan_language.specs.declared.line.Line.{Line}
use Rattle.reshard_planner.specs.declared.planner_fault.PlannerFault.{PlannerFault}
use Rattle.reshard_planner.specs.declared.planner_fault.PlannerFault.TheVariants.{Memory}
use Rattle.reshard_planner.specs.Answers.{Answer, Gives}
use Rattle.reshard_planner.specs.Faults.{is_memory}

-- a refusal that `?` hands on
pub handed_on : (n : ℕ) (wanted : Answer) (r : Result PlanView PlannerFault) (f : PlannerFault) → IsErrAnd r (λ e. e ≡ f)
    → RefusedUnlessMemory is_memory wanted f → Gives n r wanted
handed_on n wanted r f is refused = by (err_from_is_err_and r is)
  where
    by : (e : PlannerFault) × (r ≡ Err e) × (e ≡ f) → Gives n r wanted
    by p = rw (p.1, p.2) (tt, refused)

-- out of memory in the place of these lines
pub no_memory : (n : ℕ) (wanted : Answer) (lines : List Line) (r : Result PlanView PlannerFault) → wanted ≡ Ok lines
    → IsErrAnd r (λ e. e ≡ Memory) → Gives n r wanted
no_memory n wanted lines r same is =
    handed_on n wanted r Memory is (subst (λ (w : Answer). IsAnswered w) (sym same) tt)
