use Rattle.std.proofs.Common.{◌<◌, subst, sym}
use Rattle.plan_runner.proofs.Surveyed.{seen_within}
use Rattle.plan_runner.proofs.plan_check.first_targets.Goals as goal
use Rattle.plan_runner.proofs.plan_check.first_targets.Goals.{in-Importing, in-Importing-2, in-Importing-3}
use Rattle.plan_runner.proofs.plan_check.first_targets.Goals.{in-Importing-4}

pub with-requires : goal.with-requires
with-requires g c = (
  search,
  elim c.in-Importing-1.branch [
    | in-Importing w ↦ subst (λ m. m < g.row.N) (sym w.target-is) (seen_within g.row.N c.args.phase.now w.in-Importing.target c.requires.nodes w.in-Importing.is)
    | in-Importing-2 w ↦ subst (λ m. m < g.row.N) (sym w.target-is) (seen_within g.row.N c.args.phase.now w.in-Importing.target c.requires.nodes w.in-Importing.is)
    | in-Importing-3 w ↦ subst (λ m. m < g.row.N) (sym w.target-is) (seen_within g.row.N c.args.phase.now w.in-Importing.target c.requires.nodes w.in-Importing.is)
    | in-Importing-4 w ↦ subst (λ m. m < g.row.N) (sym w.target-is) (seen_within g.row.N c.args.phase.now w.in-Importing.target c.requires.nodes w.in-Importing.is)
  ],
)
