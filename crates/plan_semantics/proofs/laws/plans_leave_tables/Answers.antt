use Rattle.plan_semantics.proofs.Finals.{leaves_table}
use Rattle.plan_semantics.proofs.laws.plans_leave_tables.Goals as goal

pub returns : goal.returns
returns c = leaves_table
