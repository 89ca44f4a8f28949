-- What a plan is before its first line.
use Rattle.std.specs.Prelude.{ℕ, cond, nat_le, List, [], Option, None, Some}
use Rattle.node_names.specs.Names.{Names}
use Rattle.plan_language.specs.PlanView.{PlanView}
use Rattle.plan_language.specs.declared.line.Line.{Line}

-- a plan for at most eight nodes has no names, and the caller puts those of another plan in
abbrev pub names_for : (nodes : ℕ) → Option Names
names_for n = cond (nat_le n 8) None (Some [])

-- these lines by the rules of this version, for so many nodes
abbrev pub plan_for : (version nodes : ℕ) → List Line → PlanView
plan_for version n lines = record { version = version; names = names_for n; lines = lines }
