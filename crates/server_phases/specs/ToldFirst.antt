-- Of several open slots those are closed first whose target was told.
use Rattle.std.specs.Prelude.{Bool, ◌&&◌, ◌==◌, false, nat_lt, List, ◌++◌, filter, length, not, true}
use Rattle.cluster_admin.specs.Surveys.{Survey, owner_at}
use Rattle.plan_language.specs.declared.line.Line.{Line}
use Rattle.plan_language.specs.declared.line.Line.TheVariants as line
use Rattle.plan_language.specs.declared.plan_command.PlanCommand.TheVariants.{SetNode}

-- the line tells a node of the owner of a slot, and that owner tells it already
abbrev pub is_told : Survey → Line → Bool
is_told v (line.Command (SetNode s o m)) = nat_lt o (length v.rows) && (owner_at v o s == o)
is_told v other = false

-- that is so, or is not
abbrev pub is_of_kind : Survey → (told : Bool) → Line → Bool
is_of_kind v true l = is_told v l
is_of_kind v false l = not (is_told v l)

-- the lines of that kind, in their order
abbrev pub of_kind : Survey → (told : Bool) → List Line → List Line
of_kind v told lines = filter (is_of_kind v told) lines

abbrev pub told_first : Survey → List Line → List Line
told_first v lines = of_kind v true lines ++ of_kind v false lines
