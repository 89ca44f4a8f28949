-- What is said of a plan that takes all slots of a node.
use Rattle.std.specs.Prelude.{ℕ, List, [], ◌++◌, cond, codes, length}
use Rattle.std.specs.List.{flat_map}
use Rattle.cluster_views.specs.Numbers.{numbers_to}
use Rattle.cluster_admin.specs.Surveys.{Survey}
use Rattle.plan_language.specs.declared.plan_command.PlanCommand.{PlanCommand}
use Rattle.plan_changes.specs.Emptying.{is_emptied}
use Rattle.survey_texts.specs.Texts.{node_text, slots_of}

-- `n1 gives all of its slots away, and may become a replica`, or nothing
abbrev pub emptied_line : Survey → List PlanCommand → (node : ℕ) → List ℕ
emptied_line v plan n = cond (is_emptied n plan (slots_of v n))
    (node_text n ++ codes " gives all of its slots away, and may become a replica\n") []

abbrev pub emptied_lines : Survey → List PlanCommand → List ℕ
emptied_lines v plan = flat_map (emptied_line v plan) (numbers_to (length v.rows))
