-- The whole move of one slot (the page of CLUSTER SETSLOT, "Redis Cluster live resharding explained").
use Rattle.std.specs.Prelude.{ℕ, List, ◌∷◌, map}
use Rattle.plan_language.specs.declared.plan_command.PlanCommand.{PlanCommand}
use Rattle.plan_language.specs.declared.plan_command.PlanCommand.TheVariants as planned

-- the whole move of a slot: importing, migrating, the drain, and then SETSLOT NODE at the target, at the source and at
-- each other node
abbrev pub move_of : (s source target batch : ℕ) → List ℕ → List PlanCommand
move_of s source target batch others =
    planned.Importing s source target ∷ planned.Migrating s target source ∷ planned.Drain s source target batch
    ∷ planned.SetNode s target target ∷ planned.SetNode s target source ∷ map (λ m. planned.SetNode s target m) others
