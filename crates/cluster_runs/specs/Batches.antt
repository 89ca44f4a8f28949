-- The batches of a plan.
use Rattle.std.specs.Prelude.{ℕ, List, [], ◌∷◌, max}
use Rattle.plan_language.specs.declared.line.Line.{Line}
use Rattle.plan_language.specs.declared.line.Line.TheVariants as line
use Rattle.plan_language.specs.declared.plan_command.PlanCommand.TheVariants.{Drain}

-- how many keys a batch of the line has at most
abbrev pub batch_of : Line → ℕ
batch_of (line.Move first last source target batch) = batch
batch_of (line.Command (Drain slot source target batch)) = batch
batch_of (line.Command c) = 0

-- the most keys of a batch, so many at least
abbrev pub most_keys : (least : ℕ) → List Line → ℕ
most_keys n [] = n
most_keys n (l ∷ lines) = most_keys (max n (batch_of l)) lines
