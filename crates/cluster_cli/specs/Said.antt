-- What there is to say of a plan that is asked for.
use Rattle.std.specs.Prelude.{◌≤◌, ℕ, List}
use Rattle.cluster_cli.specs.declared.said.Said.{Said}
use Rattle.cluster_cli.specs.declared.said.Said.TheVariants.{Answer, Misnamed}

-- an answer with its status, or the report of words that are misnamed
abbrev pub IsSaid : (says : (status : ℕ) → (text remark : List ℕ) → Type 0) → (misnamed : (report : List ℕ) → Type 0)
    → Said → Type 0
IsSaid says misnamed (Answer t remark) = (t.status ≤ 1) × says t.status t.printed.items remark.items
IsSaid says misnamed (Misnamed report) = misnamed report.items
