-- Keys of open slots, counted over the connections of a survey.
use Rattle.std.specs.Prelude.{◌≡◌, ◌⊎◌, ℕ, List, Result, Err, None, slice_get}
use Rattle.cluster_views.specs.declared.fault.SurveyFault.{SurveyFault}
use Rattle.cluster_views.specs.declared.fault.SurveyFault.TheVariants as fault
use Rattle.server_links.specs.Exchanges.{Answer}
use Rattle.slot_key_counts.specs.Counting.{IsCounted}
use Rattle.server_links.specs.Asking.{AsksAt}

-- the node is asked over its own connection, and this is what its answer says; or it has none
abbrev pub IsCountedAt : {L : Type 0} → (asks : L → Answer → L → Type 0) → (node : ℕ) → Result ℕ SurveyFault
    → List L → List L → Type 0
IsCountedAt asks n r links links' = AsksAt (IsCounted asks n) links n r links'
    ⊎ ((slice_get links n ≡ None) × (links' ≡ links) × (r ≡ Err (fault.NoAnswer n)))
