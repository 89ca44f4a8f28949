-- What all servers say of their cluster, as one survey.
use Rattle.std.specs.Prelude.{◌≡◌, ◌⊎◌, ℕ, ◌<◌, Bool, cond, not, ◌&&◌, ◌||◌, ◌==◌, List, [], length, Option, Some, None}
use Rattle.std.specs.Prelude.{find, is_some, map, nat_lt, option_map, slice_index_or}
use Rattle.std.specs.List.{list_any}
use Rattle.std.specs.Option.{option_or}
use Rattle.listed_nodes.specs.declared.node_line.NodeLine.{NodeLine}
use Rattle.cluster_admin.specs.Surveys.{Survey, importing_at, migrating_at, owner_at, row_at}
use Rattle.cluster_views.specs.Numbers.{first_given, numbers_to}
use Rattle.cluster_views.specs.Views.{IsRowOf, line_about, view_fault}
use Rattle.cluster_views.specs.declared.fault.SurveyFault.{SurveyFault}
use Rattle.cluster_views.specs.declared.fault.SurveyFault.TheVariants as fault
use Rattle.server_commands.specs.Servers.{server_at}
use Rattle.server_commands.specs.declared.book.Server.{Server}

-- what each server answered
abbrev pub Views : Type 0
Views = List (List NodeLine)

abbrev pub view_at : Views → ℕ → List NodeLine
view_at views n = slice_index_or views n []

abbrev pub views_fault : List Server → Views → Option SurveyFault
views_fault b views = first_given (λ n. view_fault b n (view_at views n)) (numbers_to (length b))

-- ---- owners that differ

abbrev pub has_mark : Survey → (slot node : ℕ) → Bool
has_mark v s n = is_some (migrating_at v n s) || is_some (importing_at v n s)

abbrev pub is_marked : Survey → (slot : ℕ) → Bool
is_marked v s = list_any (has_mark v s) (numbers_to (length v.rows))

abbrev pub differs : Survey → (slot node : ℕ) → Bool
differs v s n = not (owner_at v n s == owner_at v 0 s)

-- the first node that tells another owner of the slot than n0 does
abbrev pub dissenter : Survey → (slot : ℕ) → Option ℕ
dissenter v s = find (differs v s) (numbers_to (length v.rows))

-- While a slot is on its way, and has a mark somewhere, nodes may differ.
abbrev pub dispute_at : Survey → (slot : ℕ) → Option SurveyFault
dispute_at v s = cond (is_marked v s) None (option_map (λ n. fault.Disagreement n s) (dissenter v s))

abbrev pub dispute : Survey → Option SurveyFault
dispute v = first_given (dispute_at v) (numbers_to 16384)

-- ---- config epochs

abbrev pub epoch_in : Option NodeLine → ℕ
epoch_in None = 0
epoch_in (Some l) = l.epoch

-- the epoch of the node m, as the server n tells it
abbrev pub epoch_at : List Server → Views → (n m : ℕ) → ℕ
epoch_at b views n m = epoch_in (line_about (server_at b m) (view_at views n))

-- each node's, as it tells it itself
abbrev pub epochs_of : List Server → Views → List ℕ
epochs_of b views = map (λ m. epoch_at b views m m) (numbers_to (length b))

abbrev pub other_epoch : List Server → Views → (n m : ℕ) → Option SurveyFault
other_epoch b views n m = cond (epoch_at b views n m == epoch_at b views m m) None (Some (fault.OtherEpoch n m))

-- the first node whose epoch the server n tells otherwise
abbrev pub other_epoch_at : List Server → Views → (n : ℕ) → Option SurveyFault
other_epoch_at b views n = first_given (other_epoch b views n) (numbers_to (length b))

abbrev pub epochs_fault : List Server → Views → Option SurveyFault
epochs_fault b views = first_given (other_epoch_at b views) (numbers_to (length b))

abbrev pub same_epoch : List Server → Views → (n m : ℕ) → Option SurveyFault
same_epoch b views m n =
    cond (nat_lt n m && epoch_at b views n n == epoch_at b views m m) (Some (fault.SameEpoch n m)) None

-- the first node below this one that has its epoch
abbrev pub same_epoch_as : List Server → Views → (m : ℕ) → Option SurveyFault
same_epoch_as b views m = first_given (same_epoch b views m) (numbers_to (length b))

abbrev pub collision : List Server → Views → Option SurveyFault
collision b views = first_given (same_epoch_as b views) (numbers_to (length b))

-- ---- all of it

-- what each server tells
pub record IsTold (b : List Server) (views : Views) (v : Survey) : Type 0 where
  pub count : length v.rows ≡ length b
  pub rows : (n : ℕ) → n < length b → IsRowOf b (view_at views n) (row_at v n)

-- what stands against this survey, which was told
abbrev pub survey_fault : List Server → Views → Survey → Option SurveyFault
survey_fault b views v = option_or (dispute v) (option_or (epochs_fault b views) (collision b views))

-- each server's view is fine, they tell this survey, and nothing stands against it
pub record IsSurveyed (b : List Server) (views : Views) (v : Survey) : Type 0 where
  pub fine : views_fault b views ≡ None
  pub told : IsTold b views v
  pub agreed : survey_fault b views v ≡ None

-- the first fault of a view, or all are fine and this stands against the survey that they tell
abbrev pub IsRefused : List Server → Views → SurveyFault → Type 0
IsRefused b views e = (views_fault b views ≡ Some e)
    ⊎ ((views_fault b views ≡ None) × (v : Survey) × IsTold b views v × (survey_fault b views v ≡ Some e))

-- out of memory may stand for any answer
abbrev pub IsRefusedOrMemory : List Server → Views → SurveyFault → Type 0
IsRefusedOrMemory b views e = (e ≡ fault.Memory) ⊎ IsRefused b views e
