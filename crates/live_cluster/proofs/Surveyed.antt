-- A survey of a running cluster, table by table.
use Rattle.std.proofs.Common.{◌≡◌, ℕ, ◌+◌, ◌<◌, ◌≤◌, List, [], ◌∷◌, ◌++◌, length, arith, sym, refl, ap, ◌∙◌, subst}
use Rattle.std.proofs.lemmas.List.{ext_get_or, length-append, length-map}
use Rattle.slot_marks.specs.Tables.{Table}
use Rattle.cluster_admin.specs.Surveys.{AreTables, IsTableOf, Survey, closed_row, row_at, survey_by}
use Rattle.cluster_world.specs.Worlds.{row_of, survey_of, World}
use Rattle.cluster_admin.specs.Telling.{survey_after}
use Rattle.cluster_admin.specs.declared.call.AdminCall.{AdminCall}
use Rattle.cluster_admin.proofs.Surveyed.{Copied, all_copied, none_copied, one_copied, survey_copied}
use Rattle.cluster_admin.proofs.Telling.{after_length}
use Rattle.shared_trail.specs.Surveying.{AddsTable, row_by_calls}

-- so many tables, which show what these calls tell
pub record SoFar (opening : World) (calls : List AdminCall) (number : ℕ) (ts : List Table) : Type 0 where
  pub many : length ts ≡ number
  pub copied : Copied (length opening.nodes) (row_by_calls opening calls) ts

pub begun : (opening : World) (calls : List AdminCall) (ts : List Table) → ts ≡ [] → SoFar opening calls 0 ts
begun opening calls ts none = record {
  many = ap length none;
  copied = none_copied (length opening.nodes) (row_by_calls opening calls) ts none;
}

pub goes_on : (opening : World) (calls : List AdminCall) (number node : ℕ) (ts ts' : List Table) → node ≡ number
    → SoFar opening calls number ts → AddsTable (length opening.nodes) node (row_by_calls opening calls node) ts ts'
    → SoFar opening calls (number + 1) ts'
goes_on opening calls number node ts ts' at far adds =
    let place : node ≡ length ts = at ∙ sym far.many in
    let count : length ts' ≡ length (ts ++ adds.table ∷ []) = ap length adds.is in
    record {
      many = omega (arith, count, length-append ts (adds.table ∷ []), far.many);
      copied = one_copied (length opening.nodes) (row_by_calls opening calls) ts ts' adds.table far.copied adds.is
          (subst (λ n. IsTableOf (length opening.nodes) n adds.table) place adds.of_node)
          (adds.shows ∙ ap (row_by_calls opening calls) place);
    }

pub all_tables : (opening : World) (calls : List AdminCall) (number : ℕ) (ts : List Table) → SoFar opening calls number ts
    → number ≡ length opening.nodes → 1 ≤ number → number ≤ 255 → AreTables ts
all_tables opening calls number ts far all least most =
    all_copied (length opening.nodes) (row_by_calls opening calls) ts far.copied (far.many ∙ all)
    (subst (λ n. 1 ≤ n) all least) (subst (λ n. n ≤ 255) all most)

rows_many : (opening : World) (calls : List AdminCall) → length (survey_after (survey_of opening) calls).rows ≡ length opening.nodes
rows_many opening calls = after_length (survey_of opening) calls ∙ length-map opening.nodes row_of

pub survey_is : (opening : World) (calls : List AdminCall) (number : ℕ) (ts : List Table) → SoFar opening calls number ts
    → number ≡ length opening.nodes → survey_by ts ≡ survey_after (survey_of opening) calls
survey_is opening calls number ts far all =
    survey_copied (length opening.nodes) (row_by_calls opening calls) ts (survey_after (survey_of opening) calls) far.copied
    (far.many ∙ all) (rows_many opening calls) (λ n h. refl)

pub survey_many : (opening : World) (calls : List AdminCall) (v : Survey) → v ≡ survey_after (survey_of opening) calls
    → length v.rows ≡ length opening.nodes
survey_many opening calls v is = ap (λ (u : Survey). length u.rows) is ∙ rows_many opening calls

-- ---- whether a survey matches

-- the node's row is the one that the calls tell, where the survey is
pub told_row : (opening : World) (calls : List AdminCall) (v : Survey) (n : ℕ) → survey_after (survey_of opening) calls ≡ v
    → row_at v n ≡ row_by_calls opening calls n
told_row opening calls v n is = ap (λ u. row_at u n) (sym is)

-- the survey is the one that the calls tell, where each row is
pub rows_told : (opening : World) (calls : List AdminCall) (v : Survey) → length opening.nodes ≡ length v.rows
    → ((n : ℕ) → n < length opening.nodes → row_at v n ≡ row_by_calls opening calls n) → survey_after (survey_of opening) calls ≡ v
rows_told opening calls v many same = ap (λ rs. record { rows = rs })
    (ext_get_or (closed_row []) (survey_after (survey_of opening) calls).rows v.rows (rows_many opening calls ∙ many)
    (λ n h. sym (same n (subst (λ k. n < k) (rows_many opening calls) h))))
