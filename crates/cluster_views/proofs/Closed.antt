-- A survey in which all servers tell one table, and none has a mark.
use Rattle.std.proofs.Common.{◌≡◌, ℕ, ◌<◌, List, [], length, map, replicate, get_or, arith, sym, ap, ◌∙◌}
use Rattle.std.proofs.lemmas.List.{ext_get_or, get_or-replicate, length-map, length-replicate}
use Rattle.std.specs.FinMap as finite
use Rattle.key_slots.specs.Owners.{Owners}
use Rattle.slot_marks.specs.Tables.{Marks}
use Rattle.cluster_admin.specs.Surveys.{Row, Survey, closed_row, closed_survey}
use Rattle.cluster_views.specs.Rows.{AreRows, kept_at, row_of, survey_by}
use Rattle.cluster_views.specs.declared.server_row.ServerRow.{ServerRow}
use Rattle.cluster_views.proofs.Kept.{row_shown}

-- these owners and no marks
abbrev pub closed_kept : Owners → ServerRow
closed_kept o = record { owners = o; migrating = finite.empty; importing = finite.empty }

pub closed_all : (rs : List ServerRow) (v : Survey) (o : Owners) → survey_by rs ≡ v → length v.rows ≡ o.nodes
    → ((n : ℕ) → n < length rs → kept_at rs n ≡ closed_kept o) → v ≡ closed_survey o.nodes o.owners
closed_all rs v o is many each =
    let count : length rs ≡ o.nodes = sym (length-map rs row_of) ∙ ap (λ (w : Survey). length w.rows) is ∙ many in
    let same : map row_of rs ≡ replicate o.nodes (closed_row o.owners) = ext_get_or (closed_row [])
    (map row_of rs) (replicate o.nodes (closed_row o.owners))
    (length-map rs row_of ∙ count ∙ sym (length-replicate o.nodes (closed_row o.owners)))
    (λ n lt.
    let inside : n < length rs = omega (arith, length-map rs row_of) in
    row_shown rs n ∙ ap row_of (each n inside)
    ∙ sym (get_or-replicate o.nodes n (closed_row o.owners) (closed_row []) (omega arith))) in
    sym is ∙ ap (λ (rows : List Row). record { rows = rows }) same

-- the row of a server, by its parts
kept_is : (r : ServerRow) (o : Owners) → r.owners.nodes ≡ o.nodes → r.owners.owners ≡ o.owners
    → r.migrating ≡ finite.empty → r.importing ≡ finite.empty → r ≡ closed_kept o
kept_is r o a b c d =
    ap (λ (n : ℕ). with_parts n r.owners.owners r.migrating r.importing) a
    ∙ ap (λ (os : List ℕ). with_parts o.nodes os r.migrating r.importing) b
    ∙ ap (λ (m : Marks). with_parts o.nodes o.owners m r.importing) c
    ∙ ap (λ (m : Marks). with_parts o.nodes o.owners finite.empty m) d
  where
    with_parts : ℕ → List ℕ → Marks → Marks → ServerRow
    with_parts n os going coming = record {
      owners = record { nodes = n; owners = os };
      migrating = going;
      importing = coming;
    }

pub closed_one : (rs : List ServerRow) (v : Survey) (o : Owners) → AreRows rs → survey_by rs ≡ v
    → v ≡ closed_survey o.nodes o.owners → (n : ℕ) → n < length rs → kept_at rs n ≡ closed_kept o
closed_one rs v o are is closed n lt =
    let w = are.each n lt in
    let rows : map row_of rs ≡ replicate o.nodes (closed_row o.owners) =
    ap (λ (x : Survey). x.rows) (is ∙ closed) in
    let count : length rs ≡ o.nodes =
    sym (length-map rs row_of) ∙ ap length rows ∙ length-replicate o.nodes (closed_row o.owners) in
    let shown : row_of (kept_at rs n) ≡ closed_row o.owners =
    sym (row_shown rs n) ∙ ap (λ xs. get_or xs n (closed_row [])) rows
    ∙ get_or-replicate o.nodes n (closed_row o.owners) (closed_row []) (omega arith) in
    kept_is (kept_at rs n) o (w.nodes ∙ count) (ap (λ (r : Row). r.owners) shown)
    (ap (λ (r : Row). r.migrating) shown) (ap (λ (r : Row). r.importing) shown)
