-- The verdict of a node on the keys of a command (Redis Cluster specification, "MOVED Redirection", "ASK redirection"
-- and "Multi-keys operations"; the page of CLUSTER SETSLOT).
use Rattle.std.specs.Prelude.{ℕ, Bool, false, cond, not, ◌&&◌, ◌==◌, List, [], ◌∷◌, Option, is_some, unwrap_or}
use Rattle.std.specs.Prelude.{slice_index, nat_eq}
use Rattle.std.specs.Cmp.Lexicographic.{pointwise}
use Rattle.std.specs.List.{list_any, list_all}
use Rattle.std.specs.FinMap as finite
pub use Rattle.key_slots.specs.OneSlot.{first_slot, is_cross}
use Rattle.slot_marks.specs.Tables.{Table}
use Rattle.slot_marks.specs.declared.verdict.Verdict.{Verdict}
use Rattle.slot_marks.specs.declared.verdict.Verdict.TheVariants.{Serve, Moved, Ask, TryAgain, CrossSlot}

-- two different keys are named
abbrev pub is_pair : List (List ℕ) → Bool
is_pair [] = false
is_pair (k ∷ ks) = list_any (λ q. not (pointwise nat_eq k q)) ks

-- the first row whose condition holds, and otherwise the last
abbrev pub first_row : {A : Type 0} → List (Bool × A) → A → A
first_row [] last = last
first_row (row ∷ rows) last = cond row.0 row.1 (first_row rows last)

-- The seven rows, in order: the slot's owner and marks in the table of the node me, and for each key whether it is
-- there.
abbrev pub judged : (me owner : ℕ) (goes comes : Option ℕ) (asking : Bool) → List (List ℕ) → (present : List Bool)
    → Verdict
judged me owner goes comes asking ks present =
    first_row (
    (is_cross ks, CrossSlot)
    ∷ (owner == me && is_some goes && list_any not present && list_any (λ b. b) present, TryAgain)
    ∷ (owner == me && is_some goes && list_all not present, Ask (unwrap_or goes 0))
    ∷ (is_some comes && asking && is_pair ks && list_any not present, TryAgain)
    ∷ (is_some comes && asking, Serve)
    ∷ (owner == me, Serve)
    ∷ []) (Moved owner)

-- the verdict by a node's table
unfoldable pub judged_by : Table → Bool → List (List ℕ) → List Bool → Verdict
judged_by t asking ks present =
    judged t.me (slice_index t.owners (first_slot ks)) (finite.get t.migrating (first_slot ks))
    (finite.get t.importing (first_slot ks)) asking ks present
