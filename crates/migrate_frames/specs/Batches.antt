-- Keys with their values, as they go from one node to another (MIGRATE,
-- https://redis.io/docs/latest/commands/migrate/), and which batches have a frame: those of 1 to 1,000 entries with
-- keys of their own and within the limits.
use Rattle.std.specs.Prelude.{◌≡◌, ℕ, ◌≤◌, false, List, length, map}
use Rattle.std.specs.Borrow.{Bor}
use Rattle.std.specs.List.{IsDistinct, AllByRecursion}
use Rattle.std.specs.Map.{keys_of}
use Rattle.typed_values.specs.declared.value.Value.{Value}
use Rattle.typed_values.specs.declared.value.Value.TheVariants as value
use Rattle.typed_values.specs.Fields.{same_bytes, HasDistinctFields, AreShortFields}
use Rattle.typed_values.specs.Members.{HasDistinctMembers, AreShortMembers}
use Rattle.typed_values.specs.Values.{is_empty_collection}

abbrev pub Entry : Type 0
Entry = List ℕ × Value

-- a key and a value that are borrowed from where they stand
abbrev pub BorrowedEntry : Type 0
BorrowedEntry = Bor (List ℕ) × Bor Value

abbrev pub entry_of : BorrowedEntry → Entry
entry_of b = (b.0.now, b.1.now)

abbrev pub entries_of : List BorrowedEntry → List Entry
entries_of bs = map entry_of bs

-- no key stands twice
abbrev pub HasEachKeyOnce : List Entry → Type 0
HasEachKeyOnce es = IsDistinct same_bytes (keys_of es)

-- no collection with nothing in it, which a store does not keep
abbrev pub HasNoEmptyCollection : List Entry → Type 0
HasNoEmptyCollection es = AllByRecursion (λ e. is_empty_collection e.1 ≡ false) es

-- ---- with the limits that the types keep

abbrev pub IsCount : ℕ → Type 0
IsCount n = (1 ≤ n) × (n ≤ 1048576)

abbrev pub FitsValue : Value → Type 0
FitsValue (value.Text t) = length t ≤ 1048576
FitsValue (value.Hash es) = IsCount (length es) × HasDistinctFields es × AreShortFields es
FitsValue (value.List l) = IsCount (length l) × AreShortMembers l
FitsValue (value.Set ms) = IsCount (length ms) × HasDistinctMembers ms × AreShortMembers ms

abbrev pub FitsEntry : Entry → Type 0
FitsEntry e = (length e.0 ≤ 1048576) × FitsValue e.1

-- each batch that has a frame
pub record Fits (es : List Entry) : Type 0 where
  pub some : 1 ≤ length es
  pub few : length es ≤ 1000
  pub once : HasEachKeyOnce es
  pub each : AllByRecursion FitsEntry es
