-- The members of a set, in the order in which they came. A missing set has none.
use Rattle.std.specs.Prelude.{ℕ, ◌-◌, ◌≤◌, Bool, List, map, fold, length, Result}
use Rattle.std.specs.List.{IsDistinct, AllByRecursion, list_any}
use Rattle.std.specs.Set.{remove_key}
use Rattle.indexmap.specs.IndexSet.{insert_key}
use Rattle.std.specs.declared.alloc.Global.{Global}
use Rattle.std.specs.declared.vec.Vec.{Vec}
use Rattle.typed_values.specs.Faults.{within, map_ok}
use Rattle.typed_values.specs.Fields.{same_bytes}
use Rattle.typed_values.specs.declared.fault.ValueFault.{ValueFault}

-- SISMEMBER, https://redis.io/docs/latest/commands/sismember/
abbrev pub has : List (List ℕ) → List ℕ → Bool
has ms m = list_any (same_bytes m) ms

-- a new member goes last
abbrev pub with_member : List (List ℕ) → List ℕ → List (List ℕ)
with_member ms m = insert_key same_bytes ms m

-- each text put in turn
abbrev pub members_with : List (List ℕ) → List (List ℕ) → List (List ℕ)
members_with ms xs = fold with_member ms xs

-- SADD, https://redis.io/docs/latest/commands/sadd/
abbrev pub members_added : List (List ℕ) → List (List ℕ) → Result (List (List ℕ)) ValueFault
members_added ms xs = within (length (members_with ms xs)) (members_with ms xs)

-- and how many members it adds
abbrev pub members_new : List (List ℕ) → List (List ℕ) → Result ℕ ValueFault
members_new ms xs = map_ok (λ now. length now - length ms) (members_added ms xs)

-- without the member m
abbrev pub without_member : List (List ℕ) → List ℕ → List (List ℕ)
without_member ms m = remove_key (same_bytes m) ms

-- SREM, https://redis.io/docs/latest/commands/srem/: each text removed in turn
abbrev pub members_without : List (List ℕ) → List (List ℕ) → List (List ℕ)
members_without ms xs = fold without_member ms xs

-- and how many members it removes
abbrev pub members_gone : List (List ℕ) → List (List ℕ) → ℕ
members_gone ms xs = length ms - length (members_without ms xs)

abbrev pub HasDistinctMembers : List (List ℕ) → Type 0
HasDistinctMembers ms = IsDistinct same_bytes ms

-- each is within the limit of a text
abbrev pub AreShortMembers : List (List ℕ) → Type 0
AreShortMembers ms = AllByRecursion (λ m. length m ≤ 1048576) ms

abbrev pub members_of : List (Vec ℕ Global) → List (List ℕ)
members_of ms = map (λ m. m.items) ms
