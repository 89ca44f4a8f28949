-- What was read may be put.
use Rattle.std.proofs.Common.{◌≡◌, ℕ, suc, ◌<◌, false, List, [], ◌∷◌, length, get_or, refl, arith}
use Rattle.std.specs.List.{AllByRecursion}
use Rattle.typed_values.specs.declared.value.Value.{Value}
use Rattle.typed_values.specs.declared.value.Value.TheVariants as value
use Rattle.typed_values.specs.Values.{is_nil, is_empty_collection}
use Rattle.migrate_frames.specs.Batches.{Entry, IsCount, FitsValue, FitsEntry, HasNoEmptyCollection}
use Rattle.migrate_frames.specs.Laws.{AreBytes}

pub are_bytes : (bytes : List ℕ) → ((k : ℕ) → get_or bytes k 0 < 256) → AreBytes bytes
are_bytes [] h = tt
are_bytes (b ∷ bytes) h = (h 0, are_bytes bytes (λ k. h (suc k)))

not_nil : {X : Type 0} (xs : List X) → IsCount (length xs) → is_nil xs ≡ false
not_nil [] h = absurd (omega (arith, h.0))
not_nil (x ∷ xs) h = refl

value_whole : (v : Value) → FitsValue v → is_empty_collection v ≡ false
value_whole (value.Text t) h = refl
value_whole (value.Hash es) h = not_nil es h.0
value_whole (value.List l) h = not_nil l h.0
value_whole (value.Set ms) h = not_nil ms h.0

pub entries_whole : (es : List Entry) → AllByRecursion FitsEntry es → HasNoEmptyCollection es
entries_whole [] h = tt
entries_whole (e ∷ es) h = (value_whole e.1 h.0.1, entries_whole es h.1)
