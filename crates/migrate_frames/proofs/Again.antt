-- What is written is read again.
use Rattle.std.proofs.Common.{◌≡◌, ℕ, ◌≤◌, false, ltb, List, [], ◌∷◌, ◌++◌, length, Ok, refl, sym, ap, subst, ◌∙◌, append_assoc, arith}
use Rattle.std.specs.Int.{w16, w32, to_be_bytes, from_be_bytes}
use Rattle.std.specs.List.{flat_map, AllByRecursion, IsDistinct}
use Rattle.std.specs.Map.{keys_of}
use Rattle.std.proofs.lemmas.Bool.{le-ltb}
use Rattle.std.proofs.lemmas.List.{append-nil, length-append, take_at, drop_at}
use Rattle.std.proofs.lemmas.Nat.{from_be_bytes-to_be_bytes_2, from_be_bytes-to_be_bytes_4}
use Rattle.typed_values.specs.declared.value.Value.{Value}
use Rattle.typed_values.specs.declared.value.Value.TheVariants as value
use Rattle.typed_values.specs.Fields.{same_bytes, Fields, IsShortField}
use Rattle.typed_values.specs.Members.{has}
use Rattle.migrate_frames.specs.Batches.{Entry, IsCount, FitsValue, FitsEntry, Fits}
use Rattle.migrate_frames.specs.Frames.{short_number, number, piece, pair, count_and_each, kind_and_body, entry, frame}
use Rattle.migrate_frames.specs.Reading.{◌>>=◌, Read, bytes_at, between, number_at, piece_at, new_piece_at, many, counted_at, pair_at, element_at, value_at, entry_at, frame_at}
use Rattle.migrate_frames.specs.Laws.{ReadingInvertsWriting}
use Rattle.migrate_frames.proofs.Apart.{all_middle, new_in_middle, keys_middle}

-- ---- numbers and pieces

bytes_again : (n : ℕ) (xs rest : List ℕ) → length xs ≡ n → bytes_at n (xs ++ rest) ≡ Ok (xs, rest)
unfolding bytes_at
bytes_again n xs rest e =
    let long : ltb (length (xs ++ rest)) n ≡ false = le-ltb _ _ (omega (arith, length-append xs rest)) in
    rw (long, take_at xs rest n e, drop_at xs rest n e) refl

within : (least most n : ℕ) (rest : List ℕ) → least ≤ n → n ≤ most → between least most n rest ≡ Ok (n, rest)
within least most n rest low high =
    let l : ltb n least ≡ false = le-ltb _ _ low in
    let h : ltb most n ≡ false = le-ltb _ _ high in
    rw (l, h) refl

short_again : (n : ℕ) (rest : List ℕ) → 1 ≤ n → n ≤ 1000 → number_at w16 1 1000 (short_number n ++ rest) ≡ Ok (n, rest)
unfolding number_at short_number
short_again n rest low high =
    ap (λ r. r >>= λ field. between 1 1000 (from_be_bytes w16 field.0) field.1) (bytes_again 2 (to_be_bytes w16 n) rest refl)
    ∙ ap (λ m. between 1 1000 m rest) (from_be_bytes-to_be_bytes_2 n (omega arith))
    ∙ within 1 1000 n rest low high

number_again : (least n : ℕ) (rest : List ℕ) → least ≤ n → n ≤ 1048576 → number_at w32 least 1048576 (number n ++ rest) ≡ Ok (n, rest)
unfolding number_at number
number_again least n rest low high =
    ap (λ r. r >>= λ field. between least 1048576 (from_be_bytes w32 field.0) field.1) (bytes_again 4 (to_be_bytes w32 n) rest refl)
    ∙ ap (λ m. between least 1048576 m rest) (from_be_bytes-to_be_bytes_4 n (omega arith))
    ∙ within least 1048576 n rest low high

piece_again : (t rest : List ℕ) → length t ≤ 1048576 → piece_at (piece t ++ rest) ≡ Ok (t, rest)
unfolding piece_at
piece_again t rest le =
    ap piece_at (append_assoc (number (length t)) t rest)
    ∙ ap (λ r. r >>= λ n. bytes_at n.0 n.1) (number_again 0 (length t) (t ++ rest) (omega arith) le)
    ∙ bytes_again (length t) t rest refl

new_piece_again : (before : List (List ℕ)) (t rest : List ℕ) → length t ≤ 1048576 → has before t ≡ false → new_piece_at before (piece t ++ rest) ≡ Ok (t, rest)
unfolding new_piece_at
new_piece_again before t rest le new = rw (piece_again t rest le, new) refl

-- ---- one after the other

module _ {A : Type 0} (one : List A → List ℕ → Read A) (spelling : A → List ℕ) (all : List A)
    (each : (before : List A) (x : A) (after : List A) → before ++ x ∷ after ≡ all → (rest : List ℕ) → one before (spelling x ++ rest) ≡ Ok (x, rest)) where
  pub many_again : (before xs : List A) (rest : List ℕ) → before ++ xs ≡ all → many one before (length xs) (flat_map spelling xs ++ rest) ≡ Ok (all, rest)
  many_again before [] rest e = ap (λ b. Ok (b, rest)) (sym (append-nil before) ∙ e)
  many_again before (x ∷ xs) rest e =
      ap (λ bytes. one before bytes >>= λ y. many one (before ++ y.0 ∷ []) (length xs) y.1) (append_assoc (spelling x) (flat_map spelling xs) rest)
      ∙ ap (λ r. r >>= λ y. many one (before ++ y.0 ∷ []) (length xs) y.1) (each before x xs e (flat_map spelling xs ++ rest))
      ∙ many_again (before ++ x ∷ []) xs rest (append_assoc before (x ∷ []) xs ∙ e)

  pub counted_again : (rest : List ℕ) → IsCount (length all) → counted_at one (count_and_each spelling all ++ rest) ≡ Ok (all, rest)
  unfolding counted_at
  counted_again rest fits =
      ap (counted_at one) (append_assoc (number (length all)) (flat_map spelling all) rest)
      ∙ ap (λ r. r >>= λ n. many one [] n.0 n.1) (number_again 1 (length all) (flat_map spelling all ++ rest) fits.0 fits.1)
      ∙ many_again [] all rest refl

-- ---- values

pair_again : (es : Fields) → IsDistinct same_bytes (keys_of es) → AllByRecursion IsShortField es → (before : Fields) (e : List ℕ × List ℕ) (after : Fields) → before ++ e ∷ after ≡ es → (rest : List ℕ) → pair_at before (pair e ++ rest) ≡ Ok (e, rest)
unfolding pair_at
pair_again es distinct short before e after is rest =
    let fits : IsShortField e = all_middle IsShortField before e after (subst (AllByRecursion IsShortField) (sym is) short) in
    let new : has (keys_of before) e.0 ≡ false = new_in_middle (keys_of before) e.0 (keys_of after) (subst (IsDistinct same_bytes) (ap keys_of (sym is) ∙ keys_middle before e after) distinct) in
    ap (pair_at before) (append_assoc (piece e.0) (piece e.1) rest)
    ∙ rw (new_piece_again (keys_of before) e.0 (piece e.1 ++ rest) fits.0 new, piece_again e.1 rest fits.1) refl

element_again : (l : List (List ℕ)) → AllByRecursion (λ t. length t ≤ 1048576) l → (before : List (List ℕ)) (t : List ℕ) (after : List (List ℕ)) → before ++ t ∷ after ≡ l → (rest : List ℕ) → element_at before (piece t ++ rest) ≡ Ok (t, rest)
element_again l short before t after is rest =
    let Short : List ℕ → Type 0 = λ t. length t ≤ 1048576 in
    piece_again t rest (all_middle Short before t after (subst (AllByRecursion Short) (sym is) short))

member_again : (ms : List (List ℕ)) → IsDistinct same_bytes ms → AllByRecursion (λ t. length t ≤ 1048576) ms → (before : List (List ℕ)) (t : List ℕ) (after : List (List ℕ)) → before ++ t ∷ after ≡ ms → (rest : List ℕ) → new_piece_at before (piece t ++ rest) ≡ Ok (t, rest)
member_again ms distinct short before t after is rest =
    let Short : List ℕ → Type 0 = λ t. length t ≤ 1048576 in
    new_piece_again before t rest (all_middle Short before t after (subst (AllByRecursion Short) (sym is) short)) (new_in_middle before t after (subst (IsDistinct same_bytes) (sym is) distinct))

value_again : (v : Value) (rest : List ℕ) → FitsValue v → value_at (kind_and_body v ++ rest) ≡ Ok (v, rest)
unfolding value_at
value_again (value.Text t) rest fits = rw (piece_again t rest fits) refl
value_again (value.Hash es) rest fits = rw (counted_again pair_at pair es (pair_again es fits.1 fits.2) rest fits.0) refl
value_again (value.List l) rest fits = rw (counted_again element_at piece l (element_again l fits.1) rest fits.0) refl
value_again (value.Set ms) rest fits = rw (counted_again new_piece_at piece ms (member_again ms fits.1 fits.2) rest fits.0) refl

-- ---- the frame

entry_again : (es : List Entry) → Fits es → (before : List Entry) (e : Entry) (after : List Entry) → before ++ e ∷ after ≡ es → (rest : List ℕ) → entry_at before (entry e ++ rest) ≡ Ok (e, rest)
unfolding entry_at
entry_again es h before e after is rest =
    let fits : FitsEntry e = all_middle FitsEntry before e after (subst (AllByRecursion FitsEntry) (sym is) h.each) in
    let new : has (keys_of before) e.0 ≡ false = new_in_middle (keys_of before) e.0 (keys_of after) (subst (IsDistinct same_bytes) (ap keys_of (sym is) ∙ keys_middle before e after) h.once) in
    ap (entry_at before) (append_assoc (piece e.0) (kind_and_body e.1) rest)
    ∙ rw (new_piece_again (keys_of before) e.0 (kind_and_body e.1 ++ rest) fits.0 new, value_again e.1 rest fits.1) refl

pub reading_inverts_writing : ReadingInvertsWriting
unfolding frame_at frame
reading_inverts_writing es h =
    let whole : many entry_at [] (length es) (flat_map entry es) ≡ Ok (es, []) = ap (many entry_at [] (length es)) (sym (append-nil (flat_map entry es))) ∙ many_again entry_at entry es (entry_again es h) [] es [] refl in
    rw (short_again (length es) (flat_map entry es) h.some h.few, whole) refl
