-- What is read stands so in the bytes.
use Rattle.std.proofs.Common.{◌≡◌, ℕ, zero, suc, ◌≤◌, ◌<◌, ◌⊎◌, inl, inr, Bool, true, false, cond, ltb, eqb, eqb-true, ◌||◌, List, [], ◌∷◌, ◌++◌, length, get_or, take, drop, Result, Ok, Err, refl, sym, ap, subst, ◌∙◌, append_assoc, arith}
use Rattle.std.specs.Int.{w16, w32, from_be_bytes}
use Rattle.std.specs.List.{flat_map, AllByRecursion, IsDistinct}
use Rattle.std.specs.Map.{keys_of}
use Rattle.std.proofs.lemmas.Bool.{ltb-false}
use Rattle.std.proofs.lemmas.List.{append-nil, take-append-drop, length-take-le}
use Rattle.std.proofs.lemmas.Nat.{be_bytes_2, be_bytes_4}
use Rattle.typed_values.specs.declared.value.Value.{Value}
use Rattle.typed_values.specs.declared.value.Value.TheVariants as value
use Rattle.typed_values.specs.Fields.{same_bytes, Fields, HasDistinctFields, AreShortFields, IsShortField}
use Rattle.typed_values.specs.Members.{has, HasDistinctMembers, AreShortMembers}
use Rattle.migrate_frames.specs.Batches.{Entry, HasEachKeyOnce, IsCount, FitsValue, FitsEntry, Fits}
use Rattle.migrate_frames.specs.Frames.{short_number, number, piece, pair, count_and_each, kind_and_body, entry, frame}
use Rattle.migrate_frames.specs.Reading.{◌>>=◌, Read, bytes_at, between, number_at, piece_at, new_piece_at, many, counted_at, pair_at, element_at, as_value, value_at, entry_at, at_end, frame_at}
use Rattle.migrate_frames.specs.Laws.{AreBytes, WritingIsCanonical}
use Rattle.migrate_frames.specs.declared.fault.FrameFault.{FrameFault}
use Rattle.migrate_frames.specs.declared.fault.FrameFault.TheVariants.{Truncated, BadKind, BadLength, RepeatedKey}
use Rattle.migrate_frames.proofs.Apart.{all_push, distinct_push, distinct_nil, keys_push, left_false, right_false}

-- ---- steps

-- the value of a step that did not fail
bind_ok : {A B : Type 0} (r : Result A FrameFault) (f : A → Result B FrameFault) (y : B) → (r >>= f) ≡ Ok y → (x : A) × (r ≡ Ok x) × (f x ≡ Ok y)
bind_ok (Ok x) f y e = (x, refl, e)
bind_ok (Err d) f y e = absurd cc

abbrev done : {A : Type 0} → A → Result A FrameFault
done x = Ok x

ok_same : {A : Type 0} (x y : A) → done x ≡ done y → x ≡ y
ok_same x y e = cc

-- a test that did not fail
passed : {A : Type 0} (b : Bool) (f : FrameFault) (x y : A) → cond b (Err f) (done x) ≡ Ok y → (b ≡ false) × (x ≡ y)
passed true f x y e = absurd cc
passed false f x y e = (refl, ok_same x y e)

bytes_left : (xs ys : List ℕ) → AreBytes (xs ++ ys) → AreBytes xs
bytes_left [] ys h = tt
bytes_left (x ∷ xs) ys h = (h.0, bytes_left xs ys h.1)

bytes_right : (xs ys : List ℕ) → AreBytes (xs ++ ys) → AreBytes ys
bytes_right [] ys h = h
bytes_right (x ∷ xs) ys h = bytes_right xs ys h.1

bytes_rest : (bytes prefix rest : List ℕ) → bytes ≡ prefix ++ rest → AreBytes bytes → AreBytes rest
bytes_rest bytes prefix rest e h = bytes_right prefix rest (subst AreBytes e h)

byte_at : (xs : List ℕ) → AreBytes xs → (i : ℕ) → get_or xs i 0 < 256
byte_at [] h i = omega arith
byte_at (x ∷ xs) h zero = h.0
byte_at (x ∷ xs) h (suc i) = byte_at xs h.1 i

-- ---- numbers and pieces

bytes_spell : (n : ℕ) (bytes : List ℕ) (x : List ℕ × List ℕ) → bytes_at n bytes ≡ Ok x → (bytes ≡ x.0 ++ x.1) × (length x.0 ≡ n)
unfolding bytes_at
bytes_spell n bytes x e =
    let p = passed (ltb (length bytes) n) Truncated (take n bytes, drop n bytes) x e in
    let long : n ≤ length bytes = ltb-false (length bytes) n p.0 in
    subst (λ (y : List ℕ × List ℕ). (bytes ≡ y.0 ++ y.1) × (length y.0 ≡ n)) p.1 (sym (take-append-drop n bytes), length-take-le n bytes long)

between_spell : (least most n : ℕ) (rest : List ℕ) (x : ℕ × List ℕ) → between least most n rest ≡ Ok x → (least ≤ n) × (n ≤ most) × ((n, rest) ≡ x)
between_spell least most n rest x e =
    let p = passed (ltb n least || ltb most n) BadLength (n, rest) x e in
    (ltb-false n least (left_false (ltb n least) (ltb most n) p.0), ltb-false most n (right_false (ltb n least) (ltb most n) p.0), p.1)

short_spell : (bytes : List ℕ) (x : ℕ × List ℕ) → AreBytes bytes → number_at w16 1 1000 bytes ≡ Ok x → (bytes ≡ short_number x.0 ++ x.1) × (1 ≤ x.0) × (x.0 ≤ 1000)
unfolding number_at short_number
short_spell bytes x are e =
    let f = bind_ok (bytes_at 2 bytes) (λ field. between 1 1000 (from_be_bytes w16 field.0) field.1) x e in
    let s = bytes_spell 2 bytes f.0 f.1 in
    let b = between_spell 1 1000 (from_be_bytes w16 f.0.0) f.0.1 x f.2 in
    let low = byte_at f.0.0 (bytes_left f.0.0 f.0.1 (subst AreBytes s.0 are)) in
    subst (λ (y : ℕ × List ℕ). (bytes ≡ short_number y.0 ++ y.1) × (1 ≤ y.0) × (y.0 ≤ 1000)) b.2
    (s.0 ∙ ap (λ (t : List ℕ). t ++ f.0.1) (sym (be_bytes_2 f.0.0 (from_be_bytes w16 f.0.0) s.1 low refl)), b.0, b.1)

number_spell : (least : ℕ) (bytes : List ℕ) (x : ℕ × List ℕ) → AreBytes bytes → number_at w32 least 1048576 bytes ≡ Ok x → (bytes ≡ number x.0 ++ x.1) × (least ≤ x.0) × (x.0 ≤ 1048576)
unfolding number_at number
number_spell least bytes x are e =
    let f = bind_ok (bytes_at 4 bytes) (λ field. between least 1048576 (from_be_bytes w32 field.0) field.1) x e in
    let s = bytes_spell 4 bytes f.0 f.1 in
    let b = between_spell least 1048576 (from_be_bytes w32 f.0.0) f.0.1 x f.2 in
    let low = byte_at f.0.0 (bytes_left f.0.0 f.0.1 (subst AreBytes s.0 are)) in
    subst (λ (y : ℕ × List ℕ). (bytes ≡ number y.0 ++ y.1) × (least ≤ y.0) × (y.0 ≤ 1048576)) b.2
    (s.0 ∙ ap (λ (t : List ℕ). t ++ f.0.1) (sym (be_bytes_4 f.0.0 (from_be_bytes w32 f.0.0) s.1 low refl)), b.0, b.1)

piece_spell : (bytes : List ℕ) (x : List ℕ × List ℕ) → AreBytes bytes → piece_at bytes ≡ Ok x → (bytes ≡ piece x.0 ++ x.1) × (length x.0 ≤ 1048576)
unfolding piece_at
piece_spell bytes x are e =
    let n = bind_ok (number_at w32 0 1048576 bytes) (λ n. bytes_at n.0 n.1) x e in
    let head = number_spell 0 bytes n.0 are n.1 in
    let body = bytes_spell n.0.0 n.0.1 x n.2 in
    (head.0 ∙ ap (λ (t : List ℕ). number n.0.0 ++ t) body.0 ∙ sym (append_assoc (number n.0.0) x.0 x.1) ∙ ap (λ (m : ℕ). (number m ++ x.0) ++ x.1) (sym body.1), omega (arith, body.1, head.2))

new_piece_spell : (before : List (List ℕ)) (bytes : List ℕ) (x : List ℕ × List ℕ) → AreBytes bytes → new_piece_at before bytes ≡ Ok x → (bytes ≡ piece x.0 ++ x.1) × (length x.0 ≤ 1048576) × (has before x.0 ≡ false)
unfolding new_piece_at
new_piece_spell before bytes x are e =
    let p = bind_ok (piece_at bytes) (λ p. cond (has before p.0) (Err RepeatedKey) (Ok p)) x e in
    let s = piece_spell bytes p.0 are p.1 in
    let t = passed (has before p.0.0) RepeatedKey p.0 x p.2 in
    subst (λ (y : List ℕ × List ℕ). (bytes ≡ piece y.0 ++ y.1) × (length y.0 ≤ 1048576) × (has before y.0 ≡ false)) t.1 (s.0, s.1, t.0)

-- ---- one after the other

module _ {A : Type 0} (one : List A → List ℕ → Read A) (spelling : A → List ℕ) (Holds : List A → Type 0)
    (step : (before : List A) (bytes : List ℕ) (x : A × List ℕ) → Holds before → AreBytes bytes → one before bytes ≡ Ok x → (bytes ≡ spelling x.0 ++ x.1) × Holds (before ++ x.0 ∷ [])) where
  pub many_spell : (n : ℕ) (before : List A) (bytes : List ℕ) (y : List A × List ℕ) → Holds before → AreBytes bytes → many one before n bytes ≡ Ok y → (xs : List A) × (y.0 ≡ before ++ xs) × (bytes ≡ flat_map spelling xs ++ y.1) × (length xs ≡ n) × Holds y.0
  many_spell zero before bytes y holds are e =
      subst (λ (z : List A × List ℕ). (xs : List A) × (z.0 ≡ before ++ xs) × (bytes ≡ flat_map spelling xs ++ z.1) × (length xs ≡ 0) × Holds z.0) (ok_same (before, bytes) y e)
      ([], sym (append-nil before), refl, refl, holds)
  many_spell (suc n) before bytes y holds are e =
      let x = bind_ok (one before bytes) (λ x. many one (before ++ x.0 ∷ []) n x.1) y e in
      let s = step before bytes x.0 holds are x.1 in
      let r = many_spell n (before ++ x.0.0 ∷ []) x.0.1 y s.1 (bytes_rest bytes (spelling x.0.0) x.0.1 s.0 are) x.2 in
      (x.0.0 ∷ r.0, r.1 ∙ append_assoc before (x.0.0 ∷ []) r.0, s.0 ∙ ap (λ (t : List ℕ). spelling x.0.0 ++ t) r.2 ∙ sym (append_assoc (spelling x.0.0) (flat_map spelling r.0) y.1), ap suc r.3, r.4)

  -- all of them, where none stands before
  pub all_spell : (n : ℕ) (bytes : List ℕ) (y : List A × List ℕ) → Holds [] → AreBytes bytes → many one [] n bytes ≡ Ok y → (bytes ≡ flat_map spelling y.0 ++ y.1) × (length y.0 ≡ n) × Holds y.0
  all_spell n bytes y holds are e =
      let m = many_spell n [] bytes y holds are e in
      (m.2 ∙ ap (λ (xs : List A). flat_map spelling xs ++ y.1) (sym m.1), ap length m.1 ∙ m.3, m.4)

  pub counted_spell : (bytes : List ℕ) (y : List A × List ℕ) → Holds [] → AreBytes bytes → counted_at one bytes ≡ Ok y → (bytes ≡ count_and_each spelling y.0 ++ y.1) × IsCount (length y.0) × Holds y.0
  unfolding counted_at
  counted_spell bytes y holds are e =
      let n = bind_ok (number_at w32 1 1048576 bytes) (λ n. many one [] n.0 n.1) y e in
      let head = number_spell 1 bytes n.0 are n.1 in
      let body = all_spell n.0.0 n.0.1 y holds (bytes_rest bytes (number n.0.0) n.0.1 head.0 are) n.2 in
      let joined = head.0 ∙ ap (λ (t : List ℕ). number n.0.0 ++ t) body.0 ∙ sym (append_assoc (number n.0.0) (flat_map spelling y.0) y.1) ∙ ap (λ (m : ℕ). (number m ++ flat_map spelling y.0) ++ y.1) (sym body.1) in
      let low : 1 ≤ length y.0 = omega (arith, body.1, head.1) in
      let high : length y.0 ≤ 1048576 = omega (arith, body.1, head.2) in
      (joined, (low, high), body.2)

-- ---- values

abbrev AreFields : Fields → Type 0
AreFields es = HasDistinctFields es × AreShortFields es

pair_spell : (before : Fields) (bytes : List ℕ) (x : (List ℕ × List ℕ) × List ℕ) → AreFields before → AreBytes bytes → pair_at before bytes ≡ Ok x → (bytes ≡ pair x.0 ++ x.1) × AreFields (before ++ x.0 ∷ [])
unfolding pair_at
pair_spell before bytes x holds are e =
    let n = bind_ok (new_piece_at (keys_of before) bytes) (λ name. piece_at name.1 >>= λ content. Ok ((name.0, content.0), content.1)) x e in
    let v = bind_ok (piece_at n.0.1) (λ content. Ok ((n.0.0, content.0), content.1)) x n.2 in
    let s = new_piece_spell (keys_of before) bytes n.0 are n.1 in
    let t = piece_spell n.0.1 v.0 (bytes_rest bytes (piece n.0.0) n.0.1 s.0 are) v.1 in
    let now : List ℕ × List ℕ = (n.0.0, v.0.0) in
    let distinct = subst (IsDistinct same_bytes) (sym (keys_push before now)) (distinct_push (keys_of before) n.0.0 holds.0 s.2) in
    let short = all_push IsShortField before now holds.1 (s.1, t.1) in
    subst (λ (y : (List ℕ × List ℕ) × List ℕ). (bytes ≡ pair y.0 ++ y.1) × AreFields (before ++ y.0 ∷ [])) (ok_same (now, v.0.1) x v.2)
    (s.0 ∙ ap (λ (r : List ℕ). piece n.0.0 ++ r) t.0 ∙ sym (append_assoc (piece n.0.0) (piece v.0.0) v.0.1), (distinct, short))

element_spell : (before : List (List ℕ)) (bytes : List ℕ) (x : List ℕ × List ℕ) → AreShortMembers before → AreBytes bytes → element_at before bytes ≡ Ok x → (bytes ≡ piece x.0 ++ x.1) × AreShortMembers (before ++ x.0 ∷ [])
element_spell before bytes x holds are e =
    let s = piece_spell bytes x are e in
    (s.0, all_push (λ m. length m ≤ 1048576) before x.0 holds s.1)

abbrev AreMembers : List (List ℕ) → Type 0
AreMembers ms = HasDistinctMembers ms × AreShortMembers ms

member_spell : (before : List (List ℕ)) (bytes : List ℕ) (x : List ℕ × List ℕ) → AreMembers before → AreBytes bytes → new_piece_at before bytes ≡ Ok x → (bytes ≡ piece x.0 ++ x.1) × AreMembers (before ++ x.0 ∷ [])
member_spell before bytes x holds are e =
    let s = new_piece_spell before bytes x are e in
    (s.0, (distinct_push before x.0 holds.0 s.2, all_push (λ m. length m ≤ 1048576) before x.0 holds.1 s.1))

abbrev IsValueAt : List ℕ → Value × List ℕ → Type 0
IsValueAt bytes x = (bytes ≡ kind_and_body x.0 ++ x.1) × FitsValue x.0

made : {A : Type 0} (make : A → Value) (r : Read A) (x : Value × List ℕ) → as_value make r ≡ Ok x → (y : A × List ℕ) × (r ≡ Ok y) × ((make y.0, y.1) ≡ x)
made make r x e = let y = bind_ok r (λ y. Ok (make y.0, y.1)) x e in (y.0, y.1, ok_same (make y.0.0, y.0.1) x y.2)

text_spell : (bytes : List ℕ) (x : Value × List ℕ) → AreBytes bytes → as_value (λ t. value.Text t) (piece_at bytes) ≡ Ok x → IsValueAt (0 ∷ bytes) x
text_spell bytes x are e =
    let y = made (λ t. value.Text t) (piece_at bytes) x e in
    let s = piece_spell bytes y.0 are y.1 in
    subst (IsValueAt (0 ∷ bytes)) y.2 (ap (λ (t : List ℕ). 0 ∷ t) s.0, s.1)

hash_spell : (bytes : List ℕ) (x : Value × List ℕ) → AreBytes bytes → as_value (λ es. value.Hash es) (counted_at pair_at bytes) ≡ Ok x → IsValueAt (1 ∷ bytes) x
hash_spell bytes x are e =
    let y = made (λ es. value.Hash es) (counted_at pair_at bytes) x e in
    let s = counted_spell pair_at pair AreFields pair_spell bytes y.0 (distinct_nil, tt) are y.1 in
    subst (IsValueAt (1 ∷ bytes)) y.2 (ap (λ (t : List ℕ). 1 ∷ t) s.0, (s.1, s.2.0, s.2.1))

list_spell : (bytes : List ℕ) (x : Value × List ℕ) → AreBytes bytes → as_value (λ l. value.List l) (counted_at element_at bytes) ≡ Ok x → IsValueAt (2 ∷ bytes) x
list_spell bytes x are e =
    let y = made (λ l. value.List l) (counted_at element_at bytes) x e in
    let s = counted_spell element_at piece AreShortMembers element_spell bytes y.0 tt are y.1 in
    subst (IsValueAt (2 ∷ bytes)) y.2 (ap (λ (t : List ℕ). 2 ∷ t) s.0, (s.1, s.2))

set_spell : (bytes : List ℕ) (x : Value × List ℕ) → AreBytes bytes → as_value (λ ms. value.Set ms) (counted_at new_piece_at bytes) ≡ Ok x → IsValueAt (3 ∷ bytes) x
set_spell bytes x are e =
    let y = made (λ ms. value.Set ms) (counted_at new_piece_at bytes) x e in
    let s = counted_spell new_piece_at piece AreMembers member_spell bytes y.0 (distinct_nil, tt) are y.1 in
    subst (IsValueAt (3 ∷ bytes)) y.2 (ap (λ (t : List ℕ). 3 ∷ t) s.0, (s.1, s.2.0, s.2.1))

-- which way a test went
chosen : {A : Type 0} (b : Bool) (x y z : A) → cond b x y ≡ z → ((b ≡ true) × (x ≡ z)) ⊎ ((b ≡ false) × (y ≡ z))
chosen true x y z e = inl (refl, e)
chosen false x y z e = inr (refl, e)

at_kind : (kind wanted : ℕ) (bytes : List ℕ) (x : Value × List ℕ) → eqb kind wanted ≡ true → IsValueAt (wanted ∷ bytes) x → IsValueAt (kind ∷ bytes) x
at_kind kind wanted bytes x is h = subst (λ (k : ℕ). IsValueAt (k ∷ bytes) x) (sym (eqb-true kind wanted is)) h

value_spell : (bytes : List ℕ) (x : Value × List ℕ) → AreBytes bytes → value_at bytes ≡ Ok x → IsValueAt bytes x
unfolding value_at
value_spell [] x are e = absurd cc
value_spell (kind ∷ bytes) x are e =
    elim (chosen (eqb kind 0) (as_value (λ t. value.Text t) (piece_at bytes)) (cond (eqb kind 1) (as_value (λ es. value.Hash es) (counted_at pair_at bytes)) (cond (eqb kind 2) (as_value (λ l. value.List l) (counted_at element_at bytes)) (cond (eqb kind 3) (as_value (λ ms. value.Set ms) (counted_at new_piece_at bytes)) (Err BadKind)))) (Ok x) e) [
      | inl h ↦ at_kind kind 0 bytes x h.0 (text_spell bytes x are.1 h.1)
      | inr h ↦ elim (chosen (eqb kind 1) (as_value (λ es. value.Hash es) (counted_at pair_at bytes)) (cond (eqb kind 2) (as_value (λ l. value.List l) (counted_at element_at bytes)) (cond (eqb kind 3) (as_value (λ ms. value.Set ms) (counted_at new_piece_at bytes)) (Err BadKind))) (Ok x) h.1) [
        | inl i ↦ at_kind kind 1 bytes x i.0 (hash_spell bytes x are.1 i.1)
        | inr i ↦ elim (chosen (eqb kind 2) (as_value (λ l. value.List l) (counted_at element_at bytes)) (cond (eqb kind 3) (as_value (λ ms. value.Set ms) (counted_at new_piece_at bytes)) (Err BadKind)) (Ok x) i.1) [
          | inl j ↦ at_kind kind 2 bytes x j.0 (list_spell bytes x are.1 j.1)
          | inr j ↦ elim (chosen (eqb kind 3) (as_value (λ ms. value.Set ms) (counted_at new_piece_at bytes)) (Err BadKind) (Ok x) j.1) [
            | inl k ↦ at_kind kind 3 bytes x k.0 (set_spell bytes x are.1 k.1)
            | inr k ↦ (let g = k.1 in absurd cc)
          ]
        ]
      ]
    ]

-- ---- the frame

abbrev AreEntries : List Entry → Type 0
AreEntries es = HasEachKeyOnce es × AllByRecursion FitsEntry es

entry_spell : (before : List Entry) (bytes : List ℕ) (x : Entry × List ℕ) → AreEntries before → AreBytes bytes → entry_at before bytes ≡ Ok x → (bytes ≡ entry x.0 ++ x.1) × AreEntries (before ++ x.0 ∷ [])
unfolding entry_at
entry_spell before bytes x holds are e =
    let k = bind_ok (new_piece_at (keys_of before) bytes) (λ key. value_at key.1 >>= λ content. Ok ((key.0, content.0), content.1)) x e in
    let v = bind_ok (value_at k.0.1) (λ content. Ok ((k.0.0, content.0), content.1)) x k.2 in
    let s = new_piece_spell (keys_of before) bytes k.0 are k.1 in
    let t = value_spell k.0.1 v.0 (bytes_rest bytes (piece k.0.0) k.0.1 s.0 are) v.1 in
    let now : Entry = (k.0.0, v.0.0) in
    let once = subst (IsDistinct same_bytes) (sym (keys_push before now)) (distinct_push (keys_of before) k.0.0 holds.0 s.2) in
    let each = all_push FitsEntry before now holds.1 (s.1, t.1) in
    subst (λ (y : Entry × List ℕ). (bytes ≡ entry y.0 ++ y.1) × AreEntries (before ++ y.0 ∷ [])) (ok_same (now, v.0.1) x v.2)
    (s.0 ∙ ap (λ (r : List ℕ). piece k.0.0 ++ r) t.0 ∙ sym (append_assoc (piece k.0.0) (kind_and_body v.0.0) v.0.1), (once, each))

end_spell : (es ys : List Entry) (rest : List ℕ) → at_end es rest ≡ Ok ys → (rest ≡ []) × (es ≡ ys)
end_spell es ys [] e = (refl, ok_same es ys e)
end_spell es ys (b ∷ rest) e = absurd cc

pub writing_is_canonical : WritingIsCanonical
unfolding frame_at frame
writing_is_canonical bytes es are e =
    let n = bind_ok (number_at w16 1 1000 bytes) (λ n. many entry_at [] n.0 n.1 >>= λ ys. at_end ys.0 ys.1) es e in
    let m = bind_ok (many entry_at [] n.0.0 n.0.1) (λ ys. at_end ys.0 ys.1) es n.2 in
    let head = short_spell bytes n.0 are n.1 in
    let body = all_spell entry_at entry AreEntries entry_spell n.0.0 n.0.1 m.0 (distinct_nil, tt) (bytes_rest bytes (short_number n.0.0) n.0.1 head.0 are) m.1 in
    let last = end_spell m.0.0 es m.0.1 m.2 in
    let tail = body.0 ∙ ap (λ (r : List ℕ). flat_map entry m.0.0 ++ r) last.0 ∙ append-nil (flat_map entry m.0.0) in
    let whole = head.0 ∙ ap (λ (r : List ℕ). short_number n.0.0 ++ r) tail ∙ ap (λ (k : ℕ). short_number k ++ flat_map entry m.0.0) (sym body.1) in
    let some : 1 ≤ length m.0.0 = omega (arith, body.1, head.1) in
    let few : length m.0.0 ≤ 1000 = omega (arith, body.1, head.2) in
    subst (λ (ys : List Entry). (bytes ≡ frame ys) × Fits ys) last.1 (whole, record { some = some; few = few; once = body.2.0; each = body.2.1 })
