-- The replies that follow a place, as it goes on.
use Rattle.std.proofs.Common.{◌≡◌, ℕ, ◌+◌, ◌-◌, ◌≤◌, ◌<◌, ◌^◌, true, false, List, [], ◌∷◌, ◌++◌, length, get_or, take, drop}
use Rattle.std.proofs.Common.{Ok, Err, decimal, refl, sym, ap, ◌∙◌, subst, append_assoc, arith}
use Rattle.std.proofs.lemmas.List.{append-nil, drop-append-le, drop-drop, drop_at, length-append, length-drop, take-append-drop}
use Rattle.server_links.specs.Looking.{AreLeft, IsLooked}
use Rattle.server_links.specs.Replies.{IsUnfinished, first_reply}
use Rattle.resp2_wire.proofs.Again.{decoding_inverts_encoding, header_again}
use Rattle.resp2_wire.proofs.Headers.{done, line_rest, ok_same}
use Rattle.resp2_wire.proofs.ReplyStaying.{decoded_replies_are_stable}
use Rattle.resp2_wire.proofs.ShortHeaders.{null_header}
use Rattle.resp2_wire.proofs.Spelt.{encoding_is_canonical}
use Rattle.resp2_wire.specs.Encoding.{encoding, length_of, line, spellings}
use Rattle.resp2_wire.specs.Limits.{AllFit, Fits}
use Rattle.resp2_wire.specs.Reading.{Numeral, header_at}
use Rattle.resp2_wire.specs.Replies.{Read}
use Rattle.resp2_wire.specs.Stability.{Kept}
use Rattle.resp2_wire.specs.Tree.{Tree, simple, error, number, bulk, null, null_array, array, Trees, none, more}
use Rattle.resp2_wire.specs.declared.fault.Stop.TheVariants.{Unfinished}
use Rattle.resp2_wire.specs.declared.fault.WireFault.TheVariants.{BadCount}

-- ---- replies one behind the other

abbrev joined : Trees → Trees → Trees
joined none ts = ts
joined (more t us) ts = more t (joined us ts)

spellings-joined : (us ts : Trees) → spellings (joined us ts) ≡ spellings us ++ spellings ts
spellings-joined none ts = refl
spellings-joined (more t us) ts =
    ap (λ (xs : List ℕ). encoding t ++ xs) (spellings-joined us ts)
    ∙ sym (append_assoc (encoding t) (spellings us) (spellings ts))

length_of-joined : (us ts : Trees) → length_of (joined us ts) ≡ length_of us + length_of ts
length_of-joined none ts = omega arith
length_of-joined (more t us) ts = let e = length_of-joined us ts in omega (arith, e)

fit_joined : (d : ℕ) (us ts : Trees) → AllFit d us → AllFit d ts → AllFit d (joined us ts)
fit_joined d none ts a b = b
fit_joined d (more t us) ts a b = (a.0, fit_joined d us ts a.1 b)

mutual
  fits_up : (d e : ℕ) (t : Tree) → d ≤ e → Fits d t → Fits e t
  fits_up d e (simple s) le h = h
  fits_up d e (error s) le h = h
  fits_up d e (number n) le h = h
  fits_up d e (bulk s) le h = h
  fits_up d e null le h = h
  fits_up d e null_array le h = omega (arith, le, h)
  fits_up d e (array ts) le h = (omega (arith, le, h.0), h.1, all_up (d - 1) (e - 1) ts (omega (arith, le)) h.2)

  all_up : (d e : ℕ) (ts : Trees) → d ≤ e → AllFit d ts → AllFit e ts
  all_up d e none le h = h
  all_up d e (more t ts) le h = (fits_up d e t le h.0, all_up d e ts le h.1)

-- the first of the replies that are left
abbrev OneLeft : List ℕ → ℕ → List ℕ → Type 0
OneLeft bytes left rest = (t : Tree) × (ts : Trees) × (bytes ≡ encoding t ++ (spellings ts ++ rest))
    × (length_of ts + 1 ≡ left) × Fits 8 t × AllFit 8 ts

one_left : (ts : Trees) (bytes rest : List ℕ) (left : ℕ) → 0 < left → bytes ≡ spellings ts ++ rest
    → length_of ts ≡ left → AllFit 8 ts → OneLeft bytes left rest
one_left none bytes rest left lt is many fit = absurd (omega (arith, lt, many))
one_left (more t ts) bytes rest left lt is many fit =
    (t, ts, is ∙ append_assoc (encoding t) (spellings ts) rest, omega (arith, many), fit.0, fit.1)

first_left : (bytes rest : List ℕ) (left : ℕ) → 0 < left → AreLeft bytes left rest → OneLeft bytes left rest
first_left bytes rest left lt are = one_left are.0 bytes rest left lt are.1 are.2 are.3

-- ---- going on

pub nothing_looked : (bytes : List ℕ) → IsLooked bytes 0 1
nothing_looked bytes = record {
  within = omega arith;
  ahead = λ later rest t whole.
      let is = encoding_is_canonical (bytes ++ later) rest t whole in
      (more t none, is.0 ∙ ap (λ (xs : List ℕ). xs ++ rest) (sym (append-nil (encoding t))), refl, (is.1, tt));
}

pub more_come : (bytes piece : List ℕ) (place left : ℕ) → IsLooked bytes place left → IsLooked (bytes ++ piece) place left
more_come bytes piece place left before = record {
  within = omega (arith, before.within, length-append bytes piece);
  ahead = λ later rest t whole.
      let same = append_assoc bytes piece later in
      subst (λ (xs : List ℕ). AreLeft (drop place xs) left rest) (sym same)
      (before.ahead (piece ++ later) rest t (subst (λ (xs : List ℕ). first_reply xs ≡ Ok (t, rest)) same whole));
}

-- a piece has come, and what was there before is as it was
pub read_behind : (place left : ℕ) (old same new piece : List ℕ) → IsLooked old place left → same ≡ old → new ≡ same ++ piece
    → IsLooked new place left
read_behind place left old same new piece before kept come =
    subst (λ (xs : List ℕ). IsLooked xs place left) (sym (come ∙ ap (λ (xs : List ℕ). xs ++ piece) kept))
    (more_come old piece place left before)

pub past_reply : (bytes : List ℕ) (place left k : ℕ) (r : Tree) → IsLooked bytes place left → 0 < left
    → k ≤ length (drop place bytes) → first_reply (drop place bytes) ≡ Ok (r, drop k (drop place bytes))
    → IsLooked bytes (place + k) (left - 1)
past_reply bytes place left k r before lt few read = record {
  within = omega (arith, before.within, few, length-drop place bytes);
  ahead = λ later rest t whole.
      let here = drop place bytes in
      let one = first_left (drop place (bytes ++ later)) rest left lt (before.ahead later rest t whole) in
      let there : drop place (bytes ++ later) ≡ here ++ later = drop-append-le place bytes later before.within in
      let stays : first_reply (here ++ later) ≡ done (r, drop k here ++ later) =
      subst (λ (x : Read Tree). Kept x (first_reply (here ++ later)) later) read (decoded_replies_are_stable here later) in
      let again : first_reply (here ++ later) ≡ done (one.0, spellings one.1 ++ rest) =
      ap first_reply (sym there ∙ one.2) ∙ decoding_inverts_encoding one.0 (spellings one.1 ++ rest) one.4 in
      let same : drop k here ++ later ≡ spellings one.1 ++ rest =
      ap (λ (x : Tree × List ℕ). x.1) (ok_same (r, drop k here ++ later) (one.0, spellings one.1 ++ rest) (sym stays ∙ again)) in (
        one.1,
        sym (drop-drop k place (bytes ++ later)) ∙ ap (drop k) there ∙ drop-append-le k here later few ∙ same,
        omega (arith, one.3),
        one.5,
      );
}

-- the same of what the program looks at, which is what stands behind the place
pub past_part : (bytes part : List ℕ) (place left k : ℕ) (r : Tree) → IsLooked bytes place left → 0 < left
    → part ≡ drop place bytes → k ≤ length part → first_reply part ≡ Ok (r, drop k part)
    → IsLooked bytes (place + k) (left - 1)
past_part bytes part place left k r before lt is few read =
    past_reply bytes place left k r before lt (subst (λ (xs : List ℕ). k ≤ length xs) is few)
    (subst (λ (xs : List ℕ). first_reply xs ≡ Ok (r, drop k xs)) is read)

stopped : (x : Tree × List ℕ) → done x ≡ Err Unfinished → ⊥
stopped x e = cc

pub ends_early : (bytes : List ℕ) (place left : ℕ) → IsLooked bytes place left → 0 < left
    → first_reply (drop place bytes) ≡ Err Unfinished → IsUnfinished bytes
ends_early bytes place left before lt short t rest whole =
    let same = append-nil bytes in
    let are = before.ahead [] rest t (subst (λ (xs : List ℕ). first_reply xs ≡ Ok (t, rest)) (sym same) whole) in
    let one = first_left (drop place (bytes ++ [])) rest left lt are in
    let again : first_reply (drop place bytes) ≡ done (one.0, spellings one.1 ++ rest) =
    ap (λ (xs : List ℕ). first_reply (drop place xs)) (sym same) ∙ ap first_reply one.2
    ∙ decoding_inverts_encoding one.0 (spellings one.1 ++ rest) one.4 in
    stopped (one.0, spellings one.1 ++ rest) (sym again ∙ short)

pub unfinished_by : (bytes : List ℕ) → first_reply bytes ≡ Err Unfinished → IsUnfinished bytes
unfinished_by bytes short t rest whole = stopped (t, rest) (sym whole ∙ short)

-- ---- into an array

abbrev plus : ℕ → Numeral
plus n = record { negative = false; size = n }

abbrev minus_one : Numeral
minus_one = record { negative = true; size = 1 }

-- the header of so many replies
counted : (n : ℕ) (rest : List ℕ) → n < 2 ^ 64 → header_at BadCount (drop 1 (line 42 (decimal n) ++ rest)) ≡ done (plus n, rest)
counted n rest lt = ap (λ (xs : List ℕ). header_at BadCount (drop 1 xs)) (line_rest 42 (decimal n) rest) ∙ header_again BadCount n rest lt

nulled : (rest : List ℕ) → header_at BadCount (drop 1 (line 42 (45 ∷ 49 ∷ []) ++ rest)) ≡ done (minus_one, rest)
nulled rest = null_header BadCount (45 ∷ 49 ∷ 13 ∷ 10 ∷ rest) rest refl refl

abbrev IsArrayOf : Tree → ℕ → (left rest : List ℕ) → Type 0
IsArrayOf t n left rest = (us : Trees) × (t ≡ array us) × (length_of us ≡ n) × (left ≡ spellings us ++ rest)

array_is : (t : Tree) (n : ℕ) (left rest : List ℕ) → n < 2 ^ 64 → Fits 8 t
    → line 42 (decimal n) ++ left ≡ encoding t ++ rest → IsArrayOf t n left rest
array_is (simple s) n left rest lt fit e = let heads : 42 ≡ 43 = ap (λ (xs : List ℕ). get_or xs 0 0) e in absurd (omega (arith, heads))
array_is (error s) n left rest lt fit e = let heads : 42 ≡ 45 = ap (λ (xs : List ℕ). get_or xs 0 0) e in absurd (omega (arith, heads))
array_is (number m) n left rest lt fit e = let heads : 42 ≡ 58 = ap (λ (xs : List ℕ). get_or xs 0 0) e in absurd (omega (arith, heads))
array_is (bulk s) n left rest lt fit e = let heads : 42 ≡ 36 = ap (λ (xs : List ℕ). get_or xs 0 0) e in absurd (omega (arith, heads))
array_is null n left rest lt fit e = let heads : 42 ≡ 36 = ap (λ (xs : List ℕ). get_or xs 0 0) e in absurd (omega (arith, heads))
array_is null_array n left rest lt fit e =
    let both : done (plus n, left) ≡ done (minus_one, rest) =
    sym (counted n left lt) ∙ ap (λ (xs : List ℕ). header_at BadCount (drop 1 xs)) e ∙ nulled rest in
    let signs : false ≡ true =
    ap (λ (x : Numeral × List ℕ). x.0.negative) (ok_same (plus n, left) (minus_one, rest) both) in
    absurd cc
array_is (array us) n left rest lt fit e =
    let there = append_assoc (line 42 (decimal (length_of us))) (spellings us) rest in
    let both : done (plus n, left) ≡ done (plus (length_of us), spellings us ++ rest) =
    sym (counted n left lt) ∙ ap (λ (xs : List ℕ). header_at BadCount (drop 1 xs)) (e ∙ there)
    ∙ counted (length_of us) (spellings us ++ rest) (omega (arith, fit.1)) in
    let same = ok_same (plus n, left) (plus (length_of us), spellings us ++ rest) both in
    (us, refl, sym (ap (λ (x : Numeral × List ℕ). x.0.size) same), ap (λ (x : Numeral × List ℕ). x.1) same)

behind : (bytes after later head : List ℕ) (place : ℕ) → drop place bytes ≡ head ++ after
    → drop (length bytes - length after) (bytes ++ later) ≡ after ++ later
behind bytes after later head place is =
    let front = take place bytes ++ head in
    let whole : bytes ≡ front ++ after =
    sym (take-append-drop place bytes) ∙ ap (λ (xs : List ℕ). take place bytes ++ xs) is
    ∙ sym (append_assoc (take place bytes) head after) in
    let count : length front ≡ length bytes - length after =
    omega (arith, ap length whole, length-append front after) in
    ap (λ (xs : List ℕ). drop (length bytes - length after) (xs ++ later)) whole
    ∙ ap (λ (xs : List ℕ). drop (length bytes - length after) xs) (append_assoc front after later)
    ∙ drop_at front (after ++ later) (length bytes - length after) count

pub into_array : (bytes after : List ℕ) (place left n : ℕ) → IsLooked bytes place left → 0 < left → n < 2 ^ 64
    → drop place bytes ≡ line 42 (decimal n) ++ after → IsLooked bytes (length bytes - length after) (left - 1 + n)
into_array bytes after place left n before lt few is = record {
  within = omega arith;
  ahead = λ later rest t whole.
      let head = line 42 (decimal n) in
      let one = first_left (drop place (bytes ++ later)) rest left lt (before.ahead later rest t whole) in
      let there : head ++ (after ++ later) ≡ encoding one.0 ++ (spellings one.1 ++ rest) =
      sym (append_assoc head after later) ∙ ap (λ (xs : List ℕ). xs ++ later) (sym is)
      ∙ sym (drop-append-le place bytes later before.within) ∙ one.2 in
      let found = array_is one.0 n (after ++ later) (spellings one.1 ++ rest) few one.4 there in
      let fit : Fits 8 (array found.0) = subst (Fits 8) found.1 one.4 in (
        joined found.0 one.1,
        behind bytes after later head place is ∙ found.3
            ∙ sym (append_assoc (spellings found.0) (spellings one.1) rest)
            ∙ ap (λ (xs : List ℕ). xs ++ rest) (sym (spellings-joined found.0 one.1)),
        length_of-joined found.0 one.1 ∙ omega (arith, one.3, found.2),
        fit_joined 8 found.0 one.1 (all_up 7 8 found.0 (omega arith) fit.2) one.5,
      );
}
