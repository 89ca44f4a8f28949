-- Headers of a few digits, read digit by digit, and what the first digit of a count tells.
use Rattle.std.proofs.Common.{◌≡◌, ℕ, suc, ◌+◌, ◌-◌, ◌*◌, ◌≤◌, ◌<◌, ◌^◌, Bool, true, false, cond, eqb, leb, ltb, List, [], ◌∷◌, ◌++◌, take, drop, Option, Some, None, Result, Ok, Err, refl, sym, ap, subst, ◌∙◌, arith, ne_eqb, inl, inr}
use Rattle.std.specs.Bool.{OnTrue}
use Rattle.std.specs.Option.{is_some, IfSome}
use Rattle.std.specs.Cmp.Lexicographic.{pointwise, same_text}
use Rattle.std.proofs.lemmas.List.{take-append-drop}
use Rattle.std.proofs.Math.Nat.{pow-le-pow_right}
use Rattle.std.proofs.lemmas.Bool.{le-leb}
use Rattle.std.proofs.lemmas.Grind.{pow_more}
use Rattle.byte_texts.specs.Decimals.{digits_from, is_digit, number_of, numeral_of, with_sign}
use Rattle.resp2_wire.specs.declared.fault.WireFault.{WireFault}
use Rattle.resp2_wire.specs.declared.fault.WireFault.TheVariants.{NotArray, MissingCrLf, BadCount, TooLarge}
use Rattle.resp2_wire.specs.declared.fault.Stop.{Stop}
use Rattle.resp2_wire.specs.declared.fault.Stop.TheVariants.{Fault}
use Rattle.resp2_wire.specs.Reading.{◌>>=◌, Numeral, byte_at, before_cr, or_fault, header_at, at_most, count_at}
use Rattle.resp2_wire.specs.Stream.{NoEmptyFirst}
use Rattle.resp2_wire.proofs.Headers.{done, ok_same, chosen, byte_spell}
use Rattle.resp2_wire.proofs.Skipping.{bind_ok, not_empty, not_empty_err}

abbrev pub Header : Type 0
Header = Result (Numeral × List ℕ) Stop

abbrev pub Line : Type 0
Line = Result (List ℕ × List ℕ) Stop

-- what a line that was read up to its CR gives, where its text is read by h
abbrev pub ended : WireFault → (List ℕ → Option Numeral) → Line → Header
ended f h read = read >>= λ text. byte_at 10 MissingCrLf text.1 >>= λ lf. or_fault f lf.1 (h text.0)

abbrev grown : ℕ → Line → Line
grown b read = read >>= λ x. Ok (b ∷ x.0, x.1)

-- the number without a sign that begins with n and goes on with these digits
abbrev pub plain_from : ℕ → List ℕ → Option Numeral
plain_from n text = with_sign false (digits_from n text)

-- the rest of a header whose number begins with n, where the CR has to be among the first k bytes
abbrev pub header_on : WireFault → ℕ → ℕ → List ℕ → Header
header_on f n k bytes = ended f (plain_from n) (before_cr f k bytes)

one_more : (f : WireFault) (b : ℕ) (read : Line) (h g : List ℕ → Option Numeral) → ((t : List ℕ) → h (b ∷ t) ≡ g t) → ended f h (grown b read) ≡ ended f g read
one_more f b (Ok x) h g e = rw (e x.0) refl
one_more f b (Err s) h g e = refl

-- the first digit
pub first_digit : (f : WireFault) (d : ℕ) (rest : List ℕ) → 0 < d → d < 10 → header_at f ((48 + d) ∷ rest) ≡ header_on f d 20 rest
unfolding header_at before_cr numeral_of number_of
first_digit f d rest low high =
    let cr : eqb (48 + d) 13 ≡ false = ne_eqb _ _ (omega arith) in
    let minus : eqb (48 + d) 45 ≡ false = ne_eqb _ _ (omega arith) in
    let nought : eqb (48 + d) 48 ≡ false = ne_eqb _ _ (omega arith) in
    let above : leb 49 (48 + d) ≡ true = le-leb 49 (48 + d) (omega arith) in
    let below : leb (48 + d) 57 ≡ true = le-leb (48 + d) 57 (omega arith) in
    let value : 48 + d - 48 ≡ d = omega arith in
    let reads : (t : List ℕ) → numeral_of ((48 + d) ∷ t) ≡ plain_from d t = λ t. rw (minus, nought, above, below, value) refl in
    let one : header_at f ((48 + d) ∷ rest) ≡ ended f numeral_of (grown (48 + d) (before_cr f 20 rest)) = rw cr refl in
    one ∙ one_more f (48 + d) (before_cr f 20 rest) numeral_of (plain_from d) reads

-- one digit more
pub next_digit : (f : WireFault) (n m k j d next : ℕ) (bytes rest : List ℕ) → k ≡ suc j → d < 10 → m ≡ n * 10 + d → bytes ≡ next ∷ rest → next ≡ 48 + d → header_on f n k bytes ≡ header_on f m j rest
unfolding before_cr
next_digit f n m k j d next bytes rest e high is begins digit =
    let cr : eqb (48 + d) 13 ≡ false = ne_eqb _ _ (omega arith) in
    let above : leb 48 (48 + d) ≡ true = le-leb 48 (48 + d) (omega arith) in
    let below : leb (48 + d) 57 ≡ true = le-leb (48 + d) 57 (omega arith) in
    let value : 10 * n + (48 + d - 48) ≡ m = omega arith in
    let reads : (t : List ℕ) → plain_from n ((48 + d) ∷ t) ≡ plain_from m t = λ t. rw (above, below, value) refl in
    let one : header_on f n k bytes ≡ ended f (plain_from n) (grown (48 + d) (before_cr f j rest)) = rw (begins, digit, e, cr) refl in
    one ∙ one_more f (48 + d) (before_cr f j rest) (plain_from n) (plain_from m) reads

-- the line's end
pub line_end : (f : WireFault) (n k j next : ℕ) (bytes after rest : List ℕ) → k ≡ suc j → bytes ≡ next ∷ after → next ≡ 13 → after ≡ 10 ∷ rest → header_on f n k bytes ≡ Ok (record { negative = false; size = n }, rest)
unfolding before_cr
line_end f n k j next bytes after rest e begins cr lf = rw (begins, cr, lf, e) refl

-- the header of a null, and 0

begins_with : (text bytes rest : List ℕ) (n : ℕ) → pointwise eqb (take n bytes) text ≡ true → rest ≡ drop n bytes → bytes ≡ text ++ rest
begins_with text bytes rest n same is =
    let front : take n bytes ≡ text = same_text (take n bytes) text (sym same) in
    sym (take-append-drop n bytes) ∙ ap (λ (t : List ℕ). t ++ drop n bytes) front ∙ ap (λ (t : List ℕ). text ++ t) (sym is)

pub null_header : (f : WireFault) (bytes rest : List ℕ) → pointwise eqb (take 4 bytes) (45 ∷ 49 ∷ 13 ∷ 10 ∷ []) ≡ true → rest ≡ drop 4 bytes → header_at f bytes ≡ Ok (record { negative = true; size = 1 }, rest)
unfolding header_at before_cr numeral_of number_of
null_header f bytes rest same is = rw (begins_with (45 ∷ 49 ∷ 13 ∷ 10 ∷ []) bytes rest 4 same is) refl

pub zero_header : (f : WireFault) (bytes rest : List ℕ) → pointwise eqb (take 3 bytes) (48 ∷ 13 ∷ 10 ∷ []) ≡ true → rest ≡ drop 3 bytes → header_at f bytes ≡ Ok (record { negative = false; size = 0 }, rest)
unfolding header_at before_cr numeral_of number_of
zero_header f bytes rest same is = rw (begins_with (48 ∷ 13 ∷ 10 ∷ []) bytes rest 3 same is) refl

-- the line's end where no further digit may stand
pub last_line_end : (f : WireFault) (n k : ℕ) (bytes rest : List ℕ) → k ≡ 2 → pointwise eqb (take 2 bytes) (13 ∷ 10 ∷ []) ≡ true → rest ≡ drop 2 bytes → header_on f n k bytes ≡ Ok (record { negative = false; size = n }, rest)
last_line_end f n k bytes rest e same is =
    line_end f n k 1 13 bytes (10 ∷ rest) rest e (begins_with (13 ∷ 10 ∷ []) bytes rest 2 same is) refl refl

-- the number of a few digits, and of one more

pub few_digits : (n k : ℕ) → k < 18 → n < 10 ^ (k + 1) → n < 10 ^ 18
few_digits n k few lt = let most : 10 ^ (k + 1) ≤ 10 ^ 18 = pow-le-pow_right {n = 10} (omega arith) {i = k + 1} {j = 18} (omega arith) in omega arith

pub more_digits : (n k d : ℕ) → n < 10 ^ (k + 1) → d < 10 → n * 10 + d < 10 ^ (k + 1 + 1)
more_digits n k d lt digit = omega (arith, pow_more 10 (k + 1))

-- ---- a count whose first digit is not 0

digits_grow : (n m : ℕ) (ds : List ℕ) → digits_from n ds ≡ Some m → n ≤ m
digits_grow n m [] e = let same : n ≡ m = cc in omega arith
digits_grow n m (b ∷ ds) e = go (is_digit b) (digits_grow (10 * n + (b - 48)) m ds) e
  where
    go : (t : Bool) → (digits_from (10 * n + (b - 48)) ds ≡ Some m → 10 * n + (b - 48) ≤ m) → cond t (digits_from (10 * n + (b - 48)) ds) None ≡ Some m → n ≤ m
    go true ih f = omega (arith, ih f)
    go false ih f = absurd cc

-- a number without a sign, of this size at least
abbrev AtLeast : ℕ → Numeral → Type 0
AtLeast n x = (x.negative ≡ false) × (n ≤ x.size)

some_least : (f : WireFault) (n : ℕ) (text rest : List ℕ) (x : Numeral × List ℕ) → or_fault f rest (with_sign false (digits_from n text)) ≡ Ok x → AtLeast n x.0
some_least f n text rest x = by (digits_from n text) refl
  where
    by : (o : Option ℕ) → digits_from n text ≡ o → or_fault f rest (with_sign false o) ≡ Ok x → AtLeast n x.0
    by None is e = absurd cc
    by (Some m) is e =
        let p : record { negative = false; size = m } ≡ x.0 = ap (λ (q : Numeral × List ℕ). q.0) (ok_same (record { negative = false; size = m }, rest) x e) in
        subst (AtLeast n) p (refl, digits_grow n m text is)

header_least : (f : WireFault) (n k : ℕ) (bytes : List ℕ) (x : Numeral × List ℕ) → header_on f n k bytes ≡ Ok x → AtLeast n x.0
header_least f n k bytes x e =
    let one = bind_ok (before_cr f k bytes) (λ text. byte_at 10 MissingCrLf text.1 >>= λ lf. or_fault f lf.1 (with_sign false (digits_from n text.0))) x e in
    let two = bind_ok (byte_at 10 MissingCrLf one.0.1) (λ lf. or_fault f lf.1 (with_sign false (digits_from n one.0.0))) x one.2 in
    some_least f n one.0.0 two.0.1 x two.2

count_least : (h : Numeral × List ℕ) (x : ℕ × List ℕ) (n : ℕ) → AtLeast n h.0 → cond h.0.negative (Ok (0, h.1)) (at_most 1024 h.0 h.1) ≡ done x → n ≤ x.0
count_least h x n least e =
    let plain : at_most 1024 h.0 h.1 ≡ done x = rw least.0 at e in
    elim (chosen (ltb 1024 h.0.size) (Err (Fault TooLarge)) (Ok (h.0.size, h.1)) (Ok x) plain) [
      | inl g ↦ (let no = g.1 in absurd cc)
      | inr g ↦ (let same : h.0.size ≡ x.0 = ap (λ (q : ℕ × List ℕ). q.0) (ok_same (h.0.size, h.1) x g.1) in omega (arith, least.1))
    ]

pub no_empty_count : (d : ℕ) (rest : List ℕ) → 0 < d → d < 10 → NoEmptyFirst (42 ∷ (48 + d) ∷ rest)
unfolding count_at
no_empty_count d rest low high = by (count_at (42 ∷ (48 + d) ∷ rest)) refl
  where
    by : (r : Result (ℕ × List ℕ) Stop) → count_at (42 ∷ (48 + d) ∷ rest) ≡ r → NoEmptyFirst (42 ∷ (48 + d) ∷ rest)
    by (Err e) is = not_empty_err e (42 ∷ (48 + d) ∷ rest) is
    by (Ok x) is =
        let one = bind_ok (header_at BadCount ((48 + d) ∷ rest)) (λ n. cond n.0.negative (Ok (0, n.1)) (at_most 1024 n.0 n.1)) x is in
        let least = header_least BadCount d 20 rest one.0 (sym (first_digit BadCount d rest low high) ∙ one.1) in
        let some : d ≤ x.0 = count_least one.0 x d least one.2 in
        not_empty x.0 (42 ∷ (48 + d) ∷ rest) x.1 (λ z. absurd (omega arith)) is

pub counted : {R : Type 0} (bytes rest : List ℕ) (found : Option (ℕ × R)) (b : Bool) → b ≡ is_some found → (view : ℕ × R → List ℕ) → byte_at 42 NotArray bytes ≡ Ok (42, rest) → IfSome found (λ x. (0 < x.0) × (x.0 < 10) × (rest ≡ (48 + x.0) ∷ view x)) → OnTrue b (NoEmptyFirst bytes)
counted bytes rest None b is view mark h = rw is tt
counted bytes rest (Some x) b is view mark h =
    let begins : bytes ≡ 42 ∷ (48 + x.0) ∷ view x = byte_spell 42 NotArray bytes (42, rest) mark ∙ ap (λ (t : List ℕ). 42 ∷ t) h.2 in
    rw (is, begins) (no_empty_count x.0 (view x) h.0 h.1)
