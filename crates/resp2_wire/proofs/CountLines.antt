-- The line of a number, put together at the end of a buffer.
use Rattle.std.proofs.Common.{◌≡◌, ℕ, ◌+◌, ◌-◌, ◌/◌, ◌%◌, ◌≤◌, ◌<◌, ◌^◌, cond, List, [], ◌∷◌, ◌++◌, length, take, drop, set, Result, Ok, Err, sym, ap, ◌∙◌, arith, decimal}
use Rattle.std.specs.Result.{is_ok, OnOk}
use Rattle.std.proofs.lemmas.Fmt.{decimal_digit, decimal_step_wide, length-decimal-le}
use Rattle.std.proofs.lemmas.List.{drop-set, length-append, take_all}
use Rattle.resp2_wire.specs.Encoding.{line}

pub most_digits : (n : ℕ) → n < 2 ^ 64 → length (decimal n) ≤ 20
most_digits n lt = length-decimal-le 20 n (omega arith) (omega arith) lt

pub one_digit : (mark n : ℕ) → n < 10 → mark ∷ (48 + n) ∷ 13 ∷ 10 ∷ [] ≡ line mark (decimal n)
one_digit mark n few = ap (λ (t : List ℕ). mark ∷ t ++ 13 ∷ 10 ∷ []) (sym (decimal_digit n (omega arith)))

pub two_digits : (mark n : ℕ) → 9 < n → n < 100 → mark ∷ (48 + n / 10) ∷ (48 + n % 10) ∷ 13 ∷ 10 ∷ [] ≡ line mark (decimal n)
two_digits mark n many few =
    let first : decimal (n / 10) ≡ (48 + n / 10) ∷ [] = decimal_digit (n / 10) (omega arith) in
    let both : decimal n ≡ (48 + n / 10) ∷ (48 + n % 10) ∷ [] =
    decimal_step_wide n (omega arith) (omega arith) ∙ ap (λ (t : List ℕ). t ++ (48 + n % 10) ∷ []) first in
    ap (λ (t : List ℕ). mark ∷ t ++ 13 ∷ 10 ∷ []) (sym both)

pub count_line : (mark n start : ℕ) (buffer : List ℕ) → 0 < start → length buffer ≡ 23 → start + length (decimal n) ≡ 21 → drop start buffer ≡ decimal n ++ 13 ∷ 10 ∷ [] → take (23 - (start - 1)) (drop (start - 1) (set buffer (start - 1) mark)) ≡ line mark (decimal n)
count_line mark n start buffer some size digits written =
    let at : start - 1 < length buffer = omega arith in
    let next : start - 1 + 1 ≡ start = omega arith in
    let whole : drop (start - 1) (set buffer (start - 1) mark) ≡ line mark (decimal n) = drop-set buffer (start - 1) mark at ∙ ap (λ (i : ℕ). mark ∷ drop i buffer) next ∙ ap (λ (t : List ℕ). mark ∷ t) written in
    let fits : length (line mark (decimal n)) ≤ 23 - (start - 1) = omega (arith, length-append (decimal n) (13 ∷ 10 ∷ [])) in
    ap (take (23 - (start - 1))) whole ∙ take_all (23 - (start - 1)) (line mark (decimal n)) fits

pub pushed : {T E : Type 0} (r : Result T E) (new old x y : List ℕ) → new ≡ cond (is_ok r) (old ++ x) old → x ≡ y → OnOk r (new ≡ old ++ y)
pushed (Ok u) new old x y e same = e ∙ ap (λ (t : List ℕ). old ++ t) same
pushed (Err f) new old x y e same = tt
