-- How long spellings are.
use Rattle.std.proofs.Common.{◌≡◌, ℕ, zero, suc, ◌+◌, ◌-◌, ◌≤◌, ◌<◌, ◌/◌, ◌%◌, ◌^◌, min, List, [], ◌∷◌, ◌++◌, length, get_or, take, refl, sym, ap, ◌∙◌, arith, decimal, append_assoc}
use Rattle.std.proofs.lemmas.List.{append-nil, length-append, take_more}
use Rattle.std.proofs.lemmas.Fmt.{decimal_digit, decimal_step_wide}
use Rattle.resp2_wire.specs.declared.reply.Reply.{Reply}
use Rattle.resp2_wire.specs.Encoding.{encoding, length_of, line, spellings}
use Rattle.resp2_wire.specs.Held.{first_length, first_of, held, own_length, own_lengths}
use Rattle.resp2_wire.specs.RequestLaws.{bulks}
use Rattle.resp2_wire.specs.Stream.{Words}
use Rattle.resp2_wire.specs.Tree.{array, bulk, Trees, more}
use Rattle.resp2_wire.specs.View.{tree, trees}
use Rattle.resp2_wire.proofs.Bulks.{as_many}
use Rattle.resp2_wire.proofs.Written.{one_longer, length_of-trees}

pub digit_length : (n : ℕ) → n ≤ 9 → length (decimal n) ≡ 1
digit_length n few = ap length (decimal_digit n (omega arith))

digits_more : (n : ℕ) → 9 < n → n < 2 ^ 64 → length (decimal n) ≡ length (decimal (n / 10)) + 1
digits_more n many lt = ap length (decimal_step_wide n (omega arith) (omega arith)) ∙ length-append (decimal (n / 10)) ((48 + n % 10) ∷ [])

pub two_digits_length : (n : ℕ) → 9 < n → n ≤ 99 → length (decimal n) ≡ 2
two_digits_length n many few = omega (arith, digits_more n many (omega arith), digit_length (n / 10) (omega arith))

pub three_digits_length : (n : ℕ) → 99 < n → n ≤ 999 → length (decimal n) ≡ 3
three_digits_length n many few = omega (arith, digits_more n (omega arith) (omega arith), two_digits_length (n / 10) (omega arith) (omega arith))

pub four_digits_length : (n : ℕ) → 999 < n → n ≤ 9999 → length (decimal n) ≡ 4
four_digits_length n many few = omega (arith, digits_more n (omega arith) (omega arith), three_digits_length (n / 10) (omega arith) (omega arith))

pub five_digits_length : (n : ℕ) → 9999 < n → n ≤ 99999 → length (decimal n) ≡ 5
five_digits_length n many few = omega (arith, digits_more n (omega arith) (omega arith), four_digits_length (n / 10) (omega arith) (omega arith))

pub six_digits_length : (n : ℕ) → 99999 < n → n ≤ 999999 → length (decimal n) ≡ 6
six_digits_length n many few = omega (arith, digits_more n (omega arith) (omega arith), five_digits_length (n / 10) (omega arith) (omega arith))

pub seven_digits_length : (n : ℕ) → 999999 < n → n ≤ 9999999 → length (decimal n) ≡ 7
seven_digits_length n many few = omega (arith, digits_more n (omega arith) (omega arith), six_digits_length (n / 10) (omega arith) (omega arith))

pub eight_digits_length : (n : ℕ) → 9999999 < n → n ≤ 99999999 → length (decimal n) ≡ 8
eight_digits_length n many few = omega (arith, digits_more n (omega arith) (omega arith), seven_digits_length (n / 10) (omega arith) (omega arith))

pub ruleset few_digits = (
  digit_length,
  two_digits_length,
  three_digits_length,
  four_digits_length,
  five_digits_length,
  six_digits_length,
  seven_digits_length,
  eight_digits_length,
)

four_digits_more : (n : ℕ) → 9999 < n → n < 2 ^ 64 → length (decimal n) ≡ length (decimal (n / 10000)) + 4
four_digits_more n many lt =
    let one = digits_more n (omega arith) lt in
    let two = digits_more (n / 10) (omega arith) (omega arith) in
    let three = digits_more (n / 10 / 10) (omega arith) (omega arith) in
    let four = digits_more (n / 10 / 10 / 10) (omega arith) (omega arith) in
    let same : n / 10 / 10 / 10 / 10 ≡ n / 10000 = omega arith in
    let is : length (decimal (n / 10 / 10 / 10 / 10)) ≡ length (decimal (n / 10000)) = ap (λ m. length (decimal m)) same in
    omega (arith, one, two, three, four, is)

pub eight_digits_more : (n : ℕ) → 99999999 < n → n < 2 ^ 64 → length (decimal n) ≡ length (decimal (n / 100000000)) + 8
eight_digits_more n many lt =
    let one = four_digits_more n (omega arith) lt in
    let two = four_digits_more (n / 10000) (omega arith) (omega arith) in
    let same : n / 10000 / 10000 ≡ n / 100000000 = omega arith in
    let is : length (decimal (n / 10000 / 10000)) ≡ length (decimal (n / 100000000)) = ap (λ m. length (decimal m)) same in
    omega (arith, one, two, is)

pub line_length : (mark : ℕ) (text : List ℕ) → length (line mark text) ≡ length text + 3
line_length mark text = omega (arith, length-append text (13 ∷ 10 ∷ []))

pub bulk_length : (text : List ℕ) → length (encoding (bulk text)) ≡ length (decimal (length text)) + 3 + length text + 2
bulk_length text =
    let header = line_length 36 (decimal (length text)) in
    let one = length-append (line 36 (decimal (length text)) ++ text) (13 ∷ 10 ∷ []) in
    let two = length-append (line 36 (decimal (length text))) text in
    omega (arith, header, one, two)

-- ---- replies

own_lengths-push : (xs : List Reply) (x : Reply) → own_lengths (trees (xs ++ x ∷ [])) ≡ own_lengths (trees xs) + own_length (tree x)
own_lengths-push [] x = omega arith
own_lengths-push (y ∷ ys) x = omega (arith, own_lengths-push ys x)

pub one_measured : (xs : List Reply) (i : ℕ) (x : Reply) (total this : ℕ) → i < length xs → x ≡ get_or xs i x → total ≡ held (own_lengths (trees (take i xs))) → this ≡ own_length (tree x) → min (total + this) (2 ^ 64 - 1) ≡ held (own_lengths (trees (take (i + 1) xs)))
one_measured xs i x total this lt is before one =
    let longer : own_lengths (trees (take (i + 1) xs)) ≡ own_lengths (trees (take i xs)) + own_length (tree x) = ap (λ (ys : List Reply). own_lengths (trees ys)) (one_longer xs i x lt is) ∙ own_lengths-push (take i xs) x in
    omega (arith, longer, before, one)

pub first_trees : (n : ℕ) (xs : List Reply) → trees (take n xs) ≡ first_of n (trees xs)
first_trees zero [] = refl
first_trees zero (x ∷ xs) = refl
first_trees (suc n) [] = refl
first_trees (suc n) (x ∷ xs) = ap (more (tree x)) (first_trees n xs)

pub line_measured : (ts : Trees) (xs : List Reply) (header : ℕ) → trees xs ≡ ts → header ≡ length (line 42 (decimal (length xs))) → header ≡ own_length (array ts)
line_measured ts xs header is count = count ∙ ap (λ n. length (line 42 (decimal n))) (sym (length_of-trees xs) ∙ ap length_of is)

pub first_measured : (ts : Trees) (xs ys : List Reply) (all header : ℕ) → trees xs ≡ ts → ys ≡ take 16 xs
    → all ≡ held (own_lengths (trees ys)) → header ≡ length (line 42 (decimal (length xs)))
    → min (all + header) (2 ^ 64 - 1) ≡ held (first_length (array ts))
first_measured ts xs ys all header is first before count =
    let few : own_lengths (trees ys) ≡ own_lengths (first_of 16 ts) = ap (λ (zs : List Reply). own_lengths (trees zs)) first ∙ ap own_lengths (first_trees 16 xs ∙ ap (first_of 16) is) in
    omega (arith, few, before, line_measured ts xs header is count)

-- ---- requests

bulks-push : (ws : Words) (w : List ℕ) → spellings (bulks (ws ++ w ∷ [])) ≡ spellings (bulks ws) ++ encoding (bulk w)
bulks-push [] w = append-nil (encoding (bulk w))
bulks-push (v ∷ ws) w = ap (λ (t : List ℕ). encoding (bulk v) ++ t) (bulks-push ws w) ∙ sym (append_assoc (encoding (bulk v)) (spellings (bulks ws)) (encoding (bulk w)))

-- the header of so many words, and the spellings of those so far
abbrev pub so_far : ℕ → Words → ℕ
so_far n ws = length (line 42 (decimal n)) + length (spellings (bulks ws))

pub word_measured : (ws : Words) (i n : ℕ) (w : List ℕ) (total this : ℕ) → i < length ws → w ≡ get_or ws i w → total ≡ held (so_far n (take i ws)) → this ≡ length (encoding (bulk w)) → min (total + this) (2 ^ 64 - 1) ≡ held (so_far n (take (i + 1) ws))
word_measured ws i n w total this lt is before one =
    let list : take (i + 1) ws ≡ take i ws ++ w ∷ [] = take_more ws i w lt ∙ ap (λ (v : List ℕ). take i ws ++ v ∷ []) (sym is) in
    let longer : length (spellings (bulks (take (i + 1) ws))) ≡ length (spellings (bulks (take i ws))) + length (encoding (bulk w)) = ap (λ (vs : Words). length (spellings (bulks vs))) list ∙ ap length (bulks-push (take i ws) w) ∙ length-append (spellings (bulks (take i ws))) (encoding (bulk w)) in
    omega (arith, longer, before, one)

pub request_measured : (ws : Words) → so_far (length ws) ws ≡ length (encoding (array (bulks ws)))
request_measured ws = rw (as_many ws) (sym (length-append (line 42 (decimal (length ws))) (spellings (bulks ws))))
