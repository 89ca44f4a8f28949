-- What is read off a page is what was put there.
use Rattle.std.proofs.Common.{◌≡◌, ℕ, zero, suc, ◌+◌, ◌-◌, ◌<◌, ◌^◌, Bool, true, false, cond, ◌&&◌, ◌==◌}
use Rattle.std.proofs.Common.{List, [], ◌∷◌, ◌++◌, length, map, filter, Option, None, Some, IfSome, All, codes, decimal}
use Rattle.std.proofs.Common.{append_assoc, append-nil, sym, refl, ap, ◌∙◌, subst, arith}
use Rattle.std.specs.List.{join_with_byte, list_all}
use Rattle.std.proofs.lemmas.Bool.Decides.{nat_tests}
use Rattle.std.proofs.lemmas.Fmt.{decimal_injective, decimal_nonempty}
use Rattle.std.proofs.lemmas.List.Elements.{All-head, All-tail, filter-append}
use Rattle.byte_texts.specs.Decimals.{is_digit}
use Rattle.byte_texts.proofs.Numerals.{are_digits}
use Rattle.plan_outlines.specs.declared.nodes.NodeServer.{NodeServer}
use Rattle.plan_outlines.specs.declared.ranges.SlotRun.{SlotRun}
use Rattle.plan_pages.specs.Moves.{last_part}
use Rattle.plan_pages.specs.Reading.{FiguresAreTold, HasFigures, RunsAreListed, is_ink}
use Rattle.plan_pages.specs.Runs.{fits, gap, more_runs, room_after, run_text, runs_text}
use Rattle.plan_pages.specs.Servers.{figures_line, keys_told, limit_told, memory_told}
use Rattle.plan_pages.specs.Widths.{IsRun}
use Rattle.plan_pages.specs.Words.{key_word}

both : (a b : Bool) → (a && b) ≡ true → (a ≡ true) × (b ≡ true)
both true b e = (refl, e)
both false b e = cc

digits_of : (n : ℕ) → n < 2 ^ 64 → list_all is_digit (decimal n) ≡ true
digits_of n lt = are_digits n (omega (arith, lt))

-- ---- the runs

ink_is : (c : ℕ) → is_digit c ≡ true → is_ink c ≡ true
ink_is c e = grind (arith, nat_tests)

-- digits are no blanks
digits_stay : (d : List ℕ) → list_all is_digit d ≡ true → filter is_ink d ≡ d
digits_stay [] e = refl
digits_stay (c ∷ d) e =
    let p = both (is_digit c) (list_all is_digit d) e in
    ap (λ b. cond b (c ∷ filter is_ink d) (filter is_ink d)) (ink_is c p.0) ∙ ap (λ l. c ∷ l) (digits_stay d p.1)

number_stays : (n : ℕ) → n < 16384 → filter is_ink (decimal n) ≡ decimal n
number_stays n lt = digits_stay (decimal n) (digits_of n (omega (arith, lt)))

last_stays : (b : Bool) (n : ℕ) → n < 16384
    → filter is_ink (cond b [] (45 ∷ decimal n)) ≡ cond b [] (45 ∷ decimal n)
last_stays true n lt = refl
last_stays false n lt = ap (λ l. 45 ∷ l) (number_stays n lt)

run_stays : (r : SlotRun) → IsRun r → filter is_ink (run_text r) ≡ run_text r
unfolding run_text
run_stays r is =
    filter-append is_ink (decimal r.first) (last_part r.first r.last)
    ∙ ap (λ (l : List ℕ). l ++ filter is_ink (last_part r.first r.last)) (number_stays r.first is.0)
    ∙ ap (λ (l : List ℕ). decimal r.first ++ l) (last_stays (r.first == r.last) r.last is.1)

comma_left : (b : Bool) → filter is_ink (gap b) ≡ 44 ∷ []
comma_left true = refl
comma_left false = refl

-- the texts, each after a comma
behind_commas : List SlotRun → List ℕ
behind_commas [] = []
behind_commas (r ∷ rs) = 44 ∷ (run_text r ++ behind_commas rs)

more_listed : (room : ℕ) (rs : List SlotRun) → All IsRun rs → filter is_ink (more_runs room rs) ≡ behind_commas rs
unfolding behind_commas
more_listed room [] all = refl
more_listed room (r ∷ rs) all =
    filter-append is_ink (gap (fits room (run_text r))) (run_text r ++ more_runs (room_after room (run_text r)) rs)
    ∙ ap (λ (l : List ℕ). l ++ filter is_ink (run_text r ++ more_runs (room_after room (run_text r)) rs))
    (comma_left (fits room (run_text r)))
    ∙ ap (λ (l : List ℕ). 44 ∷ l)
    (filter-append is_ink (run_text r) (more_runs (room_after room (run_text r)) rs)
    ∙ ap (λ (l : List ℕ). l ++ filter is_ink (more_runs (room_after room (run_text r)) rs))
    (run_stays r (All-head IsRun r rs all))
    ∙ ap (λ (l : List ℕ). run_text r ++ l) (more_listed (room_after room (run_text r)) rs (All-tail IsRun r rs all)))

joined : (r : SlotRun) (rs : List SlotRun) → run_text r ++ behind_commas rs ≡ join_with_byte 44 (map run_text (r ∷ rs))
unfolding behind_commas
joined r [] = append-nil (run_text r)
joined r (q ∷ rs) = ap (λ (l : List ℕ). run_text r ++ (44 ∷ l)) (joined q rs)

pub runs_are_listed : RunsAreListed
runs_are_listed room r rs all =
    filter-append is_ink (run_text r) (more_runs (room - length (run_text r)) rs)
    ∙ ap (λ (l : List ℕ). l ++ filter is_ink (more_runs (room - length (run_text r)) rs))
    (run_stays r (All-head IsRun r rs all))
    ∙ ap (λ (l : List ℕ). run_text r ++ l) (more_listed (room - length (run_text r)) rs (All-tail IsRun r rs all))
    ∙ joined r rs

-- ---- the figures

same_first : (x y : ℕ) (xs ys : List ℕ) → x ∷ xs ≡ y ∷ ys → x ≡ y
same_first x y xs ys e = cc

same_rest : (x y : ℕ) (xs ys : List ℕ) → x ∷ xs ≡ y ∷ ys → xs ≡ ys
same_rest x y xs ys e = cc

comma : (x y : List ℕ) → 44 ∷ x ≡ 32 ∷ y → ⊥
comma x y e = let same : 44 ≡ 32 = same_first 44 32 x y e in omega (arith, same)

word : (x y : List ℕ) → 119 ∷ x ≡ 111 ∷ y → ⊥
word x y e = let same : 119 ≡ 111 = same_first 119 111 x y e in omega (arith, same)

-- what follows one text is the same
behind : (p x y : List ℕ) → p ++ x ≡ p ++ y → x ≡ y
behind [] x y e = e
behind (c ∷ p) x y e = behind p x y (same_rest c c (p ++ x) (p ++ y) e)

abbrev BeginsOther : List ℕ → Type 0
BeginsOther [] = Unit {0}
BeginsOther (c ∷ t) = is_digit c ≡ false

no_digit : (c : ℕ) (t d x : List ℕ) → is_digit c ≡ false → list_all is_digit d ≡ true → 0 < length d → c ∷ t ≡ d ++ x
    → ⊥
no_digit c t [] x other all some e = omega (arith, some)
no_digit c t (b ∷ d) x other all some e =
    differ
    (sym (both (is_digit b) (list_all is_digit d) all).0 ∙ ap is_digit (sym (same_first c b t (d ++ x) e)) ∙ other)
  where
    differ : true ≡ false → ⊥
    differ h = cc

-- digits end where something else begins
cut : (d e x y : List ℕ) → list_all is_digit d ≡ true → list_all is_digit e ≡ true → BeginsOther x → BeginsOther y
    → d ++ x ≡ e ++ y → (d ≡ e) × (x ≡ y)
cut [] [] x y f g p q is = (refl, is)
cut [] (b ∷ e) [] y f g p q is = absurd (none is)
  where
    none : [] ≡ b ∷ (e ++ y) → ⊥
    none h = cc
cut [] (b ∷ e) (c ∷ x) y f g p q is = absurd (no_digit c x (b ∷ e) y p g (omega arith) is)
cut (b ∷ d) [] x [] f g p q is = absurd (none is)
  where
    none : b ∷ (d ++ x) ≡ [] → ⊥
    none h = cc
cut (b ∷ d) [] x (c ∷ y) f g p q is = absurd (no_digit c y (b ∷ d) x q f (omega arith) (sym is))
cut (b ∷ d) (c ∷ e) x y f g p q is =
    let first = both (is_digit b) (list_all is_digit d) f in
    let second = both (is_digit c) (list_all is_digit e) g in
    let rest = cut d e x y first.1 second.1 p q (same_rest b c (d ++ x) (e ++ y) is) in
    (ap (λ l. b ∷ l) rest.0 ∙ ap (λ k. k ∷ e) (same_first b c (d ++ x) (e ++ y) is), rest.1)

-- a number and its end are read
number_read : (k j : ℕ) (x y : List ℕ) → k < 2 ^ 64 → j < 2 ^ 64 → BeginsOther x → BeginsOther y
    → decimal k ++ x ≡ decimal j ++ y → (k ≡ j) × (x ≡ y)
number_read k j x y f g p q is =
    let parts = cut (decimal k) (decimal j) x y (digits_of k f) (digits_of j g) p q is in
    (decimal_injective k j f g parts.0, parts.1)

no_number : (c : ℕ) (t : List ℕ) (k : ℕ) (x : List ℕ) → k < 2 ^ 64 → is_digit c ≡ false → c ∷ t ≡ decimal k ++ x → ⊥
no_number c t k x lt other is = no_digit c t (decimal k) x other (digits_of k lt) (decimal_nonempty k lt) is

word_begins : (b : Bool) (x : List ℕ) → BeginsOther (cond b (codes " key") (codes " keys") ++ x)
word_begins true x = refl
word_begins false x = refl

keys_read : (a b : Option ℕ) (x y : List ℕ) → IfSome a (λ k. k < 2 ^ 64) → IfSome b (λ k. k < 2 ^ 64)
    → keys_told a ++ x ≡ keys_told b ++ y → (a ≡ b) × (x ≡ y)
unfolding keys_told
keys_read None None x y f g is = (refl, behind (codes "keys unknown") x y is)
keys_read None (Some j) x y f g is =
    absurd (no_number 107 _ j (key_word j ++ y) g refl (is ∙ append_assoc (decimal j) (key_word j) y))
keys_read (Some k) None x y f g is =
    absurd (no_number 107 _ k (key_word k ++ x) f refl (sym is ∙ append_assoc (decimal k) (key_word k) x))
keys_read (Some k) (Some j) x y f g is =
    let parts = number_read k j (key_word k ++ x) (key_word j ++ y) f g (word_begins (k == 1) x)
    (word_begins (j == 1) y)
    (sym (append_assoc (decimal k) (key_word k) x) ∙ is ∙ append_assoc (decimal j) (key_word j) y) in
    (ap Some parts.0, behind (key_word k) x y (parts.1 ∙ ap (λ n. key_word n ++ y) (sym parts.0)))

memory_read : (a b : Option ℕ) (x y : List ℕ) → IfSome a (λ k. k < 2 ^ 64) → IfSome b (λ k. k < 2 ^ 64)
    → memory_told a ++ x ≡ memory_told b ++ y → (a ≡ b) × (x ≡ y)
unfolding memory_told
memory_read None None x y f g is = (refl, behind (codes "bytes used unknown") x y is)
memory_read None (Some j) x y f g is =
    absurd (no_number 98 _ j (codes " bytes used" ++ y) g refl (is ∙ append_assoc (decimal j) (codes " bytes used") y))
memory_read (Some k) None x y f g is =
    absurd (no_number 98 _ k (codes " bytes used" ++ x) f refl
    (sym is ∙ append_assoc (decimal k) (codes " bytes used") x))
memory_read (Some k) (Some j) x y f g is =
    let parts = number_read k j (codes " bytes used" ++ x) (codes " bytes used" ++ y) f g refl refl
    (sym (append_assoc (decimal k) (codes " bytes used") x) ∙ is
    ∙ append_assoc (decimal j) (codes " bytes used") y) in
    (ap Some parts.0, behind (codes " bytes used") x y parts.1)

limit_read : (a b : Option ℕ) → IfSome a (λ k. k < 2 ^ 64) → IfSome b (λ k. k < 2 ^ 64)
    → limit_told a ++ 10 ∷ [] ≡ limit_told b ++ 10 ∷ [] → a ≡ b
unfolding limit_told
limit_read None None f g is = refl
limit_read None (Some zero) f g is = absurd (comma _ _ is)
limit_read None (Some (suc j)) f g is = absurd (comma _ _ is)
limit_read (Some zero) None f g is = absurd (comma _ _ (sym is))
limit_read (Some (suc k)) None f g is = absurd (comma _ _ (sym is))
limit_read (Some zero) (Some zero) f g is = refl
limit_read (Some zero) (Some (suc j)) f g is = absurd (word _ _ (same_rest 32 32 _ _ is))
limit_read (Some (suc k)) (Some zero) f g is = absurd (word _ _ (same_rest 32 32 _ _ (sym is)))
limit_read (Some (suc k)) (Some (suc j)) f g is =
    let parts = number_read (suc k) (suc j) (10 ∷ []) (10 ∷ []) f g refl refl
    (behind (codes " of at most ") (decimal (suc k) ++ 10 ∷ []) (decimal (suc j) ++ 10 ∷ [])
    (sym (append_assoc (codes " of at most ") (decimal (suc k)) (10 ∷ [])) ∙ is
    ∙ append_assoc (codes " of at most ") (decimal (suc j)) (10 ∷ []))) in
    ap Some parts.0

pub figures_are_told : FiguresAreTold
unfolding figures_line
figures_are_told s q f g is =
    let keys = keys_read s.keys q.keys
    (codes ", " ++ (memory_told s.used_memory ++ (limit_told s.max_memory ++ 10 ∷ [])))
    (codes ", " ++ (memory_told q.used_memory ++ (limit_told q.max_memory ++ 10 ∷ []))) f.keys g.keys
    (behind (codes "     ") _ _ is) in
    let memory = memory_read s.used_memory q.used_memory (limit_told s.max_memory ++ 10 ∷ [])
    (limit_told q.max_memory ++ 10 ∷ []) f.used g.used (behind (codes ", ") _ _ keys.1) in
    (keys.0, memory.0, limit_read s.max_memory q.max_memory f.limit g.limit memory.1)
