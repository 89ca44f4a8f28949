-- Tables that count by the places of pairs.
use Rattle.std.proofs.Common.{◌≡◌, ◌≢◌, ℕ, ◌+◌, ◌*◌, ◌/◌, ◌%◌, ◌<◌, ◌≤◌, ◌^◌, Bool, true, false, cond, ◌&&◌, inl, inr, List, [], ◌∷◌, length, get_or, set, drop, nat_eq, ap, sym, ◌∙◌, arith}
use Rattle.std.proofs.lemmas.Bool.{cases_eq}
use Rattle.std.proofs.lemmas.Bool.Decides.{nat_tests}
use Rattle.std.proofs.lemmas.List.{drop_more, drop_all, get_or_default}
use Rattle.std.proofs.lemmas.Nat.{div-mul-add, mod-mul-add, div-add-mod'}
use Rattle.plan_outlines.specs.Pairs.{keys_from, pair_keys, pair_slots}
use Rattle.plan_outlines.proofs.Tallies.{Tallied, tally_more}

-- a number of each pair, by the place of the pair
abbrev pub at_pair : (n : ℕ) → (ℕ → ℕ → ℕ) → ℕ → ℕ
at_pair n f k = f (k / n) (k % n)

same_number : (a b : ℕ) → a ≡ b → nat_eq a b ≡ true
same_number a b e = grind (arith, nat_tests)

other_number : (a b : ℕ) → a ≢ b → nat_eq a b ≡ false
other_number a b e = grind (arith, nat_tests)

both : (a b : Bool) → a ≡ true → b ≡ true → (a && b) ≡ true
both a b e f = ap (λ c. c && b) e ∙ f

not_both : (x y u v : ℕ) → (x ≡ u → y ≡ v → ⊥) → (nat_eq x u && nat_eq y v) ≡ false
not_both x y u v h =
    elim (cases_eq x u) [
      | inl e ↦ ap (λ c. c && nat_eq y v) (same_number x u e) ∙ other_number y v (h e)
      | inr ne ↦ ap (λ c. c && nat_eq y v) (other_number x u ne)
    ]

-- a pair is at its place alone
pair_test : (n x y k : ℕ) → y < n → (nat_eq x (k / n) && nat_eq y (k % n)) ≡ nat_eq (x * n + y) k
pair_test n x y k lt =
    elim (cases_eq (x * n + y) k) [
      | inl e ↦
          let a : x ≡ k / n = sym (div-mul-add x n y lt) ∙ ap (λ j. j / n) e in
          let b : y ≡ k % n = sym (mod-mul-add x n y lt) ∙ ap (λ j. j % n) e in
          both (nat_eq x (k / n)) (nat_eq y (k % n)) (same_number x (k / n) a) (same_number y (k % n) b) ∙ sym (same_number (x * n + y) k e)
      | inr ne ↦
          not_both x y (k / n) (k % n) (λ a b. ne (ap (λ j. j * n + y) a ∙ ap (λ j. k / n * n + j) b ∙ div-add-mod' k n))
          ∙ sym (other_number (x * n + y) k ne)
    ]

abbrev weighed : (x y w s t : ℕ) → ℕ
weighed x y w s t = cond (nat_eq x s && nat_eq y t) w 0

slots_on : (before after : List ℕ) (i x y s t : ℕ) → i < length before → i < length after → x ≡ get_or before i x → y ≡ get_or after i y → pair_slots (drop i before) (drop i after) s t ≡ weighed x y 1 s t + pair_slots (drop (i + 1) before) (drop (i + 1) after) s t
slots_on before after i x y s t lb la ex ey =
    let db : drop i before ≡ x ∷ drop (i + 1) before = drop_more before i x lb ∙ ap (λ o. o ∷ drop (i + 1) before) (sym ex) in
    let da : drop i after ≡ y ∷ drop (i + 1) after = drop_more after i y la ∙ ap (λ o. o ∷ drop (i + 1) after) (sym ey) in
    ap (λ os. pair_slots os (drop i after) s t) db ∙ ap (λ os. pair_slots (x ∷ drop (i + 1) before) os s t) da

keys_on : (keys before after : List ℕ) (i x y s t : ℕ) → i < length before → i < length after → x ≡ get_or before i x → y ≡ get_or after i y → keys_from i keys (drop i before) (drop i after) s t ≡ weighed x y (get_or keys i 0) s t + keys_from (i + 1) keys (drop (i + 1) before) (drop (i + 1) after) s t
keys_on keys before after i x y s t lb la ex ey =
    let db : drop i before ≡ x ∷ drop (i + 1) before = drop_more before i x lb ∙ ap (λ o. o ∷ drop (i + 1) before) (sym ex) in
    let da : drop i after ≡ y ∷ drop (i + 1) after = drop_more after i y la ∙ ap (λ o. o ∷ drop (i + 1) after) (sym ey) in
    ap (λ os. keys_from i keys os (drop i after) s t) db ∙ ap (λ os. keys_from i keys (x ∷ drop (i + 1) before) os s t) da

slots_step : (n : ℕ) (before after : List ℕ) (i x y p k : ℕ) → i < length before → i < length after → x ≡ get_or before i x → y ≡ get_or after i y → y < n → p ≡ x * n + y → at_pair n (pair_slots (drop i before) (drop i after)) k ≡ cond (nat_eq p k) 1 0 + at_pair n (pair_slots (drop (i + 1) before) (drop (i + 1) after)) k
slots_step n before after i x y p k lb la ex ey lt at =
    slots_on before after i x y (k / n) (k % n) lb la ex ey
    ∙ ap (λ b. cond b 1 0 + pair_slots (drop (i + 1) before) (drop (i + 1) after) (k / n) (k % n)) (pair_test n x y k lt ∙ ap (λ j. nat_eq j k) (sym at))

keys_step : (n : ℕ) (keys before after : List ℕ) (i x y p w k : ℕ) → i < length before → i < length after → x ≡ get_or before i x → y ≡ get_or after i y → y < n → p ≡ x * n + y → w ≡ get_or keys i 0 → at_pair n (keys_from i keys (drop i before) (drop i after)) k ≡ cond (nat_eq p k) w 0 + at_pair n (keys_from (i + 1) keys (drop (i + 1) before) (drop (i + 1) after)) k
keys_step n keys before after i x y p w k lb la ex ey lt at is =
    keys_on keys before after i x y (k / n) (k % n) lb la ex ey
    ∙ ap (λ v. weighed x y v (k / n) (k % n) + keys_from (i + 1) keys (drop (i + 1) before) (drop (i + 1) after) (k / n) (k % n)) (sym is)
    ∙ ap (λ b. cond b w 0 + keys_from (i + 1) keys (drop (i + 1) before) (drop (i + 1) after) (k / n) (k % n)) (pair_test n x y k lt ∙ ap (λ j. nat_eq j k) (sym at))

-- ---- no count is above what all slots give

slots_within : (before after : List ℕ) (s t : ℕ) → pair_slots before after s t ≤ length before
slots_within [] after s t = omega arith
slots_within (b ∷ bs) [] s t = omega arith
slots_within (b ∷ bs) (a ∷ as') s t =
    let h = slots_within bs as' s t in
    elim (nat_eq b s && nat_eq a t) as (λ c. cond c 1 0 + pair_slots bs as' s t ≤ length (b ∷ bs)) [ true ↦ omega (arith, h) | false ↦ omega (arith, h) ]

keys_within : (m from : ℕ) (keys before after : List ℕ) (s t : ℕ) → ((i : ℕ) → get_or keys i 0 ≤ m) → keys_from from keys before after s t ≤ length before * m
keys_within m from keys [] after s t most = omega arith
keys_within m from keys (b ∷ bs) [] s t most = omega arith
keys_within m from keys (b ∷ bs) (a ∷ as') s t most =
    let h = keys_within m (from + 1) keys bs as' s t most in
    let w = most from in
    let more : length (b ∷ bs) * m ≡ m + length bs * m = omega arith in
    elim (nat_eq b s && nat_eq a t) as (λ c. cond c (get_or keys from 0) 0 + keys_from (from + 1) keys bs as' s t ≤ length (b ∷ bs) * m) [ true ↦ omega (arith, h, w, more) | false ↦ omega (arith, h, more) ]

read : (table : List ℕ) (p v : ℕ) → p < length table → v ≡ get_or table p v → v ≡ get_or table p 0
read table p v lt e = e ∙ get_or_default table p v 0 lt

pub slot_fits : (n : ℕ) (before after table : List ℕ) (p v : ℕ) (rest : ℕ → ℕ) → length before ≡ 16384 → p < n * n → v ≡ get_or table p v → Tallied table (n * n) rest (at_pair n (pair_slots before after)) → v + 1 < 2 ^ 32
slot_fits n before after table p v rest long lt e t =
    let inside : p < length table = omega (arith, t.width, lt) in
    let is = read table p v inside e in
    let c = t.counts p lt in
    let w = slots_within before after (p / n) (p % n) in
    omega (arith, c, w, long, is)

pub keys_fit : (n : ℕ) (keys before after table : List ℕ) (p v w : ℕ) (rest : ℕ → ℕ) → length before ≡ 16384 → ((i : ℕ) → get_or keys i 0 < 2 ^ 32) → w < 2 ^ 32 → p < n * n → v ≡ get_or table p v → Tallied table (n * n) rest (at_pair n (pair_keys keys before after)) → v + w < 2 ^ 64
keys_fit n keys before after table p v w rest long most small lt e t =
    let inside : p < length table = omega (arith, t.width, lt) in
    let is = read table p v inside e in
    let c = t.counts p lt in
    let all = keys_within (2 ^ 32) 0 keys before after (p / n) (p % n) (λ i. let h = most i in omega (arith, h)) in
    let wide : length before * 2 ^ 32 ≡ 16384 * 2 ^ 32 = ap (λ l. l * 2 ^ 32) long in
    omega (arith, c, all, wide, is)

-- ---- one slot more

pub slots_more : (n : ℕ) (before after table : List ℕ) (i x y p v : ℕ) (whole : ℕ → ℕ) → i < length before → i < length after → x ≡ get_or before i x → y ≡ get_or after i y → y < n → p ≡ x * n + y → p < n * n → v ≡ get_or table p v → Tallied table (n * n) (at_pair n (pair_slots (drop i before) (drop i after))) whole → Tallied (set table p (v + 1)) (n * n) (at_pair n (pair_slots (drop (i + 1) before) (drop (i + 1) after))) whole
slots_more n before after table i x y p v whole lb la ex ey lt at inside e t =
    let is = read table p v (omega (arith, t.width, inside)) e in
    tally_more table (n * n) (at_pair n (pair_slots (drop i before) (drop i after))) (at_pair n (pair_slots (drop (i + 1) before) (drop (i + 1) after))) whole p (v + 1) 1 inside (ap (λ m. m + 1) is) (λ k _. slots_step n before after i x y p k lb la ex ey lt at) t

pub keys_more : (n : ℕ) (keys before after table : List ℕ) (i x y p v w : ℕ) (whole : ℕ → ℕ) → i < length before → i < length after → x ≡ get_or before i x → y ≡ get_or after i y → y < n → p ≡ x * n + y → p < n * n → v ≡ get_or table p v → w ≡ get_or keys i 0 → Tallied table (n * n) (at_pair n (keys_from i keys (drop i before) (drop i after))) whole → Tallied (set table p (v + w)) (n * n) (at_pair n (keys_from (i + 1) keys (drop (i + 1) before) (drop (i + 1) after))) whole
keys_more n keys before after table i x y p v w whole lb la ex ey lt at inside e is_w t =
    let is = read table p v (omega (arith, t.width, inside)) e in
    tally_more table (n * n) (at_pair n (keys_from i keys (drop i before) (drop i after))) (at_pair n (keys_from (i + 1) keys (drop (i + 1) before) (drop (i + 1) after))) whole p (v + w) w inside (ap (λ m. m + w) is) (λ k _. keys_step n keys before after i x y p w k lb la ex ey lt at is_w) t

-- ---- the whole

within : (n s t : ℕ) → s < n → t < n → s * n + t < n * n
within n s t ls lt = grind arith

pub pairs_all : (n : ℕ) (table : List ℕ) (f rest : ℕ → ℕ → ℕ) → ((s t : ℕ) → rest s t ≡ 0) → Tallied table (n * n) (at_pair n rest) (at_pair n f) → (s t : ℕ) → s < n → t < n → get_or table (s * n + t) 0 ≡ f s t
pairs_all n table f rest none tallied s t ls lt =
    let c = tallied.counts (s * n + t) (within n s t ls lt) in
    let z = none ((s * n + t) / n) ((s * n + t) % n) in
    let first : f ((s * n + t) / n) ((s * n + t) % n) ≡ f s ((s * n + t) % n) = ap (λ a. f a ((s * n + t) % n)) (div-mul-add s n t lt) in
    let second : f s ((s * n + t) % n) ≡ f s t = ap (f s) (mod-mul-add s n t lt) in
    omega (arith, c, z, first, second)

pub no_slots : (before after : List ℕ) (i : ℕ) → length before ≤ i → (s t : ℕ) → pair_slots (drop i before) (drop i after) s t ≡ 0
no_slots before after i past s t = ap (λ os. pair_slots os (drop i after) s t) (drop_all i before past)

pub no_keys : (keys before after : List ℕ) (i : ℕ) → length before ≤ i → (s t : ℕ) → keys_from i keys (drop i before) (drop i after) s t ≡ 0
no_keys keys before after i past s t = ap (λ os. keys_from i keys os (drop i after) s t) (drop_all i before past)
