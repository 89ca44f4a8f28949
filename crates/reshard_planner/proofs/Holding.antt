-- The slots that a node holds: how many they are, whose, and that they are distinct.
use Rattle.std.proofs.Common.{◌≡◌, ◌≢◌, ℕ, zero, suc, ◌+◌, ◌<◌, ◌≤◌, Bool, true, false, cond, eqb, List, [], ◌∷◌, ◌++◌, length, get_or, set, take, replicate, sym, refl, subst, arith, inl, inr, append_assoc, length-append}
use Rattle.std.proofs.lemmas.Bool.{true≢false, cond-true, cond-false, eq-eqb, eqb-true, ne_eqb, or_cases, or_from, or_parts}
use Rattle.std.specs.List.{AllByRecursion}
use Rattle.reshard_planner.specs.Sums.{sum_below}
use Rattle.plan_semantics.specs.Plans.{among, IsDistinct}
use Rattle.reshard_planner.specs.Holding.{slots_from, slots_of, held}
use Rattle.reshard_planner.proofs.Sums.{sum_none, sum_plus, sum_single_turned}

-- ---- how many

pub length-slots_from : (from : ℕ) (owners : List ℕ) (node : ℕ) → length (slots_from from owners node) ≡ held owners node
length-slots_from from [] node = refl
length-slots_from from (o ∷ owners) node = by (eqb o node) (length-slots_from (suc from) owners node)
  where
    by : (b : Bool) → length (slots_from (suc from) owners node) ≡ held owners node
        → length (cond b (from ∷ slots_from (suc from) owners node) (slots_from (suc from) owners node))
        ≡ cond b 1 0 + held owners node
    by true e = omega arith
    by false e = omega arith

-- all slots are held by nodes
pub sum-held : (n : ℕ) (owners : List ℕ) → AllByRecursion (λ o. o < n) owners → sum_below (held owners) n ≡ length owners
sum-held n [] h = sum_none (λ i. 0) n (λ i k. refl)
sum-held n (o ∷ owners) h =
    let r : sum_below (held owners) n ≡ length owners = sum-held n owners h.1 in
    let s : sum_below (λ i. cond (eqb o i) 1 0) n ≡ 1 = sum_single_turned o n h.0 in
    let p : sum_below (λ i. cond (eqb o i) 1 0 + held owners i) n
    ≡ sum_below (λ i. cond (eqb o i) 1 0) n + sum_below (held owners) n
    = sum_plus (λ i. cond (eqb o i) 1 0) (held owners) n in omega arith

pub held-append : (xs ys : List ℕ) (node : ℕ) → held (xs ++ ys) node ≡ held xs node + held ys node
held-append [] ys node = omega arith
held-append (x ∷ xs) ys node = let e : held (xs ++ ys) node ≡ held xs node + held ys node = held-append xs ys node in omega arith

pub held-replicate_same : (k node : ℕ) → held (replicate k node) node ≡ k
held-replicate_same zero node = refl
held-replicate_same (suc k) node =
    let e : held (replicate k node) node ≡ k = held-replicate_same k node in
    let f : ◌≡◌ {A = ℕ} (cond (eqb node node) 1 0) 1 = cond-true (eqb node node) 1 0 (eq-eqb node node refl) in omega arith

pub held-replicate_other : (k owner node : ℕ) → owner ≢ node → held (replicate k owner) node ≡ 0
held-replicate_other zero owner node apart = refl
held-replicate_other (suc k) owner node apart =
    let e : held (replicate k owner) node ≡ 0 = held-replicate_other k owner node apart in
    let f : ◌≡◌ {A = ℕ} (cond (eqb owner node) 1 0) 0 = cond-false (eqb owner node) 1 0 (ne_eqb owner node apart) in omega arith

-- after one slot went to another owner
pub held-set : (owners : List ℕ) (s target node : ℕ) → s < length owners
    → held (set owners s target) node + cond (eqb (get_or owners s 0) node) 1 0
    ≡ held owners node + cond (eqb target node) 1 0
held-set [] s target node h = absurd (omega arith)
held-set (o ∷ owners) zero target node h = omega arith
held-set (o ∷ owners) (suc s) target node h =
    let e : held (set owners s target) node + cond (eqb (get_or owners s 0) node) 1 0
    ≡ held owners node + cond (eqb target node) 1 0 = held-set owners s target node (omega arith) in omega arith

-- ---- whose

get-middle : (prefix : List ℕ) (o : ℕ) (rest : List ℕ) → get_or (prefix ++ o ∷ rest) (length prefix) 0 ≡ o
get-middle [] o rest = refl
get-middle (x ∷ prefix) o rest = get-middle prefix o rest

abbrev pub IsSlotOf : List ℕ → ℕ → ℕ → Type 0
IsSlotOf owners node s = (s < length owners) × (get_or owners s 0 ≡ node)

slots_are_from : (prefix owners : List ℕ) (node : ℕ)
    → AllByRecursion (IsSlotOf (prefix ++ owners) node) (slots_from (length prefix) owners node)
slots_are_from prefix [] node = tt
slots_are_from prefix (o ∷ owners) node = by (eqb o node) refl (slots_are_from (prefix ++ o ∷ []) owners node)
  where
    longer : length (prefix ++ o ∷ []) ≡ suc (length prefix)
    longer = let e = length-append prefix (o ∷ []) in omega arith

    here : IsSlotOf (prefix ++ o ∷ owners) o (length prefix)
    here = ((let e = length-append prefix (o ∷ owners) in omega arith), get-middle prefix o owners)

    by : (b : Bool) → eqb o node ≡ b
        → AllByRecursion (IsSlotOf ((prefix ++ o ∷ []) ++ owners) node) (slots_from (length (prefix ++ o ∷ [])) owners node)
        → AllByRecursion (IsSlotOf (prefix ++ o ∷ owners) node)
        (cond b (length prefix ∷ slots_from (suc (length prefix)) owners node) (slots_from (suc (length prefix)) owners node))
    by b e r = then b e (subst
        (λ k. AllByRecursion (IsSlotOf (prefix ++ o ∷ owners) node) (slots_from k owners node)) longer
        (subst (λ l. AllByRecursion (IsSlotOf l node) (slots_from (length (prefix ++ o ∷ [])) owners node))
        (append_assoc prefix (o ∷ []) owners) r))
      where
        then : (b : Bool) → eqb o node ≡ b
            → AllByRecursion (IsSlotOf (prefix ++ o ∷ owners) node) (slots_from (suc (length prefix)) owners node)
            → AllByRecursion (IsSlotOf (prefix ++ o ∷ owners) node)
            (cond b (length prefix ∷ slots_from (suc (length prefix)) owners node) (slots_from (suc (length prefix)) owners node))
        then true e later =
            (subst (λ m. IsSlotOf (prefix ++ o ∷ owners) m (length prefix)) (eqb-true o node e) here, later)
        then false e later = later

pub slots_are : (owners : List ℕ) (node : ℕ) → AllByRecursion (IsSlotOf owners node) (slots_of owners node)
slots_are owners node = slots_are_from [] owners node

-- ---- distinct

slots_low : (from low : ℕ) (owners : List ℕ) (node : ℕ) → low ≤ from
    → AllByRecursion (λ s. low ≤ s) (slots_from from owners node)
slots_low from low [] node h = tt
slots_low from low (o ∷ owners) node h = by (eqb o node) (slots_low (suc from) low owners node (omega arith))
  where
    by : (b : Bool) → AllByRecursion (λ s. low ≤ s) (slots_from (suc from) owners node)
        → AllByRecursion (λ s. low ≤ s) (cond b (from ∷ slots_from (suc from) owners node) (slots_from (suc from) owners node))
    by true r = (h, r)
    by false r = r

pub not_among : (x : ℕ) (xs : List ℕ) → AllByRecursion (λ y. x ≢ y) xs → among x xs ≡ false
not_among x [] h = refl
not_among x (y ∷ xs) h = or_from (eqb x y) (among x xs) (ne_eqb x y h.0) (not_among x xs h.1)

pub all_of : (P : ℕ → Type 0) (x : ℕ) (xs : List ℕ) → AllByRecursion P xs → among x xs ≡ true → P x
all_of P x [] h e = absurd (true≢false (sym e))
all_of P x (y ∷ xs) h e = elim (or_cases (eqb x y) (among x xs) e) [
  | inl here ↦ subst P (sym (eqb-true x y here)) h.0
  | inr later ↦ all_of P x xs h.1 later
]

pub all_map : {A : Type 0} (P Q : A → Type 0) → ((x : A) → P x → Q x) → (xs : List A) → AllByRecursion P xs → AllByRecursion Q xs
all_map P Q f [] h = tt
all_map P Q f (x ∷ xs) h = (f x h.0, all_map P Q f xs h.1)

pub slots_distinct_from : (from : ℕ) (owners : List ℕ) (node : ℕ) → IsDistinct (slots_from from owners node)
slots_distinct_from from [] node = tt
slots_distinct_from from (o ∷ owners) node = by (eqb o node) (slots_distinct_from (suc from) owners node)
  where
    apart : (from s : ℕ) → suc from ≤ s → from ≢ s
    apart from s h e = omega arith

    by : (b : Bool) → IsDistinct (slots_from (suc from) owners node)
        → IsDistinct (cond b (from ∷ slots_from (suc from) owners node) (slots_from (suc from) owners node))
    by true r = (
      not_among from (slots_from (suc from) owners node)
          (all_map (λ s. suc from ≤ s) (λ s. from ≢ s) (λ s h. apart from s h) (slots_from (suc from) owners node)
          (slots_low (suc from) (suc from) owners node (omega arith))),
      r,
    )
    by false r = r

pub slots_distinct : (owners : List ℕ) (node : ℕ) → IsDistinct (slots_of owners node)
slots_distinct owners node = slots_distinct_from 0 owners node

-- ---- the first of them

pub all_first : {A : Type 0} (P : A → Type 0) (k : ℕ) (xs : List A) → AllByRecursion P xs → AllByRecursion P (take k xs)
all_first P zero xs h = tt
all_first P (suc k) [] h = tt
all_first P (suc k) (x ∷ xs) h = (h.0, all_first P k xs h.1)

among_first : (x k : ℕ) (xs : List ℕ) → among x xs ≡ false → among x (take k xs) ≡ false
among_first x zero xs e = refl
among_first x (suc k) [] e = refl
among_first x (suc k) (y ∷ xs) e =
    let p = or_parts (eqb x y) (among x xs) e in or_from (eqb x y) (among x (take k xs)) p.0 (among_first x k xs p.1)

pub distinct_first : (k : ℕ) (xs : List ℕ) → IsDistinct xs → IsDistinct (take k xs)
distinct_first zero xs h = tt
distinct_first (suc k) [] h = tt
distinct_first (suc k) (x ∷ xs) h = (among_first x k xs h.0, distinct_first k xs h.1)

pub length_first : {A : Type 0} (k : ℕ) (xs : List A) → k ≤ length xs → length (take k xs) ≡ k
length_first zero xs h = refl
length_first (suc k) [] h = absurd (omega arith)
length_first (suc k) (x ∷ xs) h = let e : length (take k xs) ≡ k = length_first k xs (omega arith) in omega arith

-- ---- joined

pub all-append : {A : Type 0} (P : A → Type 0) (xs ys : List A) → AllByRecursion P xs → AllByRecursion P ys → AllByRecursion P (xs ++ ys)
all-append P [] ys h g = g
all-append P (x ∷ xs) ys h g = (h.0, all-append P xs ys h.1 g)

pub among-append : (x : ℕ) (xs ys : List ℕ) → among x xs ≡ false → among x ys ≡ false → among x (xs ++ ys) ≡ false
among-append x [] ys e f = f
among-append x (y ∷ xs) ys e f =
    let p = or_parts (eqb x y) (among x xs) e in or_from (eqb x y) (among x (xs ++ ys)) p.0 (among-append x xs ys p.1 f)

pub distinct-append : (xs ys : List ℕ) → IsDistinct xs → IsDistinct ys → AllByRecursion (λ x. among x ys ≡ false) xs → IsDistinct (xs ++ ys)
distinct-append [] ys h g apart = g
distinct-append (x ∷ xs) ys h g apart = (among-append x xs ys h.0 apart.0, distinct-append xs ys h.1 g apart.1)
