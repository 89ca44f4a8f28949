-- The runs stand apart, and have the marked slots.
use Rattle.std.proofs.Common.{◌≡◌, ◌≢◌, ℕ, zero, suc, ◌+◌, ◌<◌, ◌≤◌, Bool, true, false, cond, ◌&&◌, ◌||◌, inl, inr, List, [], ◌∷◌, eqb, get_or, leb, length, eq-eqb, ap, refl, sym, subst, ◌∙◌, arith}
use Rattle.std.proofs.lemmas.Bool.{cases_eq, cases_lt}
use Rattle.std.proofs.lemmas.Bool.Decides.{nat_tests}
use Rattle.plan_outlines.specs.declared.ranges.SlotRun.{SlotRun}
use Rattle.plan_changes.specs.Runs.{RunsAreOfMarks, StandApart, is_in, is_within, run_in_front, runs_from, with_mark}

weaker : (from end : ℕ) (rs : List SlotRun) → StandApart (from + 1) end rs → StandApart from end rs
weaker from end [] h = tt
weaker from end (r ∷ rs) h = (omega (arith, h.0), h.1, h.2, h.3)

front_apart : (f end : ℕ) (rs : List SlotRun) → f < end → StandApart (f + 1) end rs → StandApart f end (run_in_front f rs)
front_apart f end [] lt h = (omega arith, omega arith, lt, tt)
front_apart f end (r ∷ rs) lt h =
    elim (eqb r.first (f + 1)) as (λ b. eqb r.first (f + 1) ≡ b → StandApart f end (cond b (record r { first = f } ∷ rs) (record { first = f; last = f } ∷ (r ∷ rs)))) [
      | true ↦ λ e. (omega arith, omega (arith, h.0, h.1), h.2, h.3)
      | false ↦ λ e. (omega arith, omega arith, lt, (further e, h.1, h.2, h.3))
    ] refl
  where
    further : eqb r.first (f + 1) ≡ false → f + 2 ≤ r.first
    further e = let low : f + 1 ≤ r.first = h.0 in grind (arith, nat_tests)

marked_apart : (mark : Bool) (f end : ℕ) (rs : List SlotRun) → f < end → StandApart (f + 1) end rs → StandApart f end (with_mark f mark rs)
marked_apart false f end rs lt h = weaker f end rs h
marked_apart true f end rs lt h = front_apart f end rs lt h

all_apart : (from : ℕ) (marks : List Bool) → StandApart from (from + length marks) (runs_from from marks)
all_apart from [] = tt
all_apart from (m ∷ ms) =
    let same : (from + 1) + length ms ≡ from + length (m ∷ ms) = omega arith in
    marked_apart m from (from + length (m ∷ ms)) (runs_from (from + 1) ms) (omega arith)
    (subst (λ end. StandApart (from + 1) end (runs_from (from + 1) ms)) same (all_apart (from + 1) ms))

-- ---- the slots of the runs

is_low : (s f l : ℕ) → s < f → (leb f s && leb s l) ≡ false
is_low s f l lt = let h : leb f s ≡ false = grind (arith, nat_tests) in ap (λ b. b && leb s l) h

or_false : (a b : Bool) → a ≡ false → b ≡ false → (a || b) ≡ false
or_false a b e f = ap (λ c. c || b) e ∙ f

none_below : (s from end : ℕ) (rs : List SlotRun) → s < from → StandApart from end rs → is_in s rs ≡ false
none_below s from end [] lt h = refl
none_below s from end (r ∷ rs) lt h =
    or_false (is_within s r) (is_in s rs) (is_low s r.first r.last (omega (arith, h.0, lt)))
    (none_below s (r.last + 2) end rs (omega (arith, h.0, h.1, lt)) h.3)

alone : (s f : ℕ) → (leb f s && leb s f) ≡ eqb s f
alone s f = elim (cases_eq s f) [ inl e ↦ grind (arith, nat_tests) | inr ne ↦ elim (cases_lt s f) [ inl lt ↦ grind (arith, nat_tests) | inr le ↦ grind (arith, nat_tests) ] ]

is_le : (a b : ℕ) → a ≤ b → leb a b ≡ true
is_le a b le = grind (arith, nat_tests)

not_le : (a b : ℕ) → b < a → leb a b ≡ false
not_le a b lt = grind (arith, nat_tests)

not_same : (a b : ℕ) → a ≢ b → eqb a b ≡ false
not_same a b ne = grind (arith, nat_tests)

of_tests : (p q t u p' q' t' u' : Bool) → p ≡ p' → q ≡ q' → t ≡ t' → u ≡ u' → (p' && q') ≡ (t' || (u' && q')) → (p && q) ≡ (t || (u && q))
of_tests p q t u p' q' t' u' ep eq et eu h =
    ap (λ b. b && q) ep ∙ ap (λ b. p' && b) eq ∙ h
    ∙ sym (ap (λ b. b || (u && q)) et ∙ ap (λ b. t' || (b && q)) eu ∙ ap (λ b. t' || (u' && b)) eq)

joined : (s f g l : ℕ) → g ≡ f + 1 → g ≤ l → (leb f s && leb s l) ≡ (eqb s f || (leb g s && leb s l))
joined s f g l e le =
    elim (cases_eq s f) [
      | inl q ↦
          of_tests (leb f s) (leb s l) (eqb s f) (leb g s) true true true false (is_le f s (omega (arith, q))) (is_le s l (omega (arith, q, e, le))) (eq-eqb s f q) (not_le g s (omega (arith, q, e))) refl
      | inr ne ↦
          elim (cases_lt s f) [
            | inl lt ↦
                of_tests (leb f s) (leb s l) (eqb s f) (leb g s) false (leb s l) false false (not_le f s lt) refl (not_same s f ne) (not_le g s (omega (arith, lt, e))) refl
            | inr high ↦
                of_tests (leb f s) (leb s l) (eqb s f) (leb g s) true (leb s l) false true (is_le f s high) refl (not_same s f ne) (is_le g s (omega (arith, high, ne, e))) refl
          ]
    ]

or_moved : (a b c : Bool) → ((a || b) || c) ≡ (a || (b || c))
or_moved true b c = refl
or_moved false b c = refl

front_in : (s f end : ℕ) (rs : List SlotRun) → StandApart (f + 1) end rs → is_in s (run_in_front f rs) ≡ (eqb s f || is_in s rs)
front_in s f end [] h = ap (λ b. b || false) (alone s f)
front_in s f end (r ∷ rs) h =
    elim (eqb r.first (f + 1)) as (λ b. eqb r.first (f + 1) ≡ b → is_in s (cond b (record r { first = f } ∷ rs) (record { first = f; last = f } ∷ (r ∷ rs))) ≡ (eqb s f || is_in s (r ∷ rs))) [
      | true ↦ λ e. ap (λ b. b || is_in s rs) (joined s f r.first r.last (next e) h.1) ∙ or_moved (eqb s f) (is_within s r) (is_in s rs)
      | false ↦ λ e. ap (λ b. b || is_in s (r ∷ rs)) (alone s f)
    ] refl
  where
    next : eqb r.first (f + 1) ≡ true → r.first ≡ f + 1
    next e = grind (arith, nat_tests)

first_in : (mark : Bool) (s f end : ℕ) (rs : List SlotRun) → s ≡ f → StandApart (f + 1) end rs → is_in s (with_mark f mark rs) ≡ mark
first_in false s f end rs e h = none_below s (f + 1) end rs (omega (arith, e)) h
first_in true s f end rs e h =
    let here : eqb s f ≡ true = grind (arith, nat_tests) in
    front_in s f end rs h ∙ ap (λ b. b || is_in s rs) here

later_in : (mark : Bool) (s f end : ℕ) (rs : List SlotRun) → f < s → StandApart (f + 1) end rs → is_in s (with_mark f mark rs) ≡ is_in s rs
later_in false s f end rs lt h = refl
later_in true s f end rs lt h =
    let other : eqb s f ≡ false = grind (arith, nat_tests) in
    front_in s f end rs h ∙ ap (λ b. b || is_in s rs) other

all_in : (from : ℕ) (marks : List Bool) (i s : ℕ) → s ≡ from + i → is_in s (runs_from from marks) ≡ get_or marks i false
all_in from [] i s e = refl
all_in from (m ∷ ms) zero s e =
    first_in m s from ((from + 1) + length ms) (runs_from (from + 1) ms) (omega (arith, e)) (all_apart (from + 1) ms)
all_in from (m ∷ ms) (suc i) s e =
    later_in m s from ((from + 1) + length ms) (runs_from (from + 1) ms) (omega (arith, e)) (all_apart (from + 1) ms)
    ∙ all_in (from + 1) ms i s (omega (arith, e))

zero_add : (i : ℕ) → 0 + i ≡ i
zero_add i = omega arith

pub are_of_marks : RunsAreOfMarks
are_of_marks marks = record {
  apart = subst (λ end. StandApart 0 end (runs_from 0 marks)) (zero_add (length marks)) (all_apart 0 marks);
  marked = λ s. all_in 0 marks s s (sym (zero_add s));
}
