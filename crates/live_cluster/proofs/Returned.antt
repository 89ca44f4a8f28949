-- Seats that come back for the first time are different ones, and below the number of those that were given.
use Rattle.std.proofs.Common.{◌≡◌, ◌≢◌, ◌⊎◌, ℕ, zero, suc, ◌+◌, ◌-◌, ◌<◌, ◌≤◌, ◌==◌, ◌||◌, List, [], ◌∷◌, ◌++◌, map, length, get_or, Bool, true, false, inl, inr, eqb, eqb-true, eq-eqb, refl, sym, ap, subst, ◌∙◌, arith}
use Rattle.std.proofs.lemmas.Bool.{true≢false}
use Rattle.std.proofs.lemmas.List.{length-map}
use Rattle.std.proofs.lemmas.Map.Keys.{IsDistinct-cons}
use Rattle.std.proofs.lemmas.Map.Steps.{length-le_from_distinct_below}
use Rattle.std.specs.List.{All, AllByRecursion, IsDistinct}
use native.Mathlib.Decide.{ℕ_discrete, dec_le}
use Rattle.cluster_world.specs.declared.event.Event.{Event}
use Rattle.cluster_world.specs.declared.event.Event.TheVariants.{Client, Look, Admin}
use Rattle.shared_trail.specs.Trails.{among}
use Rattle.live_cluster.specs.Fresh.{fresh_from}
use Rattle.live_cluster.specs.Returns.{back_after, AreFirst, IsBelow, IsOfOne, numbers_of, TrailsAreTheirLists}

-- ---- one more

pub back_push : (ns : List ℕ) (n : ℕ) (back : List ℕ) → back_after (ns ++ n ∷ []) back ≡ n ∷ back_after ns back
back_push [] n back = refl
back_push (m ∷ ns) n back = back_push ns n (m ∷ back)

pub first_push : (ns : List ℕ) (n : ℕ) (back : List ℕ) → AreFirst ns back → among n (back_after ns back) ≡ false → AreFirst (ns ++ n ∷ []) back
first_push [] n back h new = (new, tt)
first_push (m ∷ ns) n back h new = (h.0, first_push ns n (m ∷ back) h.1 new)

pub numbers_push : (xs : List (ℕ × List Event)) (x : ℕ × List Event) → numbers_of (xs ++ x ∷ []) ≡ numbers_of xs ++ x.0 ∷ []
numbers_push [] x = refl
numbers_push (y ∷ xs) x = ap (λ l. y.0 ∷ l) (numbers_push xs x)

-- ---- what is first is apart

or_false : (a b : Bool) → (a || b) ≡ false → (a ≡ false) × (b ≡ false)
or_false true b e = absurd (true≢false e)
or_false false b e = (refl, e)

or_true : (a b : Bool) → b ≡ true → (a || b) ≡ true
or_true true b e = refl
or_true false b e = e

pub first_apart : (ns back : List ℕ) → AreFirst ns back → (k : ℕ) → among k ns ≡ true → among k back ≡ false
first_apart [] back h k e = absurd (true≢false (sym e))
first_apart (n ∷ ns) back h k e = by (k == n) refl (first_apart ns (n ∷ back) h.1 k)
  where
    by : (b : Bool) → (k == n) ≡ b → (among k ns ≡ true → among k (n ∷ back) ≡ false) → among k back ≡ false
    by true same more = subst (λ m. among m back ≡ false) (sym (eqb-true k n same)) h.0
    by false ne more = (or_false (k == n) (among k back) (more (ap (λ (x : Bool). x || among k ns) (sym ne) ∙ e))).1

apart_all : (n : ℕ) (ns : List ℕ) → among n ns ≡ false → AllByRecursion (λ y. eqb n y ≡ false) ns
apart_all n [] e = tt
apart_all n (m ∷ ns) e = let p = or_false (n == m) (among n ns) e in (p.0, apart_all n ns p.1)

pub first_distinct : (ns back : List ℕ) → AreFirst ns back → IsDistinct eqb ns
unfolding IsDistinct
first_distinct [] back h = tt
first_distinct (n ∷ ns) back h = IsDistinct-cons eqb n ns (apart_all n ns (by (among n ns) refl)) (first_distinct ns (n ∷ back) h.1)
  where
    by : (b : Bool) → among n ns ≡ b → among n ns ≡ false
    by true e = absurd (true≢false (sym (eq-eqb n n refl) ∙ (or_false (n == n) (among n back) (first_apart ns (n ∷ back) h.1 n e)).0))
    by false e = e

-- ---- what was not given came back first

back_keeps : (ns back : List ℕ) (k : ℕ) → among k back ≡ true → among k (back_after ns back) ≡ true
back_keeps [] back k e = e
back_keeps (n ∷ ns) back k e = back_keeps ns (n ∷ back) k (or_true (k == n) (among k back) e)

fresh_back : (k n j : ℕ) (back : List ℕ) → k ≤ j → j < k + n → among j (back_after (numbers_of (fresh_from k n)) back) ≡ true
fresh_back k zero j back from to = absurd (omega arith)
fresh_back k (suc n) j back from to = cases (ℕ_discrete j k) (fresh_back (suc k) n j (k ∷ back))
  where
    cases : Dec (j ≡ k) → (suc k ≤ j → j < suc k + n → among j (back_after (numbers_of (fresh_from k (suc n))) back) ≡ true) → among j (back_after (numbers_of (fresh_from k (suc n))) back) ≡ true
    cases (yes e) more = back_keeps (numbers_of (fresh_from (suc k) n)) (k ∷ back) j (ap (λ (x : Bool). x || among j back) (eq-eqb j k e))
    cases (no ne) more = more (omega arith) (omega arith)

among_at : (xs : List (ℕ × List Event)) (i : ℕ) (d : ℕ × List Event) → i < length xs → among (get_or xs i d).0 (numbers_of xs) ≡ true
among_at [] i d low = absurd (omega arith)
among_at (x ∷ xs) zero d low = ap (λ (b : Bool). b || among x.0 (numbers_of xs)) (eq-eqb x.0 x.0 refl)
among_at (x ∷ xs) (suc i) d low = or_true ((get_or xs i d).0 == x.0) (among (get_or xs i d).0 (numbers_of xs)) (among_at xs i d (omega arith))

pub given_below : (given : ℕ) (left xs : List (ℕ × List Event)) (back : List ℕ) → left ≡ fresh_from given (32 - given)
    → AreFirst (numbers_of xs) (back_after (numbers_of left) back) → All (λ s. s.0 < 32) xs → All (λ s. s.0 < given) xs
given_below given left xs back is first small i d low = cases (dec_le given (get_or xs i d).0)
  where
    n : ℕ
    n = (get_or xs i d).0

    away : among n (back_after (numbers_of left) back) ≡ false
    away = first_apart (numbers_of xs) (back_after (numbers_of left) back) first n (among_at xs i d low)

    there : given ≤ n → among n (back_after (numbers_of left) back) ≡ true
    there from = ap (λ l. among n (back_after (numbers_of l) back)) is ∙ fresh_back given (32 - given) n back from (omega (arith, small i d low))

    cases : Dec (given ≤ n) → n < given
    cases (yes from) = absurd (true≢false (sym (there from) ∙ away))
    cases (no h) = omega arith

-- ---- so many different numbers below a number are all numbers below it

every_below : (ns : List ℕ) (g : ℕ) → IsDistinct eqb ns → ((q : ℕ) → among q ns ≡ true → q < g) → length ns ≡ g → (k : ℕ) → k < g → among k ns ≡ true
every_below ns g apart below len k low = by (among k ns) refl
  where
    more : (q : ℕ) → among q (k ∷ ns) ≡ true → q < g
    more q e = cases (q == k) refl
      where
        cases : (b : Bool) → (q == k) ≡ b → q < g
        cases true same = subst (λ m. m < g) (sym (eqb-true q k same)) low
        cases false ne = below q (ap (λ (x : Bool). x || among q ns) (sym ne) ∙ e)

    by : (b : Bool) → among k ns ≡ b → among k ns ≡ true
    by true e = e
    by false e = absurd (omega (arith, length-le_from_distinct_below (k ∷ ns) g (IsDistinct-cons eqb k ns (apart_all k ns e) apart) more, len))

below_all : (xs : List (ℕ × List Event)) (g : ℕ) → All (λ s. s.0 < g) xs → (q : ℕ) → among q (numbers_of xs) ≡ true → q < g
below_all [] g all q e = absurd (true≢false (sym e))
below_all (x ∷ xs) g all q e = cases (q == x.0) refl (below_all xs g (λ i d h. all (suc i) d (omega arith)) q)
  where
    cases : (b : Bool) → (q == x.0) ≡ b → (among q (numbers_of xs) ≡ true → q < g) → q < g
    cases true same more = subst (λ m. m < g) (sym (eqb-true q x.0 same)) (all 0 x (omega arith))
    cases false ne more = more (ap (λ (b : Bool). b || among q (numbers_of xs)) (sym ne) ∙ e)

pub trails_are_their_lists : TrailsAreTheirLists
trails_are_their_lists events given seats handed all i d low = of_one (get_or events i d) (handed.callers i d low)
  where
    there : (seat : ℕ) → seat < given → among seat (numbers_of seats) ≡ true
    there seat h =
        every_below (numbers_of seats) given handed.apart (below_all seats given handed.numbered)
        (length-map seats (λ s. s.0) ∙ all) seat h

    of_one : (e : Event) → IsBelow given e → IsOfOne (numbers_of seats) e
    of_one (Client seat n asking c reply) below = there seat below
    of_one (Look seat n reply) below = there seat below
    of_one (Admin n c reply) below = tt
