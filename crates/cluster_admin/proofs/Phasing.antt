-- The phase that a slot is in, by what is seen of it.
use Rattle.std.proofs.Common.{◌≡◌, ◌≢◌, ◌⊎◌, ℕ, zero, suc, ◌<◌, ◌≤◌, Bool, true, false, cond, eqb, ◌||◌, List, [], ◌∷◌, length, Option, Some, None, arith}
use Rattle.std.proofs.Common.{sym, refl, ap, ◌∙◌, subst, inl, inr}
use Rattle.std.proofs.lemmas.Bool.{cases_Bool, cases_eq, true≢false, eqb-true, eq-eqb, ne_eqb, or_left, or_from}
use Rattle.std.specs.Prelude.{filter, is_some, not, IfSome, IfNone}
use Rattle.std.specs.List.{AllByRecursion}
use Rattle.cluster_admin.specs.Phases.{Phase, Closed, Importing, Migrating, TargetTold, SourceTold, IsDistinct, AreTwo}
use Rattle.cluster_admin.specs.Phases.{IsPhase, HasPhase, among, owner_in}
use Rattle.cluster_admin.specs.Surveys.{NoneAt, Survey, HasPhaseIn, IsBlankBeyond, numbers_below, owner_at, phase_seen}
use Rattle.cluster_admin.specs.declared.phase.Phase.{Phase as SeenPhase}
use Rattle.cluster_admin.specs.declared.phase.Phase.TheVariants as seen

-- ---- numbers that pass a test

module _ (test : ℕ → Bool) where
  abbrev pub Passes : ℕ → ℕ → Type 0
  Passes n m = (m < n) × (test m ≡ true)

  more : (n : ℕ) (ms : List ℕ) → AllByRecursion (Passes n) ms → AllByRecursion (Passes (suc n)) ms
  more n [] h = tt
  more n (m ∷ ms) h = ((omega (arith, h.0.0), h.0.1), more n ms h.1)

  pub each_passes : (n : ℕ) → AllByRecursion (Passes n) (filter test (numbers_below n))
  each_passes zero = tt
  each_passes (suc n) = by (test n) refl (each_passes n)
    where
      by : (b : Bool) → test n ≡ b → AllByRecursion (Passes n) (filter test (numbers_below n))
          → AllByRecursion (Passes (suc n)) (cond b (n ∷ filter test (numbers_below n)) (filter test (numbers_below n)))
      by true e all = ((omega arith, e), more n (filter test (numbers_below n)) all)
      by false e all = more n (filter test (numbers_below n)) all

  -- none of the list is this number
  not_among : (n m : ℕ) (ms : List ℕ) → n ≤ m → AllByRecursion (Passes n) ms → among m ms ≡ false
  not_among n m [] h all = refl
  not_among n m (k ∷ ms) h all =
      let apart : m ≢ k = λ e. omega (arith, h, all.0.0, e) in
      or_from (eqb m k) (among m ms) (ne_eqb m k apart) (not_among n m ms h all.1)

  pub passing_distinct : (n : ℕ) → IsDistinct (filter test (numbers_below n))
  passing_distinct zero = tt
  passing_distinct (suc n) = by (test n) (passing_distinct n)
    where
      by : (b : Bool) → IsDistinct (filter test (numbers_below n))
          → IsDistinct (cond b (n ∷ filter test (numbers_below n)) (filter test (numbers_below n)))
      by true all = (not_among n n (filter test (numbers_below n)) (omega arith) (each_passes n), all)
      by false all = all

  -- a number below is in the list exactly where it passes
  pub among_passing : (n m : ℕ) → m < n → among m (filter test (numbers_below n)) ≡ test m
  among_passing zero m h = absurd (omega (arith, h))
  among_passing (suc n) m h = elim (cases_eq m n) [
    | inl e ↦ subst (λ k. among k (filter test (numbers_below (suc n))) ≡ test k) (sym e) (at (test n) refl)
    | inr e ↦ below e (test n) ∙ among_passing n m (omega (arith, h, e))
  ]
    where
      at : (b : Bool) → test n ≡ b → among n (cond b (n ∷ filter test (numbers_below n)) (filter test (numbers_below n))) ≡ test n
      at true e = or_left (eqb n n) (among n (filter test (numbers_below n))) (eq-eqb n n refl) ∙ sym e
      at false e = not_among n n (filter test (numbers_below n)) (omega arith) (each_passes n) ∙ sym e

      below : m ≢ n → (b : Bool) → among m (cond b (n ∷ filter test (numbers_below n)) (filter test (numbers_below n))) ≡ among m (filter test (numbers_below n))
      below apart true = ap (λ c. c || among m (filter test (numbers_below n))) (ne_eqb m n apart)
      below apart false = refl

none_among : (m : ℕ) {A : Type 0} → among m [] ≡ true → A
none_among m e = absurd (true≢false (sym e))

some_there : (m : ℕ) (ms : List ℕ) → among m ms ≡ true → ms ≢ []
some_there m ms h e = none_among m (sym (ap (among m) e) ∙ h)

not_named : (k : ℕ) {P : ℕ → Type 0} (ms : List ℕ) → ((m : ℕ) → P m → k ≢ m) → AllByRecursion P ms → among k ms ≡ false
not_named k [] apart all = refl
not_named k (m ∷ ms) apart all = or_from (eqb k m) (among k ms) (ne_eqb k m (apart m all.0)) (not_named k ms apart all.1)

some_same : (x y : ℕ) → Some x ≡ Some y → x ≡ y
some_same x y e = cc

-- a mark that one node has
one_mark : (m k v t : ℕ) → cond (eqb m k) (Some v) None ≡ Some t → (m ≡ k) × (v ≡ t)
one_mark m k v t = by (eqb m k) refl
  where
    by : (b : Bool) → eqb m k ≡ b → cond b (Some v) None ≡ Some t → (m ≡ k) × (v ≡ t)
    by true e p = (eqb-true m k e, some_same v t p)
    by false e p = cc

mark_here : (k v : ℕ) → cond (eqb k k) (Some v) None ≡ Some v
mark_here k v = ap (λ b. cond b (Some v) None) (eq-eqb k k refl)

no_mark : (v : ℕ) {A : Type 0} (o : Option ℕ) → o ≡ Some v → o ≡ None → A
no_mark v o e n = let f : Some v ≡ None = sym e ∙ n in absurd (cc)

module _ (n : ℕ) (own : ℕ → ℕ) (goes comes : ℕ → Option ℕ) where
  abbrev pub Is : Phase → Type 0
  Is p = HasPhase n own goes comes p

  -- the nodes that still say the source
  abbrev pub saying : ℕ → List ℕ
  saying s = filter (λ m. eqb (own m) s) (numbers_below n)

  -- a node that migrates the slot is the source of one of two phases
  migrates : (p : Phase) (m t : ℕ) → Is p → m < n → goes m ≡ Some t → (p ≡ Migrating m t) ⊎ (p ≡ TargetTold m t)
  migrates (Closed o) m t h l e = no_mark t (goes m) e (h.going m l)
  migrates (Importing s u) m t h l e = no_mark t (goes m) e (h.going m l)
  migrates (Migrating s u) m t h l e = let q = one_mark m s u t (sym (h.going m l) ∙ e) in inl (λ i. Migrating (sym q.0 i) (q.1 i))
  migrates (TargetTold s u) m t h l e = let q = one_mark m s u t (sym (h.going m l) ∙ e) in inr (λ i. TargetTold (sym q.0 i) (q.1 i))
  migrates (SourceTold s u left) m t h l e = no_mark t (goes m) e (h.going m l)

  -- a node that imports it is the target of one of two
  imports : (p : Phase) (m s : ℕ) → Is p → m < n → comes m ≡ Some s → (p ≡ Importing s m) ⊎ (p ≡ Migrating s m)
  imports (Closed o) m t h l e = no_mark t (comes m) e (h.coming m l)
  imports (Importing s u) m t h l e = let q = one_mark m u s t (sym (h.coming m l) ∙ e) in inl (λ i. Importing (q.1 i) (sym q.0 i))
  imports (Migrating s u) m t h l e = let q = one_mark m u s t (sym (h.coming m l) ∙ e) in inr (λ i. Migrating (q.1 i) (sym q.0 i))
  imports (TargetTold s u) m t h l e = no_mark t (comes m) e (h.coming m l)
  imports (SourceTold s u left) m t h l e = no_mark t (comes m) e (h.coming m l)

  source_goes : (s t : ℕ) → Is (Migrating s t) → goes s ≡ Some t
  source_goes s t h = h.going s h.fine.source_below ∙ mark_here s t

  target_comes : (s t : ℕ) → Is (Migrating s t) → comes t ≡ Some s
  target_comes s t h = h.coming t h.fine.target_below ∙ mark_here t s

  pub likely_importing : (p : Phase) (m s : ℕ) → Is p → NoneAt n goes → m < n → comes m ≡ Some s → Is (Importing s m)
  likely_importing p m s h none l e = elim (imports p m s h l e) [
    | inl q ↦ subst Is q h
    | inr q ↦ (let g : Is (Migrating s m) = subst Is q h in no_mark m (goes s) (source_goes s m g) (none s g.fine.source_below))
  ]

  pub likely_told : (p : Phase) (m t : ℕ) → Is p → m < n → goes m ≡ Some t → NoneAt n comes → Is (TargetTold m t)
  likely_told p m t h l e none = elim (migrates p m t h l e) [
    | inl q ↦ (let g : Is (Migrating m t) = subst Is q h in no_mark m (comes t) (target_comes m t g) (none t g.fine.target_below))
    | inr q ↦ subst Is q h
  ]

  pub likely_migrating : (p : Phase) (m t k s : ℕ) → Is p → m < n → goes m ≡ Some t → k < n → comes k ≡ Some s → Is (Migrating m t)
  likely_migrating p m t k s h l e l' e' = elim (migrates p m t h l e) [
    | inl q ↦ subst Is q h
    | inr q ↦ (let g : Is (TargetTold m t) = subst Is q h in no_mark s (comes k) e' (g.coming k l'))
  ]

  -- ---- without marks

  -- who is told says the target
  told_says : (s t : ℕ) (left : List ℕ) (m : ℕ) → Is (SourceTold s t left) → m < n → among m left ≡ false → own m ≡ t
  told_says s t left m h l e = h.owners m l ∙ ap (λ b. cond b s t) e

  source_told : (s t : ℕ) (left : List ℕ) → Is (SourceTold s t left) → own s ≡ t
  source_told s t left h = told_says s t left s h h.fine.0.source_below
      (not_named s left (λ m p e. p.1 (sym e)) h.fine.1.each_other)

  target_told : (s t : ℕ) (left : List ℕ) → Is (SourceTold s t left) → own t ≡ t
  target_told s t left h = told_says s t left t h h.fine.0.target_below
      (not_named t left (λ m p e. p.2 (sym e)) h.fine.1.each_other)

  -- each says the one or the other
  one_of : (s t : ℕ) (left : List ℕ) (m : ℕ) → Is (SourceTold s t left) → m < n → (own m ≡ s) ⊎ (own m ≡ t)
  one_of s t left m h l = elim (cases_Bool (among m left)) [
    | inl e ↦ inl (h.owners m l ∙ ap (λ b. cond b s t) e)
    | inr e ↦ inr (told_says s t left m h l e)
  ]

  -- what the owner that a node says says itself
  pub said_twice : (p : Phase) (t : ℕ) → Is p → NoneAt n goes → NoneAt n comes → 0 < n → t ≡ own (own 0)
      → (p ≡ Closed t) ⊎ ((s : ℕ) × (left : List ℕ) × (p ≡ SourceTold s t left))
  said_twice (Closed o) t h g c l e =
      inl (ap (λ x. Closed x) (sym (e ∙ ap own (h.owners 0 l) ∙ h.owners o h.fine)))
  said_twice (Importing s u) t h g c l e = no_mark s (comes u) (h.coming u h.fine.target_below ∙ mark_here u s) (c u h.fine.target_below)
  said_twice (Migrating s u) t h g c l e = no_mark u (goes s) (source_goes s u h) (g s h.fine.source_below)
  said_twice (TargetTold s u) t h g c l e = no_mark u (goes s) (h.going s h.fine.source_below ∙ mark_here s u) (g s h.fine.source_below)
  said_twice (SourceTold s u left) t h g c l e = inr (s, left, λ i. SourceTold s (sym (e ∙ twice) i) left)
    where
      twice : own (own 0) ≡ u
      twice = elim (one_of s u left 0 h l) [
        | inl q ↦ ap own q ∙ source_told s u left h
        | inr q ↦ ap own q ∙ target_told s u left h
      ]

  -- some node still says the source
  still_said : (s t : ℕ) (left : List ℕ) → Is (SourceTold s t left) → (m : ℕ) × (m < n) × (own m ≡ s)
  still_said s t [] h = absurd (h.fine.2 refl)
  still_said s t (m ∷ left) h =
      let l : m < n = h.fine.1.each_other.0.0 in
      (m, l, h.owners m l ∙ ap (λ b. cond b s t) (or_left (eqb m m) (among m left) (eq-eqb m m refl)))

  pub likely_closed : (p : Phase) (t : ℕ) → Is p → NoneAt n goes → NoneAt n comes → 0 < n → t ≡ own (own 0)
      → ((m : ℕ) → m < n → own m ≡ t) → Is (Closed t)
  likely_closed p t h g c l e all = elim (said_twice p t h g c l e) [
    | inl q ↦ subst Is q h
    | inr q ↦ (let k : Is (SourceTold q.0 t q.1) = subst Is q.2 h in
        let m = still_said q.0 t q.1 k in absurd (k.fine.0.apart (sym m.2 ∙ all m.0 m.1)))
  ]

  -- the same, with all nodes that say the source in their order
  in_order : (s t : ℕ) (left : List ℕ) → Is (SourceTold s t left) → Is (SourceTold s t (saying s))
  in_order s t left h = record {
    fine = (h.fine.0, record { each_other = others (saying s) (each_passes (λ m. eqb (own m) s) n); distinct = passing_distinct (λ m. eqb (own m) s) n }, some);
    owners = λ m l. says m l ∙ ap (λ b. cond b s t) (sym (among_passing (λ k. eqb (own k) s) n m l));
    going = λ m l. h.going m l;
    coming = λ m l. h.coming m l;
  }
    where
      others : (ms : List ℕ) → AllByRecursion (Passes (λ m. eqb (own m) s) n) ms
          → AllByRecursion (λ m. (m < n) × (m ≢ s) × (m ≢ t)) ms
      others [] all = tt
      others (m ∷ ms) all = (
        (
          all.0.0,
          (λ e. h.fine.0.apart (sym (eqb-true (own m) s all.0.1) ∙ ap own e ∙ source_told s t left h)),
          (λ e. h.fine.0.apart (sym (eqb-true (own m) s all.0.1) ∙ ap own e ∙ target_told s t left h)),
        ),
        others ms all.1,
      )

      some : saying s ≢ []
      some = let m = still_said s t left h in
          some_there m.0 (saying s) (among_passing (λ k. eqb (own k) s) n m.0 m.1 ∙ eq-eqb (own m.0) s m.2)

      says : (m : ℕ) → m < n → own m ≡ cond (eqb (own m) s) s t
      says m l = elim (one_of s t left m h l) [
        | inl q ↦ q ∙ ap (λ b. cond b s t) (sym (eq-eqb (own m) s q))
        | inr q ↦ q ∙ ap (λ b. cond b s t) (sym (ne_eqb (own m) s (λ e. h.fine.0.apart (sym e ∙ q))))
      ]

  pub likely_source_told : (p : Phase) (t o m : ℕ) → Is p → NoneAt n goes → NoneAt n comes → 0 < n → t ≡ own (own 0)
      → o ≢ t → m < n → own m ≡ o → Is (SourceTold o t (saying o))
  likely_source_told p t o m h g c l e apart below says = elim (said_twice p t h g c l e) [
    | inl q ↦ (let k : Is (Closed t) = subst Is q h in absurd (apart (sym says ∙ k.owners m below)))
    | inr q ↦ (let k : Is (SourceTold q.0 t q.1) = subst Is q.2 h in
        elim (one_of q.0 t q.1 m k below) [
          | inl u ↦ (let same : q.0 ≡ o = sym u ∙ says in in_order o t q.1 (subst (λ s. Is (SourceTold s t q.1)) same k))
          | inr u ↦ absurd (apart (sym says ∙ u))
        ])
  ]

  -- ---- the phase in which some nodes still say the source

  pub told_phase : (s t m : ℕ) → AreTwo n s t → own s ≢ s → own t ≢ s → m < n → own m ≡ s → IsPhase n (SourceTold s t (saying s))
  told_phase s t m two source target l says = (
    two,
    record { each_other = others (saying s) (each_passes (λ k. eqb (own k) s) n); distinct = passing_distinct (λ k. eqb (own k) s) n },
    some_there m (saying s) (among_passing (λ k. eqb (own k) s) n m l ∙ eq-eqb (own m) s says),
  )
    where
      others : (ms : List ℕ) → AllByRecursion (Passes (λ k. eqb (own k) s) n) ms → AllByRecursion (λ k. (k < n) × (k ≢ s) × (k ≢ t)) ms
      others [] all = tt
      others (k ∷ ms) all = (
        (all.0.0, (λ e. source (sym (ap own e) ∙ eqb-true (own k) s all.0.1)), (λ e. target (sym (ap own e) ∙ eqb-true (own k) s all.0.1))),
        others ms all.1,
      )

  -- a node that says so is among those that are left
  named : (s k : ℕ) → k < n → own k ≡ s → among k (saying s) ≡ true
  named s k l e = among_passing (λ j. eqb (own j) s) n k l ∙ eq-eqb (own k) s e

  pub source_knows : (s t : ℕ) → IsPhase n (SourceTold s t (saying s)) → own s ≢ s
  source_knows s t h e =
      true≢false (sym (named s s h.0.source_below e) ∙ not_named s (saying s) (λ m p q. p.1 (sym q)) h.1.each_other)

  pub target_knows : (s t : ℕ) → IsPhase n (SourceTold s t (saying s)) → own t ≢ s
  target_knows s t h e =
      true≢false (sym (named s t h.0.target_below e) ∙ not_named t (saying s) (λ m p q. p.2 (sym q)) h.1.each_other)

  first_of : (ms : List ℕ) (s : ℕ) → ms ≢ [] → AllByRecursion (Passes (λ k. eqb (own k) s) n) ms → (m : ℕ) × (m < n) × (own m ≡ s)
  first_of [] s some all = absurd (some refl)
  first_of (m ∷ ms) s some all = (m, all.0.0, eqb-true (own m) s all.0.1)

  pub still_says : (s t : ℕ) → IsPhase n (SourceTold s t (saying s)) → (m : ℕ) × (m < n) × (own m ≡ s)
  still_says s t h = first_of (saying s) s h.2 (each_passes (λ k. eqb (own k) s) n)

-- ---- what the program sees

-- what a node says where some still say the source
pub owner_told : (v : Survey) (slot m s t : ℕ) (p : SeenPhase) (o : ℕ) → m < length v.rows → p ≡ seen.SourceTold s t
    → o ≡ cond (eqb (owner_at v m slot) s) s t → o ≡ owner_in (phase_seen v slot p) m
owner_told v slot m s t p o l is e =
    e ∙ ap (λ b. cond b s t) (sym (among_passing (λ k. eqb (owner_at v k slot) s) (length v.rows) m l))
    ∙ ap (λ q. owner_in (phase_seen v slot q) m) (sym is)

-- whether a phase is seen decides whether there is one
pub phase_there : (v : Survey) (s : ℕ) (o : Option SeenPhase) (b : Bool) → is_some o ≡ not b → b ≡ false
    → IfSome o (λ p. HasPhaseIn v s (phase_seen v s p)) → (p : Phase) × HasPhaseIn v s p
phase_there v s None b e f h = absurd (true≢false (sym (e ∙ ap not f)))
phase_there v s (Some p) b e f h = (phase_seen v s p, h)

pub no_phase : (v : Survey) (s : ℕ) (o : Option SeenPhase) (b : Bool) → is_some o ≡ not b → b ≡ true
    → IfNone o ((p : Phase) → HasPhaseIn v s p → ⊥) → (p : Phase) → HasPhaseIn v s p → ⊥
no_phase v s None b e t h = h
no_phase v s (Some p) b e t h = absurd (true≢false (e ∙ ap not t))

-- past the last slot all is closed
pub closed_beyond : (v : Survey) (s : ℕ) → IsBlankBeyond v → 1 ≤ length v.rows → 16384 ≤ s → (p : Phase) × HasPhaseIn v s p
closed_beyond v s blank some h = (
  Closed 0,
  record {
    fine = omega (arith, some);
    owners = λ m l. blank.owners m s h;
    going = λ m l. blank.migrating m s h;
    coming = λ m l. blank.importing m s h;
  },
)
