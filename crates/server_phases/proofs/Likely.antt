-- The only phase that a slot can be in, by its marks and owners.
use Rattle.std.proofs.Common.{◌≡◌, ◌≢◌, ◌⊎◌, ℕ, ◌<◌, Bool, true, false, cond, eqb, Option, Some, None, length}
use Rattle.std.proofs.Common.{sym, refl, ap, ◌∙◌, subst, inl, inr}
use Rattle.std.proofs.lemmas.Bool.{cases_eq, eqb-true, eq-eqb}
use Rattle.cluster_admin.specs.Surveys.{Survey, NoneAt, importing_at, migrating_at, owner_at}
use Rattle.server_phases.specs.ServerPhases.{IsOrdinary}
use Rattle.server_phases.specs.declared.server_phase.ServerPhase.{ServerPhase}
use Rattle.server_phases.specs.declared.server_phase.ServerPhase.TheVariants as shown

some_same : (x y : ℕ) → Some x ≡ Some y → x ≡ y
some_same x y e = cc

-- a mark that one node has
one_mark : (m k v t : ℕ) → cond (eqb m k) (Some v) None ≡ Some t → (m ≡ k) × (v ≡ t)
one_mark m k v t = by (eqb m k) refl
  where
    by : (b : Bool) → eqb m k ≡ b → cond b (Some v) None ≡ Some t → (m ≡ k) × (v ≡ t)
    by true e p = (eqb-true m k e, some_same v t p)
    by false e p = cc

mark_here : (k v : ℕ) → cond (eqb k k) (Some v) None ≡ Some v
mark_here k v = ap (λ b. cond b (Some v) None) (eq-eqb k k refl)

no_mark : (v : ℕ) {A : Type 0} (o : Option ℕ) → o ≡ Some v → o ≡ None → A
no_mark v o e n = let f : Some v ≡ None = sym e ∙ n in absurd (cc)

module _ (v : Survey) (s : ℕ) where
  -- a node that migrates the slot is the source of one of two phases
  migrates : (p : ServerPhase) (m t : ℕ) → IsOrdinary v s p → m < length v.rows → migrating_at v m s ≡ Some t
      → (p ≡ shown.Migrating m t) ⊎ (p ≡ shown.Told m t)
  migrates (shown.Closed o) m t h l e = no_mark t (migrating_at v m s) e (h.going m l)
  migrates (shown.Importing a b) m t h l e = no_mark t (migrating_at v m s) e (h.going m l)
  migrates (shown.Migrating a b) m t h l e =
      let q = one_mark m a b t (sym (h.going m l) ∙ e) in inl (λ i. shown.Migrating (sym q.0 i) (q.1 i))
  migrates (shown.Told a b) m t h l e = elim (cases_eq m a) [
    | inr ne ↦ no_mark t (migrating_at v m s) e ((h.each m l).going ne)
    | inl same ↦ (
        let here : migrating_at v a s ≡ Some t = subst (λ k. migrating_at v k s ≡ Some t) same e in
        elim h.left [
          | inl mark ↦ (let q = some_same b t (sym mark ∙ here) in inr (λ i. shown.Told (sym same i) (q i)))
          | inr known ↦ no_mark t (migrating_at v a s) here known.unmarked
        ])
  ]
  migrates (shown.Strange k) m t h l e = absurd h

  -- a node that imports it is the target of one of two
  imports : (p : ServerPhase) (m a : ℕ) → IsOrdinary v s p → m < length v.rows → importing_at v m s ≡ Some a
      → (p ≡ shown.Importing a m) ⊎ (p ≡ shown.Migrating a m)
  imports (shown.Closed o) m a h l e = no_mark a (importing_at v m s) e (h.coming m l)
  imports (shown.Importing b t) m a h l e =
      let q = one_mark m t b a (sym (h.coming m l) ∙ e) in inl (λ i. shown.Importing (q.1 i) (sym q.0 i))
  imports (shown.Migrating b t) m a h l e =
      let q = one_mark m t b a (sym (h.coming m l) ∙ e) in inr (λ i. shown.Migrating (q.1 i) (sym q.0 i))
  imports (shown.Told b t) m a h l e = no_mark a (importing_at v m s) e (h.each m l).coming
  imports (shown.Strange k) m a h l e = absurd h

  pub likely_importing : (p : ServerPhase) (m a : ℕ) → IsOrdinary v s p → NoneAt (length v.rows) (λ n. migrating_at v n s)
      → m < length v.rows → importing_at v m s ≡ Some a → p ≡ shown.Importing a m
  likely_importing p m a h none l e = elim (imports p m a h l e) [
    | inl q ↦ q
    | inr q ↦ (
        let g : IsOrdinary v s (shown.Migrating a m) = subst (IsOrdinary v s) q h in
        no_mark m (migrating_at v a s) (g.going a g.fine.source_below ∙ mark_here a m) (none a g.fine.source_below))
  ]

  pub likely_told : (p : ServerPhase) (m t : ℕ) → IsOrdinary v s p → m < length v.rows → migrating_at v m s ≡ Some t
      → NoneAt (length v.rows) (λ n. importing_at v n s) → p ≡ shown.Told m t
  likely_told p m t h l e none = elim (migrates p m t h l e) [
    | inl q ↦ (
        let g : IsOrdinary v s (shown.Migrating m t) = subst (IsOrdinary v s) q h in
        no_mark m (importing_at v t s) (g.coming t g.fine.target_below ∙ mark_here t m) (none t g.fine.target_below))
    | inr q ↦ q
  ]

  pub likely_migrating : (p : ServerPhase) (m t k a : ℕ) → IsOrdinary v s p → m < length v.rows
      → migrating_at v m s ≡ Some t → k < length v.rows → importing_at v k s ≡ Some a → p ≡ shown.Migrating m t
  likely_migrating p m t k a h l e l' e' = elim (migrates p m t h l e) [
    | inl q ↦ q
    | inr q ↦ (
        let g : IsOrdinary v s (shown.Told m t) = subst (IsOrdinary v s) q h in
        no_mark a (importing_at v k s) e' (g.each k l').coming)
  ]

  -- ---- without marks

  -- what the owner that a node tells tells itself
  said_twice : (p : ServerPhase) (t : ℕ) → IsOrdinary v s p → NoneAt (length v.rows) (λ n. migrating_at v n s)
      → NoneAt (length v.rows) (λ n. importing_at v n s) → 0 < length v.rows → t ≡ owner_at v (owner_at v 0 s) s
      → (p ≡ shown.Closed t) ⊎ ((a : ℕ) × (p ≡ shown.Told a t))
  said_twice (shown.Closed o) t h g c l e =
      inl (ap (λ x. shown.Closed x) (sym (e ∙ ap (λ n. owner_at v n s) (h.owners 0 l) ∙ h.owners o h.fine)))
  said_twice (shown.Importing a b) t h g c l e =
      no_mark a (importing_at v b s) (h.coming b h.fine.target_below ∙ mark_here b a) (c b h.fine.target_below)
  said_twice (shown.Migrating a b) t h g c l e =
      no_mark b (migrating_at v a s) (h.going a h.fine.source_below ∙ mark_here a b) (g a h.fine.source_below)
  said_twice (shown.Told a b) t h g c l e = elim h.left [
    | inl mark ↦ no_mark b (migrating_at v a s) mark (g a h.two.source_below)
    | inr known ↦ (
        let twice : owner_at v (owner_at v 0 s) s ≡ b = elim (h.each 0 l).owner [
          | inl q ↦ ap (λ n. owner_at v n s) q ∙ known.known
          | inr q ↦ ap (λ n. owner_at v n s) q ∙ h.taken
        ] in
        inr (a, λ i. shown.Told a (sym (e ∙ twice) i)))
  ]
  said_twice (shown.Strange k) t h g c l e = absurd h

  pub likely_closed : (p : ServerPhase) (t : ℕ) → IsOrdinary v s p → NoneAt (length v.rows) (λ n. migrating_at v n s)
      → NoneAt (length v.rows) (λ n. importing_at v n s) → 0 < length v.rows → t ≡ owner_at v (owner_at v 0 s) s
      → ((m : ℕ) → m < length v.rows → owner_at v m s ≡ t) → p ≡ shown.Closed t
  likely_closed p t h g c l e all = elim (said_twice p t h g c l e) [
    | inl q ↦ q
    | inr q ↦ (
        let k : IsOrdinary v s (shown.Told q.0 t) = subst (IsOrdinary v s) q.1 h in
        elim k.left [
          | inl mark ↦ no_mark t (migrating_at v q.0 s) mark (g q.0 k.two.source_below)
          | inr known ↦ absurd (k.two.apart (sym known.said.2 ∙ all known.said.0 known.said.1))
        ])
  ]

  pub likely_others_left : (p : ServerPhase) (t o m : ℕ) → IsOrdinary v s p
      → NoneAt (length v.rows) (λ n. migrating_at v n s) → NoneAt (length v.rows) (λ n. importing_at v n s)
      → 0 < length v.rows → t ≡ owner_at v (owner_at v 0 s) s → o ≢ t → m < length v.rows → owner_at v m s ≡ o
      → p ≡ shown.Told o t
  likely_others_left p t o m h g c l e apart below says = elim (said_twice p t h g c l e) [
    | inl q ↦ (
        let k : IsOrdinary v s (shown.Closed t) = subst (IsOrdinary v s) q h in
        absurd (apart (sym says ∙ k.owners m below)))
    | inr q ↦ (
        let k : IsOrdinary v s (shown.Told q.0 t) = subst (IsOrdinary v s) q.1 h in
        elim (k.each m below).owner [
          | inl u ↦ q.1 ∙ ap (λ x. shown.Told x t) (sym u ∙ says)
          | inr u ↦ absurd (apart (sym says ∙ u))
        ])
  ]

-- the phases of a slot that has marks
pub ruleset likely_marked = (likely_importing, likely_told, likely_migrating)
