-- A slot has one phase, but for the order of the nodes that are still to be told.
use Rattle.std.proofs.Common.{◌≡◌, ◌≢◌, ◌⊎◌, ℕ, ◌<◌, ◌≤◌, Bool, true, false, not, cond, eqb, ◌||◌, List, [], ◌∷◌, length, Option, Some, None, sym, refl, ap, ◌∙◌, subst, inl, inr, arith}
use Rattle.std.proofs.lemmas.Bool.{cases_Bool, cases_lt, true≢false, eq-eqb, ne_eqb, eqb-true, cond-true, cond-false, or_left, or_cases}
use Rattle.std.specs.List.{AllByRecursion}
use Rattle.cluster_admin.specs.Phases.{Phase, Phases, Closed, Importing, Migrating, TargetTold, SourceTold, AreTwo}
use Rattle.cluster_admin.specs.Phases.{AreOthers, IsPhase, HasPhase, owner_in, goes_in, comes_in, among}

-- the same, but for the order of the nodes that are left
abbrev pub SamePhase : Phase → Phase → Type 0
SamePhase (Closed o) (Closed o') = o ≡ o'
SamePhase (Importing s t) (Importing s' t') = (s ≡ s') × (t ≡ t')
SamePhase (Migrating s t) (Migrating s' t') = (s ≡ s') × (t ≡ t')
SamePhase (TargetTold s t) (TargetTold s' t') = (s ≡ s') × (t ≡ t')
SamePhase (SourceTold s t left) (SourceTold s' t' left') = (s ≡ s') × (t ≡ t') × ((m : ℕ) → among m left ≡ among m left')
SamePhase p q = ⊥

-- what is said of each node of a list
pub all_among : (P : ℕ → Type 0) (ns : List ℕ) → AllByRecursion P ns → (m : ℕ) → among m ns ≡ true → P m
all_among P [] all m e = absurd (true≢false (sym e))
all_among P (x ∷ ns) all m e = elim (or_cases (eqb m x) (among m ns) e) [
  | inl u ↦ subst P (sym (eqb-true m x u)) all.0
  | inr u ↦ all_among P ns all.1 m u
]

none_some : (v : ℕ) → None ≡ Some v → ⊥
none_some v e = cc

some_is : (v x : ℕ) (b : Bool) → cond b (Some v) None ≡ Some x → (b ≡ true) × (v ≡ x)
some_is v x true e = (refl, cc)
some_is v x false e = absurd (none_some x e)

-- the source and the target are none of the others
pub not_among : (n s t : ℕ) (left : List ℕ) (m : ℕ) → AllByRecursion (λ q. (q < n) × (q ≢ s) × (q ≢ t)) left → (m ≡ s) ⊎ (m ≡ t) → among m left ≡ false
not_among n s t left m all is = by (among m left) refl
  where
    neither : (m ≡ s) ⊎ (m ≡ t) → (m ≢ s) → (m ≢ t) → ⊥
    neither (inl e) a b = a e
    neither (inr e) a b = b e

    by : (b : Bool) → among m left ≡ b → b ≡ false
    by true e = let p = all_among (λ q. (q < n) × (q ≢ s) × (q ≢ t)) left all m e in absurd (neither is p.1 p.2)
    by false e = refl

-- no list of nodes has one from n on
past_none : (n s t : ℕ) (left : List ℕ) (m : ℕ) → AllByRecursion (λ q. (q < n) × (q ≢ s) × (q ≢ t)) left → n ≤ m → among m left ≡ false
past_none n s t left m all past = by (among m left) refl
  where
    apart : (n m : ℕ) → m < n → n ≤ m → ⊥
    apart n m a b = omega arith

    by : (b : Bool) → among m left ≡ b → b ≡ false
    by true e = absurd (apart n m (all_among (λ q. (q < n) × (q ≢ s) × (q ≢ t)) left all m e).0 past)
    by false e = refl

module _ (n : ℕ) (own : ℕ → ℕ) (goes comes : ℕ → Option ℕ) where
  abbrev Has : Phase → Type 0
  Has p = HasPhase n own goes comes p

  come : (p q : Phase) (t s : ℕ) → Has p → Has q → t < n → comes_in p t ≡ Some s → comes_in q t ≡ Some s
  come p q t s a b h e = sym (b.coming t h) ∙ a.coming t h ∙ e

  go : (p q : Phase) (s t : ℕ) → Has p → Has q → s < n → goes_in p s ≡ Some t → goes_in q s ≡ Some t
  go p q s t a b h e = sym (b.going s h) ∙ a.going s h ∙ e

  same_owner : (p q : Phase) (m : ℕ) → Has p → Has q → m < n → owner_in p m ≡ owner_in q m
  same_owner p q m a b h = sym (a.owners m h) ∙ b.owners m h

  here : (t s : ℕ) → cond (eqb t t) (Some s) None ≡ Some s
  here t s = cond-true _ _ _ (eq-eqb t t refl)

  module _ (s t s' t' : ℕ) (left left' : List ℕ) (a : Has (SourceTold s t left)) (b : Has (SourceTold s' t' left')) where
    fa : IsPhase n (SourceTold s t left)
    fa = a.fine

    fb : IsPhase n (SourceTold s' t' left')
    fb = b.fine

    at : (m : ℕ) → m < n → cond (among m left) s t ≡ cond (among m left') s' t'
    at m h = same_owner (SourceTold s t left) (SourceTold s' t' left') m a b h

    own_t : cond (among t left) s t ≡ t
    own_t = cond-false _ s t (not_among n s t left t fa.1.each_other (inr refl))

    own_s : cond (among s left) s t ≡ t
    own_s = cond-false _ s t (not_among n s t left s fa.1.each_other (inl refl))

    own_t' : cond (among t' left') s' t' ≡ t'
    own_t' = cond-false _ s' t' (not_among n s' t' left' t' fb.1.each_other (inr refl))

    -- the one whom the told nodes name
    told_same : t ≡ t'
    told_same = by (cases_Bool (among t left')) (cases_Bool (among t' left))
      where
        by : (among t left' ≡ true) ⊎ (among t left' ≡ false) → (among t' left ≡ true) ⊎ (among t' left ≡ false) → t ≡ t'
        by (inr u) w = sym own_t ∙ at t fa.0.target_below ∙ cond-false _ s' t' u
        by (inl u) (inr w) = sym (cond-false _ s t w) ∙ at t' fb.0.target_below ∙ own_t'
        by (inl u) (inl w) =
            let e : s ≡ t' = sym (cond-true _ s t w) ∙ at t' fb.0.target_below ∙ own_t' in
            absurd (fa.0.apart (e ∙ sym own_t' ∙ sym (at t' fb.0.target_below) ∙ ap (λ x. cond (among x left) s t) (sym e) ∙ own_s))

    -- the same nodes are left, and they name the same source
    left_same : (m : ℕ) → m < n → (among m left ≡ among m left') × (among m left ≡ true → s ≡ s')
    left_same m h = by (among m left) (among m left') refl refl (at m h)
      where
        by : (c d : Bool) → among m left ≡ c → among m left' ≡ d → cond c s t ≡ cond d s' t' → (c ≡ d) × (c ≡ true → s ≡ s')
        by true true e f g = (refl, λ u. g)
        by false false e f g = (refl, λ u. absurd (true≢false (sym u)))
        by true false e f g = absurd (fa.0.apart (g ∙ sym told_same))
        by false true e f g = absurd (fb.0.apart (sym g ∙ told_same))

    each_same : (m : ℕ) → among m left ≡ among m left'
    each_same m = elim (cases_lt m n) [
      | inl low ↦ (left_same m low).0
      | inr past ↦ past_none n s t left m fa.1.each_other past ∙ sym (past_none n s' t' left' m fb.1.each_other past)
    ]

    source_same : s ≡ s'
    source_same = by left refl
      where
        by : (ms : List ℕ) → left ≡ ms → s ≡ s'
        by [] e = absurd (fa.2 e)
        by (m ∷ ms) e =
            let in_left : among m left ≡ true = ap (among m) e ∙ or_left (eqb m m) (among m ms) (eq-eqb m m refl) in
            let low : m < n = (all_among (λ q. (q < n) × (q ≢ s) × (q ≢ t)) left fa.1.each_other m in_left).0 in
            (left_same m low).1 in_left

    told : SamePhase (SourceTold s t left) (SourceTold s' t' left')
    told = (source_same, told_same, each_same)

  closed_told : (o s t : ℕ) (left : List ℕ) → Has (Closed o) → Has (SourceTold s t left) → ⊥
  closed_told o s t [] a b = b.fine.2 refl
  closed_told o s t (m ∷ left) a b =
      let f : IsPhase n (SourceTold s t (m ∷ left)) = b.fine in
      let at_m : o ≡ s = same_owner (Closed o) (SourceTold s t (m ∷ left)) m a b f.1.each_other.0.0 ∙ cond-true _ s t (or_left (eqb m m) (among m left) (eq-eqb m m refl)) in
      let at_t : o ≡ t = same_owner (Closed o) (SourceTold s t (m ∷ left)) t a b f.0.target_below ∙ cond-false _ s t (not_among n s t (m ∷ left) t f.1.each_other (inr refl)) in
      f.0.apart (sym at_m ∙ at_t)

  pub one_phase : (p q : Phase) → Has p → Has q → SamePhase p q
  one_phase (Closed o) (Closed o') a b = (same_owner (Closed o) (Closed o') o a b a.fine)
  one_phase (Closed o) (Importing s t) a b = absurd (none_some s (come (Importing s t) (Closed o) t s b a b.fine.target_below (here t s)))
  one_phase (Closed o) (Migrating s t) a b = absurd (none_some s (come (Migrating s t) (Closed o) t s b a b.fine.target_below (here t s)))
  one_phase (Closed o) (TargetTold s t) a b = absurd (none_some t (go (TargetTold s t) (Closed o) s t b a b.fine.source_below (here s t)))
  one_phase (Closed o) (SourceTold s t left) a b = absurd (closed_told o s t left a b)
  one_phase (Importing s t) (Closed o) a b = absurd (none_some s (come (Importing s t) (Closed o) t s a b a.fine.target_below (here t s)))
  one_phase (Importing s t) (Importing s' t') a b =
      let e = some_is s' s (eqb t t') (come (Importing s t) (Importing s' t') t s a b a.fine.target_below (here t s)) in
      (sym e.1, eqb-true t t' e.0)
  one_phase (Importing s t) (Migrating s' t') a b = absurd (none_some t' (go (Migrating s' t') (Importing s t) s' t' b a b.fine.source_below (here s' t')))
  one_phase (Importing s t) (TargetTold s' t') a b = absurd (none_some t' (go (TargetTold s' t') (Importing s t) s' t' b a b.fine.source_below (here s' t')))
  one_phase (Importing s t) (SourceTold s' t' left) a b = absurd (none_some s (come (Importing s t) (SourceTold s' t' left) t s a b a.fine.target_below (here t s)))
  one_phase (Migrating s t) (Closed o) a b = absurd (none_some s (come (Migrating s t) (Closed o) t s a b a.fine.target_below (here t s)))
  one_phase (Migrating s t) (Importing s' t') a b = absurd (none_some t (go (Migrating s t) (Importing s' t') s t a b a.fine.source_below (here s t)))
  one_phase (Migrating s t) (Migrating s' t') a b =
      let e = some_is s' s (eqb t t') (come (Migrating s t) (Migrating s' t') t s a b a.fine.target_below (here t s)) in
      (sym e.1, eqb-true t t' e.0)
  one_phase (Migrating s t) (TargetTold s' t') a b = absurd (none_some s (come (Migrating s t) (TargetTold s' t') t s a b a.fine.target_below (here t s)))
  one_phase (Migrating s t) (SourceTold s' t' left) a b = absurd (none_some s (come (Migrating s t) (SourceTold s' t' left) t s a b a.fine.target_below (here t s)))
  one_phase (TargetTold s t) (Closed o) a b = absurd (none_some t (go (TargetTold s t) (Closed o) s t a b a.fine.source_below (here s t)))
  one_phase (TargetTold s t) (Importing s' t') a b = absurd (none_some t (go (TargetTold s t) (Importing s' t') s t a b a.fine.source_below (here s t)))
  one_phase (TargetTold s t) (Migrating s' t') a b = absurd (none_some s' (come (Migrating s' t') (TargetTold s t) t' s' b a b.fine.target_below (here t' s')))
  one_phase (TargetTold s t) (TargetTold s' t') a b =
      let e = some_is t' t (eqb s s') (go (TargetTold s t) (TargetTold s' t') s t a b a.fine.source_below (here s t)) in
      (eqb-true s s' e.0, sym e.1)
  one_phase (TargetTold s t) (SourceTold s' t' left) a b = absurd (none_some t (go (TargetTold s t) (SourceTold s' t' left) s t a b a.fine.source_below (here s t)))
  one_phase (SourceTold s t left) (Closed o) a b = absurd (closed_told o s t left b a)
  one_phase (SourceTold s t left) (Importing s' t') a b = absurd (none_some s' (come (Importing s' t') (SourceTold s t left) t' s' b a b.fine.target_below (here t' s')))
  one_phase (SourceTold s t left) (Migrating s' t') a b = absurd (none_some s' (come (Migrating s' t') (SourceTold s t left) t' s' b a b.fine.target_below (here t' s')))
  one_phase (SourceTold s t left) (TargetTold s' t') a b = absurd (none_some t' (go (TargetTold s' t') (SourceTold s t left) s' t' b a b.fine.source_below (here s' t')))
  one_phase (SourceTold s t left) (SourceTold s' t' left') a b = told s t s' t' left left' a b
