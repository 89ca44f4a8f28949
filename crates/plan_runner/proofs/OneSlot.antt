-- The commands of one slot are taken from its phase to its end exactly where they are a legal part.
use Rattle.std.proofs.Common.{◌++◌, ◌≡◌, ◌≢◌, ◌⊎◌, ℕ, zero, suc, ◌<◌, ◌≤◌, Bool, true, false, not, cond, ◌&&◌, ◌||◌, eqb, ltb, List, [], ◌∷◌, length, Result, Ok, Err, sym, refl, ap, ◌∙◌, subst, arith, inl, inr, get_or, set, get_or-set_same, get_or-set_other, length-set}
use Rattle.std.proofs.lemmas.Bool.{cases_eq, cases_lt, true≢false, ne_eqb, eq-eqb, eqb-true, eqb-false, ltb-true, or_left, or_right, or_parts}
use Rattle.std.proofs.lemmas.List.{get_or_past, get_or-replicate, length-replicate}
use Rattle.std.specs.List.{AllByRecursion}
use Rattle.plan_language.specs.Lines.{HasBatch, others}
use Rattle.plan_language.specs.declared.plan_command.PlanCommand.{PlanCommand}
use Rattle.plan_language.specs.declared.plan_command.PlanCommand.TheVariants as planned
use Rattle.plan_language.specs.Lines.{FitsVersion}
use Rattle.plan_language.specs.declared.line.Line.TheVariants.{Command}
use Rattle.cluster_admin.specs.Phases.{AreTwo}
use Rattle.plan_semantics.specs.Plans.{slot_named, among, IsDistinct, AreEnds, tell, Leg, Move, Try, legs_of, AreLegs}
use Rattle.plan_runner.specs.declared.command_fault.CommandFault.TheVariants as fault
use Rattle.plan_runner.specs.declared.slot_state.SlotState.TheVariants as state
use Rattle.plan_runner.specs.SlotStates.{State, is_known, is_open, moved_to, all_told, told_so_far, none_told}
use Rattle.plan_runner.specs.SlotStates.{told_both, next_by_row, next_state, and_then, state_after}

-- ---- small facts

-- an answer that is Ok continued
pub went_on : {A B E : Type 0} (r : Result A E) (f : A → Result B E) (y : B) → and_then r f ≡ Ok y → (x : A) × (r ≡ Ok x) × (f x ≡ Ok y)
went_on (Ok x) f y e = (x, refl, e)
went_on (Err d) f y e = absurd (apart e)
  where
    apart : Err d ≡ Ok y → ⊥
    apart u = cc

-- a guard that let something through
pub let_in : {A E : Type 0} (b : Bool) (r : Result A E) (d : E) (y : A) → cond b r (Err d) ≡ Ok y → (b ≡ true) × (r ≡ Ok y)
let_in true r d y e = (refl, e)
let_in false r d y e = absurd (apart e)
  where
    apart : Err d ≡ Ok y → ⊥
    apart u = cc

pub kept_out : {A E : Type 0} (b : Bool) (r : Result A E) (d : E) (y : A) → cond b (Err d) r ≡ Ok y → (b ≡ false) × (r ≡ Ok y)
kept_out false r d y e = (refl, e)
kept_out true r d y e = absurd (apart e)
  where
    apart : Err d ≡ Ok y → ⊥
    apart u = cc

pub ok_is : {A E : Type 0} {x y : A} → (let a : Result A E = Ok x in a) ≡ Ok y → x ≡ y
ok_is {A} {E} {x} {y} e = cc

pub both : (a b : Bool) → a && b ≡ true → (a ≡ true) × (b ≡ true)
both true b e = (refl, e)
both false b e = absurd (true≢false (sym e))

pub and_true : (a b : Bool) → a ≡ true → b ≡ true → a && b ≡ true
and_true true b e f = f
and_true false b e f = absurd (true≢false (sym e))

not_true : (b : Bool) → not b ≡ true → b ≡ false
not_true true e = absurd (true≢false (sym e))
not_true false e = refl

-- ---- all told

pub all_told_each : (n : ℕ) (told : List Bool) → all_told n told ≡ true → (m : ℕ) → m < n → get_or told m false ≡ true
unfolding all_told
all_told_each zero told e m h = absurd (omega arith)
all_told_each (suc n) told e m h =
    let p = both (all_told n told) (get_or told n false) e in
    elim (cases_eq m n) [
      | inl u ↦ subst (λ x. get_or told x false ≡ true) (sym u) p.1
      | inr u ↦ all_told_each n told p.0 m (omega arith)
    ]

pub each_all_told : (n : ℕ) (told : List Bool) → ((m : ℕ) → m < n → get_or told m false ≡ true) → all_told n told ≡ true
unfolding all_told
each_all_told zero told h = refl
each_all_told (suc n) told h = and_true (all_told n told) (get_or told n false) (each_all_told n told (λ m k. h m (omega arith))) (h n (omega arith))

pub none_width : length none_told ≡ 255
none_width = length-replicate 255 false

pub none_is : (m : ℕ) → get_or none_told m false ≡ false
none_is m = elim (cases_lt m 255) [
  | inl low ↦ get_or-replicate 255 m false false low
  | inr past ↦ get_or_past none_told m false (subst (λ w. w ≤ m) (sym none_width) past)
]

neither : (a b : Bool) → a ≡ false → b ≡ false → a || b ≡ false
neither a b e f = subst (λ x. x || b ≡ false) (sym e) f

pub no_ok : {A E : Type 0} {d : E} {y : A} → Err d ≡ Ok y → ⊥
no_ok e = cc

pub no_cons : (o : PlanCommand) (os : List PlanCommand) → o ∷ os ≡ [] → ⊥
no_cons o os e = cc

one_width : (z : ℕ) → length (set none_told z true) ≡ 255
one_width z = length-set none_told z true ∙ none_width

pub both_width : (a z : ℕ) → length (told_both a z) ≡ 255
both_width a z = length-set (set none_told z true) a true ∙ one_width z

-- told after one more node
pub told_same : (told : List Bool) (at : ℕ) → at < length told → get_or (set told at true) at false ≡ true
told_same told at h = get_or-set_same told at true false h

pub told_other : (told : List Bool) (at m : ℕ) → m ≢ at → get_or (set told at true) m false ≡ get_or told m false
told_other told at m h = get_or-set_other told at m true false h

module _ (n : ℕ) where
  abbrev pub Left : List Bool → ℕ → Type 0
  Left told m = (m < n) × (get_or told m false ≡ false)

  unlisted : (at : ℕ) (told : List Bool) (ms : List ℕ) → get_or told at false ≡ true → AllByRecursion (Left told) ms → among at ms ≡ false
  unlisted at told [] e h = refl
  unlisted at told (m ∷ ms) e h = neither (eqb at m) (among at ms) (ne_eqb at m (λ u. true≢false (sym e ∙ ap (λ x. get_or told x false) u ∙ h.0.1))) (unlisted at told ms e h.1)

  -- what was left after one more was left before
  left_back : (told : List Bool) (at : ℕ) (ms : List ℕ) → at < length told → AllByRecursion (Left (set told at true)) ms → AllByRecursion (Left told) ms
  left_back told at [] k h = tt
  left_back told at (m ∷ ms) k h = ((h.0.0, sym (told_other told at m differ) ∙ h.0.1), left_back told at ms k h.1)
    where
      differ : m ≢ at
      differ u = true≢false (sym (told_same told at k) ∙ sym (ap (λ x. get_or (set told at true) x false) u) ∙ h.0.1)

  pub left_on : (told : List Bool) (at : ℕ) (ms : List ℕ) → among at ms ≡ false → AllByRecursion (Left told) ms → AllByRecursion (Left (set told at true)) ms
  left_on told at [] e h = tt
  left_on told at (m ∷ ms) e h = ((h.0.0, told_other told at m (λ u. eqb-false at m (or_parts (eqb at m) (among at ms) e).0 (sym u)) ∙ h.0.1), left_on told at ms (or_parts (eqb at m) (among at ms) e).1 h.1)

  pub left_both : (a z : ℕ) (ms : List ℕ) → AllByRecursion (λ m. (m < n) × (m ≢ a) × (m ≢ z)) ms → AllByRecursion (Left (told_both a z)) ms
  left_both a z [] h = tt
  left_both a z (m ∷ ms) h = ((h.0.0, told_other (set none_told z true) a m h.0.1 ∙ told_other none_told z m h.0.2 ∙ none_is m), left_both a z ms h.1)

  pub all_ends : (a z m : ℕ) (ms : List ℕ) → (a < 255) × (z < 255) → (m ≢ a → m ≢ z → among m ms ≡ true) → (get_or (told_both a z) m false ≡ true) ⊎ (among m ms ≡ true)
  all_ends a z m ms h every = elim (cases_eq m a) [
    | inl u ↦ inl (ap (λ x. get_or (told_both a z) x false) u ∙ told_same (set none_told z true) a (subst (λ k. a < k) (sym (one_width z)) h.0))
    | inr u ↦ elim (cases_eq m z) [
      | inl v ↦ inl (told_other (set none_told z true) a m u ∙ ap (λ x. get_or (set none_told z true) x false) v ∙ told_same none_told z (subst (λ k. z < k) (sym none_width) h.1))
      | inr v ↦ inr (every u v)
    ]
  ]

  told_none : (a z : ℕ) (ms : List ℕ) → a < n → z < n → n ≤ 255 → AllByRecursion (Left (told_both a z)) ms → AllByRecursion (λ m. (m < n) × (m ≢ a) × (m ≢ z)) ms
  told_none a z [] la lz fits h = tt
  told_none a z (m ∷ ms) la lz fits h = ((h.0.0, not_a, not_z), told_none a z ms la lz fits h.1)
    where
      wide : length (set none_told z true) ≡ 255
      wide = one_width z

      not_a : m ≢ a
      not_a u = true≢false (sym (told_same (set none_told z true) a (omega (arith, wide, la, fits))) ∙ sym (ap (λ x. get_or (told_both a z) x false) u) ∙ h.0.1)

      not_z : m ≢ z
      not_z u = true≢false (sym (told_same none_told z (subst (λ k. z < k) (sym none_width) (omega (arith, lz, fits)))) ∙ sym (ap (λ x. get_or (set none_told z true) x false) u) ∙ sym (told_other (set none_told z true) a m not_a) ∙ h.0.1)

  every_other : (a z m : ℕ) (ms : List ℕ) → m ≢ a → m ≢ z → (get_or (told_both a z) m false ≡ true) ⊎ (among m ms ≡ true) → among m ms ≡ true
  every_other a z m ms na nz (inr u) = u
  every_other a z m ms na nz (inl u) = absurd (true≢false (sym u ∙ told_other (set none_told z true) a m na ∙ told_other none_told z m nz ∙ none_is m))

module _ (v n : ℕ) where
  known_go : (before x : State) (o : PlanCommand) → next_state v n before o ≡ Ok x → (is_known n o ≡ true) × (next_by_row v n before o ≡ Ok x)
  known_go before x o e = let_in (is_known n o) (next_by_row v n before o) fault.UnknownNode x e

  none_moves : (o : PlanCommand) (x : State) → next_state v n state.Moved o ≡ Ok x → ⊥
  unfolding next_by_row
  none_moves o x e = by (is_known n o) e
    where
      by : (b : Bool) → cond b (Err fault.MovedTwice) (Err fault.UnknownNode) ≡ Ok x → ⊥
      by true u = cc
      by false u = cc

  -- ---- what continues from each state

  pub first_turn : (s w : ℕ) (o : PlanCommand) (x : State) → slot_named o ≡ s → next_state v n (state.Untouched w) o ≡ Ok x → (t : ℕ) × (o ≡ planned.Importing s w t) × AreTwo n w t × (x ≡ state.Importing w t)
  unfolding next_by_row
  first_turn s w (planned.Importing s' m at) x i e =
      let k = known_go (state.Untouched w) x (planned.Importing s' m at) e in
      let ends = both (ltb m n) (ltb at n) k.0 in
      let a = kept_out (eqb m at) (cond (eqb m w) (Ok (state.Importing m at)) (Err fault.NotOwner)) fault.SameNode x k.1 in
      let b = let_in (eqb m w) (Ok (state.Importing m at)) fault.NotOwner x a.1 in
      let same : m ≡ w = eqb-true m w b.0 in (
        at,
        (λ j. planned.Importing (i j) (same j) at),
        record { apart = λ u. eqb-false m at a.0 (same ∙ u); source_below = subst (λ y. y < n) same (ltb-true m n ends.0); target_below = ltb-true at n ends.1 },
        sym (ok_is b.1) ∙ ap (λ y. state.Importing y at) same,
      )
  first_turn s w (planned.Migrating s' m at) x i e = absurd (no_ok (known_go (state.Untouched w) x (planned.Migrating s' m at) e).1)
  first_turn s w (planned.Drain s' m t b) x i e = absurd (no_ok (known_go (state.Untouched w) x (planned.Drain s' m t b) e).1)
  first_turn s w (planned.SetNode s' m at) x i e = absurd (no_ok (known_go (state.Untouched w) x (planned.SetNode s' m at) e).1)
  first_turn s w (planned.Stable s' at) x i e = absurd (no_ok (known_go (state.Untouched w) x (planned.Stable s' at) e).1)

  pub second_turn : (s a z : ℕ) (o : PlanCommand) (x : State) → slot_named o ≡ s → next_state v n (state.Importing a z) o ≡ Ok x
      → ((o ≡ planned.Migrating s z a) × (x ≡ state.Migrating a z)) ⊎ ((o ≡ planned.Stable s z) × (x ≡ state.Untouched a))
  unfolding next_by_row
  second_turn s a z (planned.Migrating s' m at) x i e =
      let k = let_in (eqb m z && eqb at a) (Ok (state.Migrating a z)) fault.WrongNode x (known_go (state.Importing a z) x (planned.Migrating s' m at) e).1 in
      let p = both (eqb m z) (eqb at a) k.0 in
      let u : m ≡ z = eqb-true m z p.0 in
      let q : at ≡ a = eqb-true at a p.1 in
      inl ((λ j. planned.Migrating (i j) (u j) (q j)), sym (ok_is k.1))
  second_turn s a z (planned.Stable s' at) x i e =
      let k = let_in (eqb at z) (Ok (state.Untouched a)) fault.OutOfOrder x (known_go (state.Importing a z) x (planned.Stable s' at) e).1 in
      let u : at ≡ z = eqb-true at z k.0 in
      inr ((λ j. planned.Stable (i j) (u j)), sym (ok_is k.1))
  second_turn s a z (planned.Importing s' m at) x i e = absurd (no_ok (known_go (state.Importing a z) x (planned.Importing s' m at) e).1)
  second_turn s a z (planned.Drain s' m t b) x i e = absurd (no_ok (known_go (state.Importing a z) x (planned.Drain s' m t b) e).1)
  second_turn s a z (planned.SetNode s' m at) x i e = absurd (no_ok (known_go (state.Importing a z) x (planned.SetNode s' m at) e).1)

  pub third_turn : (s a z : ℕ) (o : PlanCommand) (x : State) → slot_named o ≡ s → next_state v n (state.Migrating a z) o ≡ Ok x → (b : ℕ) × (o ≡ planned.Drain s a z b) × (x ≡ state.Drained a z)
  unfolding next_by_row
  third_turn s a z (planned.Drain s' m t b) x i e =
      let k = let_in (eqb m a && eqb t z) (Ok (state.Drained a z)) fault.WrongNode x (known_go (state.Migrating a z) x (planned.Drain s' m t b) e).1 in
      let p = both (eqb m a) (eqb t z) k.0 in
      let u : m ≡ a = eqb-true m a p.0 in
      let q : t ≡ z = eqb-true t z p.1 in
      (b, (λ j. planned.Drain (i j) (u j) (q j) b), sym (ok_is k.1))
  third_turn s a z (planned.Importing s' m at) x i e = absurd (no_ok (known_go (state.Migrating a z) x (planned.Importing s' m at) e).1)
  third_turn s a z (planned.Migrating s' m at) x i e = absurd (no_ok (known_go (state.Migrating a z) x (planned.Migrating s' m at) e).1)
  third_turn s a z (planned.SetNode s' m at) x i e = absurd (no_ok (known_go (state.Migrating a z) x (planned.SetNode s' m at) e).1)
  third_turn s a z (planned.Stable s' at) x i e = absurd (no_ok (known_go (state.Migrating a z) x (planned.Stable s' at) e).1)

  pub fourth_turn : (s a z : ℕ) (o : PlanCommand) (x : State) → slot_named o ≡ s → next_state v n (state.Drained a z) o ≡ Ok x → (o ≡ planned.SetNode s z z) × (x ≡ state.TargetTold a z)
  unfolding next_by_row
  fourth_turn s a z (planned.SetNode s' m at) x i e =
      let k = let_in (eqb m z) (cond (eqb at z) (Ok (state.TargetTold a z)) (Err fault.OutOfOrder)) fault.WrongNode x (known_go (state.Drained a z) x (planned.SetNode s' m at) e).1 in
      let l = let_in (eqb at z) (Ok (state.TargetTold a z)) fault.OutOfOrder x k.1 in
      let u : m ≡ z = eqb-true m z k.0 in
      let q : at ≡ z = eqb-true at z l.0 in
      ((λ j. planned.SetNode (i j) (u j) (q j)), sym (ok_is l.1))
  fourth_turn s a z (planned.Importing s' m at) x i e = absurd (no_ok (known_go (state.Drained a z) x (planned.Importing s' m at) e).1)
  fourth_turn s a z (planned.Migrating s' m at) x i e = absurd (no_ok (known_go (state.Drained a z) x (planned.Migrating s' m at) e).1)
  fourth_turn s a z (planned.Drain s' m t b) x i e = absurd (no_ok (known_go (state.Drained a z) x (planned.Drain s' m t b) e).1)
  fourth_turn s a z (planned.Stable s' at) x i e = absurd (no_ok (known_go (state.Drained a z) x (planned.Stable s' at) e).1)

  pub fifth_turn : (s a z : ℕ) (o : PlanCommand) (x : State) → slot_named o ≡ s → next_state v n (state.TargetTold a z) o ≡ Ok x → (o ≡ planned.SetNode s z a) × (x ≡ told_so_far v n a z (set (set none_told z true) a true))
  unfolding next_by_row
  fifth_turn s a z (planned.SetNode s' m at) x i e =
      let k = let_in (eqb m z) (cond (eqb at a) (Ok (told_so_far v n a z (set (set none_told z true) a true))) (Err fault.OutOfOrder)) fault.WrongNode x (known_go (state.TargetTold a z) x (planned.SetNode s' m at) e).1 in
      let l = let_in (eqb at a) (Ok (told_so_far v n a z (set (set none_told z true) a true))) fault.OutOfOrder x k.1 in
      let u : m ≡ z = eqb-true m z k.0 in
      let q : at ≡ a = eqb-true at a l.0 in
      ((λ j. planned.SetNode (i j) (u j) (q j)), sym (ok_is l.1))
  fifth_turn s a z (planned.Importing s' m at) x i e = absurd (no_ok (known_go (state.TargetTold a z) x (planned.Importing s' m at) e).1)
  fifth_turn s a z (planned.Migrating s' m at) x i e = absurd (no_ok (known_go (state.TargetTold a z) x (planned.Migrating s' m at) e).1)
  fifth_turn s a z (planned.Drain s' m t b) x i e = absurd (no_ok (known_go (state.TargetTold a z) x (planned.Drain s' m t b) e).1)
  fifth_turn s a z (planned.Stable s' at) x i e = absurd (no_ok (known_go (state.TargetTold a z) x (planned.Stable s' at) e).1)

  pub told_turn : (s a z : ℕ) (told : List Bool) (o : PlanCommand) (x : State) → slot_named o ≡ s → next_state v n (state.SourceTold a z told) o ≡ Ok x → (at : ℕ) × (o ≡ planned.SetNode s z at) × (at < n) × (get_or told at false ≡ false) × (x ≡ told_so_far v n a z (set told at true))
  unfolding next_by_row
  told_turn s a z told (planned.SetNode s' m at) x i e =
      let h = known_go (state.SourceTold a z told) x (planned.SetNode s' m at) e in
      let k = let_in (eqb m z) (cond (not (get_or told at false)) (Ok (told_so_far v n a z (set told at true))) (Err fault.OutOfOrder)) fault.WrongNode x h.1 in
      let l = let_in (not (get_or told at false)) (Ok (told_so_far v n a z (set told at true))) fault.OutOfOrder x k.1 in
      let u : m ≡ z = eqb-true m z k.0 in
      (at, (λ j. planned.SetNode (i j) (u j) at), ltb-true at n (both (ltb m n) (ltb at n) h.0).1, not_true _ l.0, sym (ok_is l.1))
  told_turn s a z told (planned.Importing s' m at) x i e = absurd (no_ok (known_go (state.SourceTold a z told) x (planned.Importing s' m at) e).1)
  told_turn s a z told (planned.Migrating s' m at) x i e = absurd (no_ok (known_go (state.SourceTold a z told) x (planned.Migrating s' m at) e).1)
  told_turn s a z told (planned.Drain s' m t b) x i e = absurd (no_ok (known_go (state.SourceTold a z told) x (planned.Drain s' m t b) e).1)
  told_turn s a z told (planned.Stable s' at) x i e = absurd (no_ok (known_go (state.SourceTold a z told) x (planned.Stable s' at) e).1)

  -- ---- what the commands of a slot are that are taken to their end

  -- all commands are taken, and the slot is not left open
  abbrev pub EndsWell : State → List PlanCommand → Type 0
  EndsWell q os = (x : State) × (state_after v n q os ≡ Ok x) × (is_open x ≡ false)

  module _ (s : ℕ) where
    -- what follows a move to the node
    pub record Later (z : ℕ) (os : List PlanCommand) : Type 0 where
      pub legs : List Leg
      pub are : AreLegs v n z legs
      pub keeps : v ≡ 1 → legs ≡ []
      pub is : os ≡ legs_of s z legs

    -- what begins at a slot that may move
    pub record Free (o : ℕ) (os : List PlanCommand) : Type 0 where
      pub legs : List Leg
      pub are : AreLegs v n o legs
      pub keeps : v ≡ 1 → length legs ≤ 1
      pub is : os ≡ legs_of s o legs

    -- the nodes that are not told yet, one by one
    pub record Telling (z : ℕ) (told : List Bool) (os : List PlanCommand) : Type 0 where
      pub others : List ℕ
      pub more : List PlanCommand
      pub is : os ≡ tell s z others ++ more
      pub distinct : IsDistinct others
      pub each : AllByRecursion (Left n told) others
      pub every : (m : ℕ) → m < n → (get_or told m false ≡ true) ⊎ (among m others ≡ true)
      pub later : Later z more

    pub record Tail (a z : ℕ) (prefix os : List PlanCommand) : Type 0 where
      pub rest : List PlanCommand
      pub is : os ≡ prefix ++ rest
      pub telling : Telling z (told_both a z) rest

    abbrev pub Ends : State → List PlanCommand → Type 0
    Ends (state.Untouched o) os = Free o os
    Ends (state.Importing a z) os =
        ((v ≡ 3) × (more : List PlanCommand) × (os ≡ planned.Stable s z ∷ more) × Free a more)
        ⊎ ((b : ℕ) × (0 < b) × Tail a z (planned.Migrating s z a ∷ planned.Drain s a z b ∷ planned.SetNode s z z ∷ planned.SetNode s z a ∷ []) os)
    Ends (state.Migrating a z) os = (b : ℕ) × (0 < b) × Tail a z (planned.Drain s a z b ∷ planned.SetNode s z z ∷ planned.SetNode s z a ∷ []) os
    Ends (state.Drained a z) os = Tail a z (planned.SetNode s z z ∷ planned.SetNode s z a ∷ []) os
    Ends (state.TargetTold a z) os = Tail a z (planned.SetNode s z a ∷ []) os
    Ends (state.SourceTold a z told) os = Telling z told os
    Ends state.Moved os = os ≡ []

    -- what is told of a state
    abbrev pub IsFine : State → Type 0
    IsFine (state.Untouched o) = Unit {0}
    IsFine (state.Importing a z) = AreTwo n a z
    IsFine (state.Migrating a z) = AreTwo n a z
    IsFine (state.Drained a z) = AreTwo n a z
    IsFine (state.TargetTold a z) = AreTwo n a z
    IsFine (state.SourceTold a z told) = n ≤ length told
    IsFine state.Moved = Unit {0}

    still_open : (q : State) → is_open q ≡ true → EndsWell q [] → ⊥
    still_open q o e = true≢false (sym o ∙ ap is_open (ok_is e.1) ∙ e.2)

    told_or : (told : List Bool) (at m : ℕ) (others : List ℕ) → (get_or (set told at true) m false ≡ true) ⊎ (among m others ≡ true) → (get_or told m false ≡ true) ⊎ (among m (at ∷ others) ≡ true)
    told_or told at m others (inr u) = inr (or_right (eqb m at) (among m others) u)
    told_or told at m others (inl u) = elim (cases_eq m at) [
      | inl v ↦ inr (or_left (eqb m at) (among m others) (eq-eqb m at v))
      | inr v ↦ inl (sym (told_other told at m v) ∙ u)
    ]

    moved_ends : (z : ℕ) (os : List PlanCommand) → ((q : State) → IsFine q → EndsWell q os → Ends q os) → EndsWell (moved_to v z) os → Later z os
    moved_ends z os rec e = by (eqb v 1) refl e
      where
        not_one : eqb v 1 ≡ false → v ≡ 1 → ⊥
        not_one d i = eqb-false v 1 d i

        by : (b : Bool) → eqb v 1 ≡ b → EndsWell (cond b state.Moved (state.Untouched z)) os → Later z os
        by true d w = record { legs = []; are = tt; keeps = λ i. refl; is = rec state.Moved tt w }
        by false d w = let f : Free z os = rec (state.Untouched z) tt w in record { legs = f.legs; are = f.are; keeps = λ i. absurd (not_one d i); is = f.is }

    told_ends : (a z : ℕ) (told : List Bool) (os : List PlanCommand) → n ≤ length told → ((q : State) → IsFine q → EndsWell q os → Ends q os)
        → EndsWell (told_so_far v n a z told) os → Telling z told os
    told_ends a z told os fits rec e = by (all_told n told) refl e
      where
        by : (b : Bool) → all_told n told ≡ b → EndsWell (cond b (moved_to v z) (state.SourceTold a z told)) os → Telling z told os
        by true d w = record { others = []; more = os; is = refl; distinct = tt; each = tt; every = λ m h. inl (all_told_each n told d m h); later = moved_ends z os rec w }
        by false d w = rec (state.SourceTold a z told) fits w

    -- the others of a whole move
    pub ends_of : (a z : ℕ) (rest : List PlanCommand) → n ≤ 255 → AreTwo n a z → (t : Telling z (told_both a z) rest) → AreEnds n a z t.others
    ends_of a z rest fits two t = record {
      apart = two.apart;
      source_below = two.source_below;
      target_below = two.target_below;
      each_other = told_none n a z t.others two.source_below two.target_below fits t.each;
      distinct = t.distinct;
      every = λ m k na nz. every_other n a z m t.others na nz (t.every m k);
    }

    free_move : (a z : ℕ) (o : PlanCommand) (os : List PlanCommand) → n ≤ 255 → AreTwo n a z → o ≡ planned.Importing s a z → Ends (state.Importing a z) os → Free a (o ∷ os)
    free_move a z o os fits two is (inl r) = record {
      legs = Try z ∷ r.3.legs;
      are = (r.0, two, r.3.are);
      keeps = λ i. absurd (other i r.0);
      is = λ i. is i ∷ (r.2 ∙ ap (λ x. planned.Stable s z ∷ x) r.3.is) i;
    }
      where
        other : v ≡ 1 → v ≡ 3 → ⊥
        other i j = omega arith
    free_move a z o os fits two is (inr r) =
        let t = r.2.telling in record {
          legs = Move z r.0 t.others ∷ t.later.legs;
          are = (r.1, ends_of a z r.2.rest fits two t, t.later.are);
          keeps = λ i. one (Move z r.0 t.others) t.later.legs (t.later.keeps i);
          is = λ i. is i ∷ (r.2.is ∙ ap (λ x. planned.Migrating s z a ∷ planned.Drain s a z r.0 ∷ planned.SetNode s z z ∷ planned.SetNode s z a ∷ x) (t.is ∙ ap (λ x. tell s z t.others ++ x) t.later.is)) i;
        }
      where
        one : (l : Leg) (legs : List Leg) → legs ≡ [] → length (l ∷ legs) ≤ 1
        one l legs e = subst (λ x. length (l ∷ x) ≤ 1) (sym e) (omega arith)

    tail_on : (a z : ℕ) (o : PlanCommand) (c : PlanCommand) (prefix os : List PlanCommand) → o ≡ c → Tail a z prefix os → Tail a z (c ∷ prefix) (o ∷ os)
    tail_on a z o c prefix os e t = record { rest = t.rest; is = λ i. e i ∷ t.is i; telling = t.telling }

    one_told : (a z : ℕ) (told : List Bool) (o : PlanCommand) (os : List PlanCommand) (at : ℕ) → n ≤ length told → at < n → get_or told at false ≡ false → o ≡ planned.SetNode s z at
        → Telling z (set told at true) os → Telling z told (o ∷ os)
    one_told a z told o os at fits low e is r =
        let inside : at < length told = omega arith in record {
          others = at ∷ r.others;
          more = r.more;
          is = λ j. is j ∷ r.is j;
          distinct = (unlisted n at (set told at true) r.others (told_same told at inside) r.each, r.distinct);
          each = ((low, e), left_back n told at r.others inside r.each);
          every = λ m k. told_or told at m r.others (r.every m k);
          later = r.later;
        }

    abbrev FitEach : List PlanCommand → Type 0
    FitEach os = AllByRecursion (λ o. FitsVersion v (Command o)) os

    pub ends : (os : List PlanCommand) (q : State) → n ≤ 255 → IsFine q → AllByRecursion (λ o. slot_named o ≡ s) os → AllByRecursion HasBatch os → FitEach os → EndsWell q os → Ends q os
    ends [] (state.Untouched w) fits fine names some fit e = record { legs = []; are = tt; keeps = λ i. omega arith; is = refl }
    ends [] (state.Importing a z) fits fine names some fit e = absurd (still_open (state.Importing a z) refl e)
    ends [] (state.Migrating a z) fits fine names some fit e = absurd (still_open (state.Migrating a z) refl e)
    ends [] (state.Drained a z) fits fine names some fit e = absurd (still_open (state.Drained a z) refl e)
    ends [] (state.TargetTold a z) fits fine names some fit e = absurd (still_open (state.TargetTold a z) refl e)
    ends [] (state.SourceTold a z told) fits fine names some fit e = absurd (still_open (state.SourceTold a z told) refl e)
    ends [] state.Moved fits fine names some fit e = refl
    ends (o ∷ os) (state.Untouched w) fits fine names some fit e =
        let g = went_on (next_state v n (state.Untouched w) o) (λ next. state_after v n next os) e.0 e.1 in
        let h = first_turn s w o g.0 names.0 g.1 in
        free_move w h.0 o os fits h.2 h.1
        (ends os (state.Importing w h.0) fits h.2 names.1 some.1 fit.1 (e.0, subst (λ x. state_after v n x os ≡ Ok e.0) h.3 g.2, e.2))
    ends (o ∷ os) (state.Importing a z) fits fine names some fit e =
        let g = went_on (next_state v n (state.Importing a z) o) (λ next. state_after v n next os) e.0 e.1 in
        elim (second_turn s a z o g.0 names.0 g.1) [
          | inl h ↦ (let r = ends os (state.Migrating a z) fits fine names.1 some.1 fit.1 (e.0, subst (λ x. state_after v n x os ≡ Ok e.0) h.1 g.2, e.2) in
              inr (r.0, r.1, tail_on a z o (planned.Migrating s z a) (planned.Drain s a z r.0 ∷ planned.SetNode s z z ∷ planned.SetNode s z a ∷ []) os h.0 r.2))
          | inr h ↦ (let r = ends os (state.Untouched a) fits tt names.1 some.1 fit.1 (e.0, subst (λ x. state_after v n x os ≡ Ok e.0) h.1 g.2, e.2) in
              inl (subst (λ c. FitsVersion v (Command c)) h.0 fit.0, os, (λ i. h.0 i ∷ os), r))
        ]
    ends (o ∷ os) (state.Migrating a z) fits fine names some fit e =
        let g = went_on (next_state v n (state.Migrating a z) o) (λ next. state_after v n next os) e.0 e.1 in
        let h = third_turn s a z o g.0 names.0 g.1 in
        let r = ends os (state.Drained a z) fits fine names.1 some.1 fit.1 (e.0, subst (λ x. state_after v n x os ≡ Ok e.0) h.2 g.2, e.2) in
        (h.0, (subst HasBatch h.1 some.0).0, tail_on a z o (planned.Drain s a z h.0) (planned.SetNode s z z ∷ planned.SetNode s z a ∷ []) os h.1 r)
    ends (o ∷ os) (state.Drained a z) fits fine names some fit e =
        let g = went_on (next_state v n (state.Drained a z) o) (λ next. state_after v n next os) e.0 e.1 in
        let h = fourth_turn s a z o g.0 names.0 g.1 in
        let r = ends os (state.TargetTold a z) fits fine names.1 some.1 fit.1 (e.0, subst (λ x. state_after v n x os ≡ Ok e.0) h.1 g.2, e.2) in
        tail_on a z o (planned.SetNode s z z) (planned.SetNode s z a ∷ []) os h.0 r
    ends (o ∷ os) (state.TargetTold a z) fits fine names some fit e =
        let g = went_on (next_state v n (state.TargetTold a z) o) (λ next. state_after v n next os) e.0 e.1 in
        let h = fifth_turn s a z o g.0 names.0 g.1 in
        record {
          rest = os;
          is = λ i. h.0 i ∷ os;
          telling = told_ends a z (told_both a z) os (subst (λ k. n ≤ k) (sym (both_width a z)) fits)
              (λ q f w. ends os q fits f names.1 some.1 fit.1 w) (e.0, subst (λ x. state_after v n x os ≡ Ok e.0) h.1 g.2, e.2);
        }
    ends (o ∷ os) (state.SourceTold a z told) fits fine names some fit e =
        let g = went_on (next_state v n (state.SourceTold a z told) o) (λ next. state_after v n next os) e.0 e.1 in
        let h = told_turn s a z told o g.0 names.0 g.1 in
        one_told a z told o os h.0 fine h.2 h.3 h.1
        (told_ends a z (set told h.0 true) os (subst (λ k. n ≤ k) (sym (length-set told h.0 true)) fine)
        (λ q f w. ends os q fits f names.1 some.1 fit.1 w) (e.0, subst (λ x. state_after v n x os ≡ Ok e.0) h.4 g.2, e.2))
    ends (o ∷ os) state.Moved fits fine names some fit e =
        absurd (none_moves o _ (went_on (next_state v n state.Moved o) (λ next. state_after v n next os) e.0 e.1).1)
