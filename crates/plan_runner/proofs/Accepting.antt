-- Each legal part of a slot is taken to its end.
use Rattle.std.proofs.Common.{◌++◌, ◌≡◌, ◌⊎◌, ℕ, ◌<◌, ◌≤◌, Bool, true, false, not, cond, ◌&&◌, eqb, ltb, List, [], ◌∷◌, length, Ok, Err, sym, refl, ap, ◌∙◌, subst, arith, inl, inr, get_or, set, length-set, append-nil}
use Rattle.std.proofs.lemmas.Bool.{cases_Bool, cases_eq, true≢false, ne_eqb, eq-eqb, eqb-true, eqb-false, lt-ltb, or_cases, cond-true, cond-false}
use Rattle.std.specs.List.{AllByRecursion}
use Rattle.plan_language.specs.Lines.{others}
use Rattle.plan_language.specs.Moves.{move_of}
use Rattle.plan_language.specs.declared.plan_command.PlanCommand.{PlanCommand}
use Rattle.plan_language.specs.declared.plan_command.PlanCommand.TheVariants as planned
use Rattle.cluster_admin.specs.Phases.{AreTwo}
use Rattle.plan_semantics.specs.Plans.{among, IsDistinct, AreEnds, tell, Leg, Move, Try, legs_of, AreLegs}
use Rattle.plan_runner.specs.declared.command_fault.CommandFault.TheVariants as fault
use Rattle.plan_runner.specs.declared.slot_state.SlotState.TheVariants as state
use Rattle.plan_runner.specs.SlotStates.{State, is_known, moved_to, all_told, told_so_far, told_both, Next as After}
use Rattle.plan_runner.specs.SlotStates.{next_by_row, next_state, and_then, state_after}
use Rattle.plan_semantics.proofs.Others.{others_ends}
use Rattle.plan_runner.proofs.OneSlot.{and_true, both_width, all_told_each, each_all_told, Left, left_on, left_both}
use Rattle.plan_runner.proofs.OneSlot.{all_ends, told_same, told_other, let_in, no_ok, first_turn, EndsWell}

module _ (v n : ℕ) where
  -- a command of known nodes that continues
  go_on : (before x : State) (o : PlanCommand) (os : List PlanCommand) → is_known n o ≡ true → next_by_row v n before o ≡ Ok x → state_after v n before (o ∷ os) ≡ state_after v n x os
  go_on before x o os k g = ap (λ r. and_then r (λ next. state_after v n next os)) (cond-true (is_known n o) (next_by_row v n before o) (Err fault.UnknownNode) k ∙ g)

  pair_known : (a z : ℕ) → a < n → z < n → (ltb a n && ltb z n) ≡ true
  pair_known a z la lz = and_true (ltb a n) (ltb z n) (lt-ltb a n la) (lt-ltb z n lz)

  pub tells_on : (s a z : ℕ) (others : List ℕ) (told : List Bool) (more : List PlanCommand) → z < n → n ≤ length told → IsDistinct others → AllByRecursion (Left n told) others
      → ((m : ℕ) → m < n → (get_or told m false ≡ true) ⊎ (among m others ≡ true)) → state_after v n (told_so_far v n a z told) (tell s z others ++ more) ≡ state_after v n (moved_to v z) more
  unfolding next_by_row
  tells_on s a z [] told more lz fits d h every = ap (λ x. state_after v n x more) (cond-true (all_told n told) (moved_to v z) (state.SourceTold a z told) (each_all_told n told (λ m k. told_all m (every m k))))
    where
      told_all : (m : ℕ) → (get_or told m false ≡ true) ⊎ (among m [] ≡ true) → get_or told m false ≡ true
      told_all m (inl u) = u
      told_all m (inr u) = absurd (true≢false (sym u))
  tells_on s a z (m ∷ others) told more lz fits d h every = elim (cases_Bool (all_told n told)) [
    | inl u ↦ absurd (true≢false (sym (all_told_each n told u m h.0.0) ∙ h.0.1))
    | inr u ↦ (let inside : m < length told = (let lt = h.0.0 in omega arith) in
        let rest : state_after v n (told_so_far v n a z (set told m true)) (tell s z others ++ more) ≡ state_after v n (moved_to v z) more =
        tells_on s a z others (set told m true) more lz (subst (λ k. n ≤ k) (sym (length-set told m true)) fits) d.1 (left_on n told m others d.0 h.1) (λ q k. told_now told m q others inside (every q k)) in
        ap (λ x. state_after v n x (planned.SetNode s z m ∷ (tell s z others ++ more))) (cond-false (all_told n told) (moved_to v z) (state.SourceTold a z told) u)
        ∙ go_on (state.SourceTold a z told) (told_so_far v n a z (set told m true)) (planned.SetNode s z m) (tell s z others ++ more) (pair_known z m lz h.0.0) (goes s a z m told h.0.1) ∙ rest)
  ]
    where
      goes : (s a z m : ℕ) (told : List Bool) → get_or told m false ≡ false → next_by_row v n (state.SourceTold a z told) (planned.SetNode s z m) ≡ Ok (told_so_far v n a z (set told m true))
      goes s a z m told e = cond-true (eqb z z) (cond (not (get_or told m false)) (Ok (told_so_far v n a z (set told m true))) (Err fault.OutOfOrder)) (Err fault.WrongNode) (eq-eqb z z refl)
          ∙ cond-true (not (get_or told m false)) (Ok (told_so_far v n a z (set told m true))) (Err fault.OutOfOrder) (ap not e)

      told_now : (told : List Bool) (m q : ℕ) (others : List ℕ) → m < length told → (get_or told q false ≡ true) ⊎ (among q (m ∷ others) ≡ true) → (get_or (set told m true) q false ≡ true) ⊎ (among q others ≡ true)
      told_now told m q others inside h = elim (cases_eq q m) [
        | inl u ↦ inl (ap (λ x. get_or (set told m true) x false) u ∙ told_same told m inside)
        | inr u ↦ elim h [
          | inl w ↦ inl (told_other told m q u ∙ w)
          | inr w ↦ elim (or_cases (eqb q m) (among q others) w) [
            | inl y ↦ absurd (u (eqb-true q m y))
            | inr y ↦ inr y
          ]
        ]
      ]

  module _ (s a z : ℕ) (others : List ℕ) (more : List PlanCommand) (fits : n ≤ 255) (ends : AreEnds n a z others) where
    inside : a < 255
    inside = let h = ends.source_below in omega arith

    inside' : z < 255
    inside' = let h = ends.target_below in omega arith

    abbrev Later : List PlanCommand
    Later = tell s z others ++ more

    pub target_on : state_after v n (state.TargetTold a z) (planned.SetNode s z a ∷ Later) ≡ state_after v n (moved_to v z) more
    unfolding next_by_row
    target_on =
        go_on (state.TargetTold a z) (told_so_far v n a z (told_both a z)) (planned.SetNode s z a) Later (pair_known z a ends.target_below ends.source_below)
        (cond-true (eqb z z) (cond (eqb a a) (Ok (told_so_far v n a z (told_both a z))) (Err fault.OutOfOrder)) (Err fault.WrongNode) (eq-eqb z z refl) ∙ cond-true (eqb a a) (Ok (told_so_far v n a z (told_both a z))) (Err fault.OutOfOrder) (eq-eqb a a refl))
        ∙ tells_on s a z others (told_both a z) more ends.target_below (subst (λ k. n ≤ k) (sym (both_width a z)) fits) ends.distinct (left_both n a z others ends.each_other) (λ m k. all_ends n a z m others (inside, inside') (λ na nz. ends.every m k na nz))

    pub drained_on : state_after v n (state.Drained a z) (planned.SetNode s z z ∷ planned.SetNode s z a ∷ Later) ≡ state_after v n (moved_to v z) more
    unfolding next_by_row
    drained_on =
        go_on (state.Drained a z) (state.TargetTold a z) (planned.SetNode s z z) (planned.SetNode s z a ∷ Later) (pair_known z z ends.target_below ends.target_below)
        (cond-true (eqb z z) (cond (eqb z z) (Ok (state.TargetTold a z)) (Err fault.OutOfOrder)) (Err fault.WrongNode) (eq-eqb z z refl) ∙ cond-true (eqb z z) (Ok (state.TargetTold a z)) (Err fault.OutOfOrder) (eq-eqb z z refl))
        ∙ target_on

    pub migrating_on : (b : ℕ) → state_after v n (state.Migrating a z) (planned.Drain s a z b ∷ planned.SetNode s z z ∷ planned.SetNode s z a ∷ Later) ≡ state_after v n (moved_to v z) more
    unfolding next_by_row
    migrating_on b =
        go_on (state.Migrating a z) (state.Drained a z) (planned.Drain s a z b) (planned.SetNode s z z ∷ planned.SetNode s z a ∷ Later) (pair_known a z ends.source_below ends.target_below)
        (cond-true (eqb a a && eqb z z) (Ok (state.Drained a z)) (Err fault.WrongNode) (and_true (eqb a a) (eqb z z) (eq-eqb a a refl) (eq-eqb z z refl)))
        ∙ drained_on

    pub importing_on : (b : ℕ) → state_after v n (state.Importing a z) (planned.Migrating s z a ∷ planned.Drain s a z b ∷ planned.SetNode s z z ∷ planned.SetNode s z a ∷ Later) ≡ state_after v n (moved_to v z) more
    unfolding next_by_row
    importing_on b =
        go_on (state.Importing a z) (state.Migrating a z) (planned.Migrating s z a) (planned.Drain s a z b ∷ planned.SetNode s z z ∷ planned.SetNode s z a ∷ Later) (pair_known z a ends.target_below ends.source_below)
        (cond-true (eqb z z && eqb a a) (Ok (state.Migrating a z)) (Err fault.WrongNode) (and_true (eqb z z) (eqb a a) (eq-eqb z z refl) (eq-eqb a a refl)))
        ∙ migrating_on b

  -- a slot that may move begins to
  begins_on : (s a z : ℕ) (os : List PlanCommand) → AreTwo n a z → state_after v n (state.Untouched a) (planned.Importing s a z ∷ os) ≡ state_after v n (state.Importing a z) os
  unfolding next_by_row
  begins_on s a z os two =
      go_on (state.Untouched a) (state.Importing a z) (planned.Importing s a z) os (pair_known a z two.source_below two.target_below)
      (cond-false (eqb a z) (Err fault.SameNode) (cond (eqb a a) (Ok (state.Importing a z)) (Err fault.NotOwner)) (ne_eqb a z two.apart) ∙ cond-true (eqb a a) (Ok (state.Importing a z)) (Err fault.NotOwner) (eq-eqb a a refl))

  two_of : (a z : ℕ) (others : List ℕ) → AreEnds n a z others → AreTwo n a z
  two_of a z others ends = record { apart = ends.apart; source_below = ends.source_below; target_below = ends.target_below }

  pub move_on : (s a z b : ℕ) (others : List ℕ) (more : List PlanCommand) → n ≤ 255 → AreEnds n a z others
      → state_after v n (state.Untouched a) (planned.Importing s a z ∷ planned.Migrating s z a ∷ planned.Drain s a z b ∷ planned.SetNode s z z ∷ planned.SetNode s z a ∷ (tell s z others ++ more))
      ≡ state_after v n (moved_to v z) more
  move_on s a z b others more fits ends =
      begins_on s a z (planned.Migrating s z a ∷ planned.Drain s a z b ∷ planned.SetNode s z z ∷ planned.SetNode s z a ∷ (tell s z others ++ more)) (two_of a z others ends)
      ∙ importing_on s a z others more fits ends b

  -- the target takes its mark back
  pub back_on : (s a z : ℕ) (more : List PlanCommand) → AreTwo n a z → state_after v n (state.Importing a z) (planned.Stable s z ∷ more) ≡ state_after v n (state.Untouched a) more
  unfolding next_by_row
  back_on s a z more two =
      go_on (state.Importing a z) (state.Untouched a) (planned.Stable s z) more (lt-ltb z n two.target_below) (cond-true (eqb z z) (Ok (state.Untouched a)) (Err fault.OutOfOrder) (eq-eqb z z refl))

  pub try_on : (s a z : ℕ) (more : List PlanCommand) → AreTwo n a z → state_after v n (state.Untouched a) (planned.Importing s a z ∷ planned.Stable s z ∷ more) ≡ state_after v n (state.Untouched a) more
  try_on s a z more two = begins_on s a z (planned.Stable s z ∷ more) two ∙ back_on s a z more two

  -- what is equal to an end that is well
  pub along : (q x : State) (os more : List PlanCommand) → state_after v n q os ≡ state_after v n x more → EndsWell v n x more → EndsWell v n q os
  along q x os more e w = (w.0, e ∙ w.1, w.2)

  -- after a move: the slot is moved in version 1, and else it may move on
  pub later_end : (s z : ℕ) (legs : List Leg) → (v ≡ 1 → legs ≡ []) → ((v ≡ 1 → ⊥) → EndsWell v n (state.Untouched z) (legs_of s z legs)) → EndsWell v n (moved_to v z) (legs_of s z legs)
  later_end s z legs keeps free = by (eqb v 1) refl
    where
      none : (legs : List Leg) → legs ≡ [] → state_after v n state.Moved (legs_of s z legs) ≡ Ok state.Moved
      none legs e = ap (λ x. state_after v n state.Moved (legs_of s z x)) e

      by : (b : Bool) → eqb v 1 ≡ b → EndsWell v n (cond b state.Moved (state.Untouched z)) (legs_of s z legs)
      by true d = (state.Moved, none legs (keeps (eqb-true v 1 d)), refl)
      by false d = free (eqb-false v 1 d)

  pub legs_end : (s o : ℕ) (legs : List Leg) → n ≤ 255 → AreLegs v n o legs → (v ≡ 1 → length legs ≤ 1) → EndsWell v n (state.Untouched o) (legs_of s o legs)
  legs_end s o [] fits are keeps = (state.Untouched o, refl, refl)
  legs_end s o (Move t b others ∷ legs) fits are keeps =
      along (state.Untouched o) (moved_to v t) (legs_of s o (Move t b others ∷ legs)) (legs_of s t legs) (move_on s o t b others (legs_of s t legs) fits are.1)
      (later_end s t legs (λ i. empty legs (keeps i)) (λ other. legs_end s t legs fits are.2 (λ i. absurd (other i))))
    where
      empty : (legs : List Leg) → length (Move t b others ∷ legs) ≤ 1 → legs ≡ []
      empty [] h = refl
      empty (l ∷ ls) h = absurd (omega arith)
  legs_end s o (Try t ∷ legs) fits are keeps =
      along (state.Untouched o) (state.Untouched o) (legs_of s o (Try t ∷ legs)) (legs_of s o legs) (try_on s o t (legs_of s o legs) are.1)
      (legs_end s o legs fits are.2 (λ i. absurd (other i are.0)))
    where
      other : v ≡ 1 → v ≡ 3 → ⊥
      other i j = omega arith

pub state_after_more : (v n : ℕ) (before : State) (xs ys : List PlanCommand)
    → state_after v n before (xs ++ ys) ≡ and_then (state_after v n before xs) (λ x. state_after v n x ys)
state_after_more v n before [] ys = refl
state_after_more v n before (x ∷ xs) ys = by (next_state v n before x) (λ next. state_after_more v n next xs ys)
  where
    by : (r : After) → ((next : State) → state_after v n next (xs ++ ys) ≡ and_then (state_after v n next xs) (λ x. state_after v n x ys))
        → and_then r (λ next. state_after v n next (xs ++ ys)) ≡ and_then (and_then r (λ next. state_after v n next xs)) (λ x. state_after v n x ys)
    by (Ok x) h = h x
    by (Err e) h = refl

-- ---- the first command of a move decides

import_first : (v n s m at : ℕ) (before x : State) → next_state v n before (planned.Importing s m at) ≡ Ok x → (o : ℕ) × (before ≡ state.Untouched o)
unfolding next_by_row
import_first v n s m at before x e = by before (let_in (is_known n (planned.Importing s m at)) (next_by_row v n before (planned.Importing s m at)) fault.UnknownNode x e).1
  where
    by : (before : State) → next_by_row v n before (planned.Importing s m at) ≡ Ok x → (o : ℕ) × (before ≡ state.Untouched o)
    by (state.Untouched o) u = (o, refl)
    by (state.Importing a z) u = absurd (no_ok u)
    by (state.Migrating a z) u = absurd (no_ok u)
    by (state.Drained a z) u = absurd (no_ok u)
    by (state.TargetTold a z) u = absurd (no_ok u)
    by (state.SourceTold a z told) u = absurd (no_ok u)
    by state.Moved u = absurd (no_ok u)

-- a move whose first command is taken is taken whole
pub first_decides : (v n s source target batch : ℕ) (before x : State) → n ≤ 255 → next_state v n before (planned.Importing s source target) ≡ Ok x
    → state_after v n before (move_of s source target batch (others n source target)) ≡ Ok (moved_to v target)
first_decides v n s m at b before x fits e =
    let u = import_first v n s m at before x e in
    let h = first_turn v n s u.0 (planned.Importing s m at) x refl (subst (λ y. next_state v n y (planned.Importing s m at) ≡ Ok x) u.1 e) in
    let target : at ≡ h.0 = third h.1 in
    let source : m ≡ u.0 = second h.1 in
    subst (λ y. state_after v n y (move_of s m at b (others n m at)) ≡ Ok (moved_to v at)) (sym (u.1 ∙ ap state.Untouched (sym source)))
    (ap (λ xs. state_after v n (state.Untouched m) (planned.Importing s m at ∷ planned.Migrating s at m ∷ planned.Drain s m at b ∷ planned.SetNode s at at ∷ planned.SetNode s at m ∷ xs)) (sym (append-nil (tell s at (others n m at))))
    ∙ move_on v n s m at b (others n m at) [] fits (others_ends n m at (λ d. h.2.apart (sym source ∙ d ∙ target)) (subst (λ y. y < n) (sym source) h.2.source_below) (subst (λ y. y < n) (sym target) h.2.target_below)))
  where
    third : {t w : ℕ} → planned.Importing s m at ≡ planned.Importing s w t → at ≡ t
    third u = cc

    second : {t w : ℕ} → planned.Importing s m at ≡ planned.Importing s w t → m ≡ w
    second u = cc
