-- A node is emptied where a drain takes its last slot.
use Rattle.std.proofs.Common.{◌≡◌, ◌≢◌, ℕ, zero, suc, ◌+◌, ◌-◌, ◌<◌, ◌≤◌, Bool, true, false, cond, ◌&&◌, eqb, min}
use Rattle.std.proofs.Common.{inl, inr, List, [], ◌∷◌, ◌++◌, fold, get_or, set, length, take, length-set}
use Rattle.std.proofs.Common.{get_or-set_same, get_or-set_other, sym, refl, ap, ◌∙◌, subst, arith}
use Rattle.std.specs.Prelude.{slice_index}
use Rattle.std.specs.List.{count_by}
use Rattle.std.proofs.lemmas.Bool.{cases_eq, eq-eqb, eqb-true, ne_eqb}
use Rattle.std.proofs.lemmas.List.Sums.{count_by-le-length, get_or-le-sum_by, sum_by-set}
use Rattle.cluster_admin.specs.Phases.{closed_by}
use Rattle.plan_language.specs.declared.plan_command.PlanCommand.{PlanCommand}
use Rattle.plan_language.specs.declared.plan_command.PlanCommand.TheVariants as planned
use Rattle.plan_semantics.specs.Plans.{AreLegs, Leg, Legal, legs_of, part, slot_named, tell}
use Rattle.plan_semantics.specs.Plans as leg
use Rattle.plan_changes.specs.Emptying.{EmptiedLoseLast, LosesLast, empties, held_at, homes_after, is_emptied}
use Rattle.plan_changes.specs.Emptying.{left_after}

-- ---- in a legal plan each drain finds its slot at the source

-- from this home on each drain continues to another node
abbrev GoOn : (home : ℕ) → List PlanCommand → Type 0
GoOn h [] = Unit {0}
GoOn h (planned.Importing s m at ∷ cs) = GoOn h cs
GoOn h (planned.Migrating s m at ∷ cs) = GoOn h cs
GoOn h (planned.Drain s m t b ∷ cs) = (h ≡ m) × (m ≢ t) × (s < 16384) × GoOn t cs
GoOn h (planned.SetNode s m at ∷ cs) = GoOn h cs
GoOn h (planned.Stable s at ∷ cs) = GoOn h cs

told_on : (s t h : ℕ) (ns : List ℕ) (cs : List PlanCommand) → GoOn h cs → GoOn h (tell s t ns ++ cs)
told_on s t h [] cs g = g
told_on s t h (n ∷ ns) cs g = told_on s t h ns cs g

legs_on : (v n s o : ℕ) (legs : List Leg) → s < 16384 → AreLegs v n o legs → GoOn o (legs_of s o legs)
legs_on v n s o [] lt are = tt
legs_on v n s o (leg.Try t ∷ legs) lt are = legs_on v n s o legs lt are.2
legs_on v n s o (leg.Move t b others ∷ legs) lt are =
    (refl, are.1.apart, lt, told_on s t t others (legs_of s t legs) (legs_on v n s t legs lt are.2))

none_or_on : (v n s o : ℕ) (legs : List Leg) → (legs_of s o legs ≢ [] → s < 16384) → AreLegs v n o legs
    → GoOn o (legs_of s o legs)
none_or_on v n s o [] lt are = tt
none_or_on v n s o (leg.Try t ∷ legs) lt are = legs_on v n s o (leg.Try t ∷ legs) (lt (some _ _)) are
  where
    some : (c : PlanCommand) (cs : List PlanCommand) → c ∷ cs ≢ []
    some c cs e = cc
none_or_on v n s o (leg.Move t b others ∷ legs) lt are =
    legs_on v n s o (leg.Move t b others ∷ legs) (lt (some _ _)) are
  where
    some : (c : PlanCommand) (cs : List PlanCommand) → c ∷ cs ≢ []
    some c cs e = cc

legal_on : (v n : ℕ) (plan : List PlanCommand) (owners : List ℕ) → Legal v plan (closed_by owners) n
    → (s : ℕ) → GoOn (get_or owners s 0) (part plan s)
legal_on v n plan owners legal s =
    let p = legal s in
    let is : part plan s ≡ legs_of s (slice_index owners s) p.legs =
    p.is ∙ ap (λ l. l ++ legs_of s p.owner p.legs) p.closes.0 ∙ ap (λ w. legs_of s w p.legs) p.closes.1 in
    subst (GoOn (slice_index owners s)) (sym is)
    (none_or_on v n s (slice_index owners s) p.legs (λ some. p.below (λ e. some (sym is ∙ e)))
    (subst (λ w. AreLegs v n w p.legs) p.closes.1 p.are))

-- ---- the plan, command by command

abbrev AllOn : List ℕ → List PlanCommand → Type 0
AllOn homes plan = (s : ℕ) → GoOn (get_or homes s 0) (part plan s)

rest_on : (b : Bool) (h : ℕ) (c : PlanCommand) (cs : List PlanCommand) → (GoOn h (c ∷ cs) → GoOn h cs)
    → GoOn h (cond b (c ∷ cs) cs) → GoOn h cs
rest_on true h c cs f g = f g
rest_on false h c cs f g = g

-- the drain is of the slot's home
drain_here : (homes : List ℕ) (s m t b : ℕ) (plan : List PlanCommand) → AllOn homes (planned.Drain s m t b ∷ plan)
    → (get_or homes s 0 ≡ m) × (m ≢ t) × (s < 16384) × GoOn t (part plan s)
drain_here homes s m t b plan all =
    subst (λ x. GoOn (get_or homes s 0) (cond x (planned.Drain s m t b ∷ part plan s) (part plan s)))
    (eq-eqb s s refl) (all s)

on_after : (homes : List ℕ) (c : PlanCommand) (plan : List PlanCommand) → length homes ≡ 16384 → AllOn homes (c ∷ plan)
    → AllOn (homes_after homes c) plan
on_after homes (planned.Importing x m at) plan long all s =
    rest_on (eqb x s) (get_or homes s 0) (planned.Importing x m at) (part plan s) (λ g. g) (all s)
on_after homes (planned.Migrating x m at) plan long all s =
    rest_on (eqb x s) (get_or homes s 0) (planned.Migrating x m at) (part plan s) (λ g. g) (all s)
on_after homes (planned.SetNode x m at) plan long all s =
    rest_on (eqb x s) (get_or homes s 0) (planned.SetNode x m at) (part plan s) (λ g. g) (all s)
on_after homes (planned.Stable x at) plan long all s =
    rest_on (eqb x s) (get_or homes s 0) (planned.Stable x at) (part plan s) (λ g. g) (all s)
on_after homes (planned.Drain x m t b) plan long all s = elim (cases_eq x s) [
  | inl e ↦
      let here = drain_here homes x m t b plan all in
      let inside : x < length homes = omega (arith, long, here.2) in
      let now : get_or (set homes x t) s 0 ≡ t =
      ap (λ k. get_or (set homes x t) k 0) (sym e) ∙ get_or-set_same homes x t 0 inside in
      subst (λ h. GoOn h (part plan s)) (sym now) (subst (λ k. GoOn t (part plan k)) e here.3)
  | inr ne ↦
      let other : get_or (set homes x t) s 0 ≡ get_or homes s 0 = get_or-set_other homes x s t 0 (λ e. ne (sym e)) in
      subst (λ h. GoOn h (part plan s)) (sym other)
      (subst (λ q. GoOn (get_or homes s 0) (cond q (planned.Drain x m t b ∷ part plan s) (part plan s)))
      (ne_eqb x s ne) (all s))
]

-- ---- how many slots a node holds

module _ (n : ℕ) where
  abbrev held : List ℕ → ℕ
  held homes = count_by (λ home. eqb home n) homes

  -- one drain takes a slot from its home, and brings it to its target
  held_moved : (homes : List ℕ) (s t : ℕ) → s < length homes
      → held (set homes s t) + cond (eqb (get_or homes s 0) n) 1 0 ≡ held homes + cond (eqb t n) 1 0
  held_moved homes s t lt = sum_by-set (λ home. cond (eqb home n) 1 0) homes s t 0 lt

  at_home : (homes : List ℕ) (s : ℕ) → s < length homes → cond (eqb (get_or homes s 0) n) 1 0 ≤ held homes
  at_home homes s lt = get_or-le-sum_by (λ home. cond (eqb home n) 1 0) homes s 0 lt

  few_held : (homes : List ℕ) → held homes ≤ length homes
  few_held homes = count_by-le-length (λ home. eqb home n) homes

  drain_counted : (homes : List ℕ) (s m t : ℕ) (p q : Bool) → length homes ≡ 16384 → s < 16384 → m ≢ t → eqb m n ≡ p
      → eqb t n ≡ q → held (set homes s t) + cond p 1 0 ≡ held homes + cond q 1 0
      → held (set homes s t) ≡ cond p (held homes - 1) (cond q (min (held homes + 1) 4294967295) (held homes))
  drain_counted homes s m t true true long lt apart e f is = absurd (apart (eqb-true m n e ∙ sym (eqb-true t n f)))
  drain_counted homes s m t true false long lt apart e f is = omega (arith, is)
  drain_counted homes s m t false true long lt apart e f is =
      let few : held homes ≤ length homes = few_held homes in
      omega (arith, is, few, long)
  drain_counted homes s m t false false long lt apart e f is = omega (arith, is)

  counted : (homes : List ℕ) (c : PlanCommand) (plan : List PlanCommand) → length homes ≡ 16384 → AllOn homes (c ∷ plan)
      → held (homes_after homes c) ≡ left_after n c (held homes)
  counted homes (planned.Importing x m at) plan long all = refl
  counted homes (planned.Migrating x m at) plan long all = refl
  counted homes (planned.SetNode x m at) plan long all = refl
  counted homes (planned.Stable x at) plan long all = refl
  counted homes (planned.Drain x m t b) plan long all =
      let here = drain_here homes x m t b plan all in
      drain_counted homes x m t (eqb m n) (eqb t n) long here.2 here.1 refl refl
      (subst (λ h. held (set homes x t) + cond (eqb h n) 1 0 ≡ held homes + cond (eqb t n) 1 0) here.0
      (held_moved homes x t (omega (arith, long, here.2))))

  width_after : (homes : List ℕ) (c : PlanCommand) → length (homes_after homes c) ≡ length homes
  width_after homes (planned.Importing x m at) = refl
  width_after homes (planned.Migrating x m at) = refl
  width_after homes (planned.SetNode x m at) = refl
  width_after homes (planned.Stable x at) = refl
  width_after homes (planned.Drain x m t b) = length-set homes x t

  -- a command takes the last slot where the node holds one before it and none after it
  takes_last : (c : PlanCommand) (k : ℕ) → empties n c k ≡ true → (0 < k) × (left_after n c k ≡ 0)
  takes_last (planned.Importing x m at) k e = cc
  takes_last (planned.Migrating x m at) k e = cc
  takes_last (planned.SetNode x m at) k e = cc
  takes_last (planned.Stable x at) k e = cc
  takes_last (planned.Drain x m t b) k e = by (eqb m n) e
    where
      by : (p : Bool) → (p && eqb k 1) ≡ true
          → (0 < k) × (cond p (k - 1) (cond (eqb t n) (min (k + 1) 4294967295) k) ≡ 0)
      by true e = let one : k ≡ 1 = eqb-true k 1 e in (omega (arith, one), omega (arith, one))
      by false e = cc

  last_taken : (c : PlanCommand) (k : ℕ) → 0 < k → left_after n c k ≡ 0 → empties n c k ≡ true
  last_taken (planned.Importing x m at) k some e = absurd (omega (arith, some, e))
  last_taken (planned.Migrating x m at) k some e = absurd (omega (arith, some, e))
  last_taken (planned.SetNode x m at) k some e = absurd (omega (arith, some, e))
  last_taken (planned.Stable x at) k some e = absurd (omega (arith, some, e))
  last_taken (planned.Drain x m t b) k some e = by (eqb m n) (eqb t n) e
    where
      by : (p q : Bool) → cond p (k - 1) (cond q (min (k + 1) 4294967295) k) ≡ 0 → (p && eqb k 1) ≡ true
      by true q e = eq-eqb k 1 (omega (arith, some, e))
      by false true e = absurd (omega (arith, some, e))
      by false false e = absurd (omega (arith, some, e))

  -- ---- the plan

  one_further : (place : ℕ) → suc place + 1 ≡ suc (place + 1)
  one_further place = omega arith

  emptied_loses : (plan : List PlanCommand) (homes : List ℕ) → length homes ≡ 16384 → AllOn homes plan
      → is_emptied n plan (held homes) ≡ true → LosesLast n homes plan
  emptied_loses [] homes long all e = cc
  emptied_loses (c ∷ plan) homes long all e =
      by (empties n c (held homes)) refl e
      (λ f. emptied_loses plan (homes_after homes c) (width_after homes c ∙ long) (on_after homes c plan long all)
      (ap (is_emptied n plan) (counted homes c plan long all) ∙ f))
    where
      by : (b : Bool) → empties n c (held homes) ≡ b
          → cond b true (is_emptied n plan (left_after n c (held homes))) ≡ true
          → (is_emptied n plan (left_after n c (held homes)) ≡ true → LosesLast n (homes_after homes c) plan)
          → LosesLast n homes (c ∷ plan)
      by true is e later =
          let last = takes_last c (held homes) is in
          (0, omega arith, last.0, counted homes c plan long all ∙ last.1)
      by false is e later = let p = later e in (
        suc p.0,
        omega (arith, p.1),
        p.2,
        ap (held_at n homes (c ∷ plan)) (one_further p.0) ∙ p.3,
      )

  loses_emptied : (plan : List PlanCommand) (homes : List ℕ) → length homes ≡ 16384 → AllOn homes plan
      → LosesLast n homes plan → is_emptied n plan (held homes) ≡ true
  loses_emptied [] homes long all (place, lt, some, none) = absurd (omega (arith, lt))
  loses_emptied (c ∷ plan) homes long all (zero, lt, some, none) =
      ap (λ b. cond b true (is_emptied n plan (left_after n c (held homes))))
      (last_taken c (held homes) some (sym (counted homes c plan long all) ∙ none))
  loses_emptied (c ∷ plan) homes long all (suc place, lt, some, none) =
      either (empties n c (held homes)) (is_emptied n plan (left_after n c (held homes)))
      (ap (is_emptied n plan) (sym (counted homes c plan long all))
      ∙ loses_emptied plan (homes_after homes c) (width_after homes c ∙ long) (on_after homes c plan long all)
      (place, omega (arith, lt), some, sym (ap (held_at n homes (c ∷ plan)) (one_further place)) ∙ none))
    where
      either : (b r : Bool) → r ≡ true → cond b true r ≡ true
      either true r e = refl
      either false r e = e

pub emptied_lose_last : EmptiedLoseLast
emptied_lose_last v nodes plan owners n long legal =
    let all : AllOn owners plan = legal_on v nodes plan owners legal in
    (emptied_loses n plan owners long all, loses_emptied n plan owners long all)
