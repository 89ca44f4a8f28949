-- The owners that transfers leave: how many slots each node holds then, and how many have another owner.
use Rattle.std.proofs.Common.{◌≡◌, ◌≢◌, ℕ, zero, suc, ◌+◌, ◌<◌, ◌≤◌, false, cond, eqb, List, [], ◌∷◌, ◌++◌, length, get_or, set, Option, Some, None, sym, refl, ap, ◌∙◌, subst, arith, inl, inr, get_or-set_same, get_or-set_other, length-set}
use Rattle.std.proofs.lemmas.List.{ext_get_or}
use Rattle.std.proofs.lemmas.Bool.{cases_eq, cond-true, cond-false, eq-eqb, ne_eqb, or_parts, true≢false}
use Rattle.std.specs.List.{AllByRecursion}
use Rattle.plan_language.specs.declared.plan_command.PlanCommand.{PlanCommand}
use Rattle.plan_language.specs.declared.plan_command.PlanCommand.TheVariants as planned
use Rattle.plan_language.specs.Lines.{plan_commands}
use Rattle.reshard_planner.specs.Sums.{sum_below}
use Rattle.cluster_admin.specs.Phases as phase
use Rattle.cluster_admin.specs.Phases.{closed_by}
use Rattle.plan_semantics.specs.Plans.{among, part, tell, last_told, legs_of, Leg, Move, Try, AreLegs, IsDistinct, IsFinal, IsPart, Legal}
use Rattle.reshard_planner.specs.declared.transfer.Transfer.{Transfer}
use Rattle.reshard_planner.specs.Grouping.{plan_of}
use Rattle.reshard_planner.specs.Holding.{held, differing}
use Rattle.reshard_planner.specs.Laws.{one_if_some, moved_count}
use Rattle.reshard_planner.proofs.Grouped.{target_of, target_or, target_planned, target_told}
use Rattle.reshard_planner.proofs.Holding.{held-set}
use Rattle.reshard_planner.proofs.Moving.{IsTransfer, slots, sources, targets}
use Rattle.reshard_planner.proofs.Sums.{sum_none, sum_plus, sum_same, sum_single_turned}

-- the target if there is one, and else the owner
abbrev pub by_target : ℕ → Option ℕ → ℕ
by_target owner None = owner
by_target owner (Some target) = target

abbrev one_if : Option ℕ → ℕ
one_if None = 0
one_if (Some target) = 1

differing-same : (owners : List ℕ) → differing owners owners ≡ 0
differing-same [] = refl
differing-same (o ∷ owners) =
    let e : differing owners owners ≡ 0 = differing-same owners in
    let f : ◌≡◌ {A = ℕ} (cond (eqb o o) 0 1) 0 = cond-true (eqb o o) 0 1 (eq-eqb o o refl) in omega arith

-- one slot more with another owner
differing-set : (owners others : List ℕ) (s target : ℕ) → length others ≡ length owners → s < length owners
    → get_or others s 0 ≡ get_or owners s 0 → get_or owners s 0 ≢ target
    → differing owners (set others s target) ≡ differing owners others + 1
differing-set [] others s target e l same apart = absurd (omega arith)
differing-set (o ∷ owners) [] s target e l same apart = absurd (omega arith)
differing-set (o ∷ owners) (p ∷ others) zero target e l same apart =
    let f : ◌≡◌ {A = ℕ} (cond (eqb o target) 0 1) 1 = cond-false (eqb o target) 0 1 (ne_eqb o target apart) in
    let g : ◌≡◌ {A = ℕ} (cond (eqb o p) 0 1) 0 = cond-true (eqb o p) 0 1 (eq-eqb o p (sym same)) in omega arith
differing-set (o ∷ owners) (p ∷ others) (suc s) target e l same apart =
    let r : differing owners (set others s target) ≡ differing owners others + 1
    = differing-set owners others s target (omega arith) (omega arith) same apart in omega arith

-- the owners after the transfers
abbrev pub applied : List ℕ → List Transfer → List ℕ
applied owners [] = owners
applied owners (t ∷ ts) = set (applied owners ts) t.slot t.target

pub length-applied : (owners : List ℕ) (ts : List Transfer) → length (applied owners ts) ≡ length owners
length-applied owners [] = refl
length-applied owners (t ∷ ts) = length-set (applied owners ts) t.slot t.target ∙ length-applied owners ts

-- a slot that goes nowhere keeps its owner
kept : (owners : List ℕ) (ts : List Transfer) (s : ℕ) → among s (slots ts) ≡ false → get_or (applied owners ts) s 0 ≡ get_or owners s 0
kept owners [] s e = refl
kept owners (t ∷ ts) s e =
    let p = or_parts (eqb s t.slot) (among s (slots ts)) e in
    get_or-set_other (applied owners ts) t.slot s t.target 0 (apart s t.slot p.0) ∙ kept owners ts s p.1
  where
    apart : (s x : ℕ) → eqb s x ≡ false → s ≢ x
    apart s x f u = true≢false (sym (eq-eqb s x u) ∙ f)

module _ (n : ℕ) (owners : List ℕ) where
  abbrev AreTransfers : List Transfer → Type 0
  AreTransfers ts = AllByRecursion (IsTransfer n owners) ts

  within : (t : Transfer) (ts : List Transfer) → IsTransfer n owners t → t.slot < length (applied owners ts)
  within t ts h = subst (λ k. t.slot < k) (sym (length-applied owners ts)) h.within

  -- what a node gives and takes
  pub held-applied : (ts : List Transfer) (node : ℕ) → AreTransfers ts → IsDistinct (slots ts)
      → held (applied owners ts) node + held (sources ts) node ≡ held owners node + held (targets ts) node
  held-applied [] node h d = omega arith
  held-applied (t ∷ ts) node h d =
      let r : held (applied owners ts) node + held (sources ts) node ≡ held owners node + held (targets ts) node
      = held-applied ts node h.1 d.1 in
      let s : held (set (applied owners ts) t.slot t.target) node + cond (eqb (get_or (applied owners ts) t.slot 0) node) 1 0
      ≡ held (applied owners ts) node + cond (eqb t.target node) 1 0
      = held-set (applied owners ts) t.slot t.target node (within t ts h.0) in
      let o : ◌≡◌ {A = ℕ} (cond (eqb (get_or (applied owners ts) t.slot 0) node) 1 0) (cond (eqb t.source node) 1 0)
      = ap (λ x. cond (eqb x node) 1 0) (kept owners ts t.slot d.0 ∙ h.0.owned) in omega arith

  -- the owner of each slot
  pub get-applied : (ts : List Transfer) (s : ℕ) → AreTransfers ts
      → get_or (applied owners ts) s 0 ≡ by_target (get_or owners s 0) (target_of ts s)
  get-applied [] s h = refl
  get-applied (t ∷ ts) s h = elim (cases_eq t.slot s) [
    | inl here ↦ ap (λ x. get_or (set (applied owners ts) x t.target) s 0) here
        ∙ get_or-set_same (applied owners ts) s t.target 0 (subst (λ x. x < length (applied owners ts)) here (within t ts h.0))
        ∙ sym (ap (by_target (get_or owners s 0)) (cond-true (eqb t.slot s) (Some t.target) (target_of ts s) (eq-eqb t.slot s here)))
    | inr apart ↦ get_or-set_other (applied owners ts) t.slot s t.target 0 (λ e. apart (sym e)) ∙ get-applied ts s h.1
        ∙ sym (ap (by_target (get_or owners s 0)) (cond-false (eqb t.slot s) (Some t.target) (target_of ts s) (ne_eqb t.slot s apart)))
  ]

  -- each transfer gives one more slot another owner
  pub differing-applied : (ts : List Transfer) → AreTransfers ts → IsDistinct (slots ts) → differing owners (applied owners ts) ≡ length ts
  differing-applied [] h d = differing-same owners
  differing-applied (t ∷ ts) h d =
      let r : differing owners (applied owners ts) ≡ length ts = differing-applied ts h.1 d.1 in
      let e = differing-set owners (applied owners ts) t.slot t.target (length-applied owners ts) h.0.within
      (kept owners ts t.slot d.0) (λ u. h.0.apart (sym h.0.owned ∙ u)) in omega arith

  -- ---- the final owners of the plan

  target_or-told : (owner : ℕ) (os : List PlanCommand) → target_or owner os ≡ by_target owner (target_told os)
  target_or-told owner [] = refl
  target_or-told owner (planned.Importing s m at ∷ rest) = refl
  target_or-told owner (planned.Migrating s m at ∷ rest) = refl
  target_or-told owner (planned.Drain s m t b ∷ rest) = refl
  target_or-told owner (planned.SetNode s m at ∷ rest) = refl
  target_or-told owner (planned.Stable s at ∷ rest) = refl

  -- nodes are told the target
  last-told : (s t : ℕ) (ms : List ℕ) → last_told t (tell s t ms ++ []) ≡ t
  last-told s t [] = refl
  last-told s t (m ∷ ms) = last-told s t ms

  -- one move at most leads to its target
  last-legs : (s o : ℕ) (legs : List Leg) → length legs ≤ 1 → AreLegs 1 n o legs → last_told o (legs_of s o legs) ≡ target_or o (legs_of s o legs)
  last-legs s o [] few are = refl
  last-legs s o (Move t b others ∷ []) few are = last-told s t others
  last-legs s o (Move t b others ∷ (l ∷ legs)) few are = absurd (omega arith)
  last-legs s o (Try t ∷ legs) few are = absurd (apart 1 3 are.0 (omega arith))
    where
      apart : (a b : ℕ) → a ≡ b → a < b → ⊥
      apart a b e h = omega arith

  last-part : (s o : ℕ) (os : List PlanCommand) → IsPart 1 n s (phase.Closed o) os → last_told o os ≡ target_or o os
  last-part s o os i =
      let is : os ≡ legs_of s o i.legs = i.is ∙ ap (λ c. c ++ legs_of s i.owner i.legs) i.closes.0 ∙ ap (λ w. legs_of s w i.legs) i.closes.1 in
      subst (λ x. last_told o x ≡ target_or o x) (sym is)
      (last-legs s o i.legs (i.keeps refl) (subst (λ w. AreLegs 1 n w i.legs) i.closes.1 i.are))

  pub final_is : (batch : ℕ) (ts : List Transfer) (final : List ℕ) → length owners ≡ 16384 → AreTransfers ts
      → Legal 1 (plan_commands n (plan_of batch ts)) (closed_by owners) n
      → IsFinal (plan_commands n (plan_of batch ts)) (closed_by owners) final → final ≡ applied owners ts
  final_is batch ts final width h legal f = ext_get_or 0 final (applied owners ts)
      (f.width ∙ sym width ∙ sym (length-applied owners ts))
      (λ s below. f.owner s (subst (λ k. s < k) f.width below)
      ∙ last-part s (get_or owners s 0) (part (plan_commands n (plan_of batch ts)) s) (legal s)
      ∙ target_or-told (get_or owners s 0) (part (plan_commands n (plan_of batch ts)) s)
      ∙ ap (by_target (get_or owners s 0)) (target_planned n batch owners ts s h)
      ∙ sym (get-applied ts s h))

  -- ---- how many slots the plan moves

  one_told : (os : List PlanCommand) → one_if_some os ≡ one_if (target_told os)
  one_told [] = refl
  one_told (o ∷ os) = refl

  none_of : (ts : List Transfer) (s : ℕ) → among s (slots ts) ≡ false → target_of ts s ≡ None
  none_of [] s e = refl
  none_of (t ∷ ts) s e =
      let p = or_parts (eqb s t.slot) (among s (slots ts)) e in
      cond-false (eqb t.slot s) (Some t.target) (target_of ts s) (ne_eqb t.slot s (apart p.0)) ∙ none_of ts s p.1
    where
      apart : eqb s t.slot ≡ false → t.slot ≢ s
      apart f u = true≢false (sym (eq-eqb s t.slot (sym u)) ∙ f)

  -- each transfer counts once
  counted_once : (m : ℕ) (ts : List Transfer) → length owners ≡ m → AreTransfers ts → IsDistinct (slots ts)
      → sum_below (λ s. one_if (target_of ts s)) m ≡ length ts
  counted_once m [] width h d = sum_none (λ s. 0) m (λ s l. refl)
  counted_once m (t ∷ ts) width h d =
      let r : sum_below (λ s. one_if (target_of ts s)) m ≡ length ts = counted_once m ts width h.1 d.1 in
      let e : sum_below (λ s. one_if (cond (eqb t.slot s) (Some t.target) (target_of ts s))) m
      ≡ sum_below (λ s. cond (eqb t.slot s) 1 0 + one_if (target_of ts s)) m
      = sum_same (λ s. one_if (cond (eqb t.slot s) (Some t.target) (target_of ts s)))
      (λ s. cond (eqb t.slot s) 1 0 + one_if (target_of ts s)) m (λ s l. one s) in
      let p = sum_plus (λ s. cond (eqb t.slot s) 1 0) (λ s. one_if (target_of ts s)) m in
      let q : sum_below (λ s. cond (eqb t.slot s) 1 0) m ≡ 1 = sum_single_turned t.slot m (subst (λ k. t.slot < k) width h.0.within) in
      omega arith
    where
      one : (s : ℕ) → one_if (cond (eqb t.slot s) (Some t.target) (target_of ts s)) ≡ cond (eqb t.slot s) 1 0 + one_if (target_of ts s)
      one s = elim (cases_eq t.slot s) [
        | inl here ↦ ap one_if (cond-true (eqb t.slot s) (Some t.target) (target_of ts s) (eq-eqb t.slot s here))
            ∙ sym (ap (λ b. cond b 1 0 + one_if (target_of ts s)) (eq-eqb t.slot s here)
            ∙ ap (λ o. 1 + one_if o) (none_of ts s (subst (λ x. among x (slots ts) ≡ false) here d.0)))
        | inr apart ↦ ap one_if (cond-false (eqb t.slot s) (Some t.target) (target_of ts s) (ne_eqb t.slot s apart))
            ∙ sym (ap (λ b. cond b 1 0 + one_if (target_of ts s)) (ne_eqb t.slot s apart) ∙ zero_plus (one_if (target_of ts s)))
      ]
        where
          zero_plus : (k : ℕ) → 0 + k ≡ k
          zero_plus k = omega arith

  pub moved_planned : (batch : ℕ) (ts : List Transfer) → length owners ≡ 16384 → AreTransfers ts → IsDistinct (slots ts)
      → moved_count (plan_commands n (plan_of batch ts)) ≡ length ts
  moved_planned batch ts width h d = upto 16384 (sym width)
    where
      upto : (m : ℕ) → m ≡ length owners → sum_below (λ s. one_if_some (part (plan_commands n (plan_of batch ts)) s)) m ≡ length ts
      upto m e = sum_same (λ s. one_if_some (part (plan_commands n (plan_of batch ts)) s)) (λ s. one_if (target_of ts s)) m
          (λ s l. one_told (part (plan_commands n (plan_of batch ts)) s) ∙ ap one_if (target_planned n batch owners ts s h))
          ∙ counted_once m ts (sym e) h d
