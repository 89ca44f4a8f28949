-- The plan of all rests: what its lines are, and that it is legal.
use Rattle.std.proofs.Common.{◌≡◌, ◌≢◌, ℕ, zero, suc, ◌+◌, ◌-◌, ◌*◌, ◌<◌, ◌≤◌, Bool, true, false, cond, not, eqb, nat_le, ◌&&◌, List, [], ◌∷◌, ◌++◌, length, filter, None, Some, sym, refl, ap, ◌∙◌, subst, arith, inl, inr, add-one, append_assoc, append-nil}
use Rattle.std.proofs.lemmas.Bool.{cases_eq, cases_lt, true≢false, eq-eqb, eqb-true, leb-true, ne_eqb, cond-true, cond-false, or_cases}
use Rattle.std.proofs.lemmas.List.{length-map}
use Rattle.std.specs.Prelude.{OnOk, Result, Ok, Err}
use Rattle.std.specs.List.{AllByRecursion}
use Rattle.cluster_admin.specs.Phases.{Phase, Phases, IsPhase, AreTwo, among, IsDistinct}
use Rattle.cluster_admin.specs.Phases as phase
use Rattle.cluster_admin.specs.Surveys.{Survey, HasPhaseIn, IsBlankBeyond, owner_at, nodes_saying}
use Rattle.cluster_admin.proofs.Phasing.{among_passing}
use Rattle.plan_language.specs.Limits.{limits_of}
use Rattle.plan_language.specs.Lines.{numbers_from, others, line_commands, plan_commands, count}
use Rattle.plan_language.specs.MovesLeft.{others_from}
use Rattle.plan_language.proofs.MovesLeft.{others_step}
use Rattle.plan_language.specs.PlanView.{PlanView}
use Rattle.plan_language.specs.declared.limits.Limits.{Limits}
use Rattle.plan_language.specs.declared.line.Line.{Line}
use Rattle.plan_language.specs.declared.line.Line.TheVariants as line
use Rattle.plan_language.specs.declared.plan_command.PlanCommand.{PlanCommand}
use Rattle.plan_language.specs.declared.plan_command.PlanCommand.TheVariants as planned
use Rattle.plan_semantics.specs.Plans.{part, slot_named, tell, IsPart, Legal}
use Rattle.plan_semantics.specs.Surveyed.{Shows, node_count}
use Rattle.plan_semantics.proofs.OnePhase.{SamePhase, one_phase, all_among}
use Rattle.plan_semantics.proofs.Others.{others_ends, counted_among, counted_distinct, filter_among}
use Rattle.plan_semantics.proofs.OwnedMoves.{part-append}
use Rattle.reshard_planner.specs.Blank.{names_for, plan_for}
use Rattle.reshard_planner.specs.Resuming.{told_if, Adds, ascending, lines_for, rest_of, rests_below, room, width}

-- ---- lines at the end of a plan

lines_for-append : (xs ys : List PlanCommand) → lines_for (xs ++ ys) ≡ lines_for xs ++ lines_for ys
lines_for-append [] ys = refl
lines_for-append (x ∷ xs) ys = ap (λ l. line.Command x ∷ l) (lines_for-append xs ys)

-- one command, and then others
pub adds_more : (old mid new : PlanView) (xs ys : List PlanCommand) → Adds old mid xs → Adds mid new ys → Adds old new (xs ++ ys)
adds_more old mid new xs ys a b = b ∙ (λ i. record { version = (a i).version; names = (a i).names; lines = (a i).lines ++ lines_for ys })
    ∙ (λ i. record { version = old.version; names = old.names; lines = (append_assoc old.lines (lines_for xs) (lines_for ys) ∙ ap (λ l. old.lines ++ l) (sym (lines_for-append xs ys))) i })

pub adds_none : (plan : PlanView) → Adds plan plan []
adds_none plan = λ i. record { version = plan.version; names = plan.names; lines = sym (append-nil plan.lines) i }

pub on_ok_then : {A E : Type 0} (r : Result A E) (P Q : Type 0) → OnOk r P → (P → Q) → OnOk r Q
on_ok_then (Ok x) P Q h f = f h
on_ok_then (Err e) P Q h f = h

count-append : (l : Limits) (xs : List Line) (cs : List PlanCommand) → count l (xs ++ lines_for cs) ≡ count l xs + length cs
count-append l [] [] = refl
count-append l [] (c ∷ cs) = let e : count l (lines_for cs) ≡ 0 + length cs = count-append l [] cs in omega arith
count-append l (x ∷ xs) cs = let e = count-append l xs cs in omega arith

-- commands take as much of the room
pub room_added : (old new : PlanView) (cs : List PlanCommand) → Adds old new cs → length cs ≤ room old
    → room new + length cs ≡ room old
room_added old new cs a h =
    let e : count (limits_of new.names) new.lines ≡ count (limits_of old.names) old.lines + length cs
    = ap (λ p. count (limits_of p.names) p.lines) a ∙ count-append (limits_of old.names) old.lines cs in
    let f : (limits_of new.names).commands ≡ (limits_of old.names).commands = ap (λ p. (limits_of p.names).commands) a in
    left (limits_of old.names).commands (limits_of new.names).commands (count (limits_of old.names) old.lines)
    (count (limits_of new.names) new.lines) (length cs) e f h
  where
    left : (c d x y n : ℕ) → y ≡ x + n → d ≡ c → n ≤ c - x → d - y + n ≡ c - x
    left c d x y n e f h = omega arith

pub room_one : (old new : PlanView) (c : PlanCommand) → Adds old new (c ∷ []) → 1 ≤ room old → room new + 1 ≡ room old
room_one old new c a h = room_added old new (c ∷ []) a h

pub width_added : (old new : PlanView) (cs : List PlanCommand) → Adds old new cs → width new ≡ width old
width_added old new cs a = ap (λ p. (limits_of p.names).nodes) a

pub adds_same : (old new : PlanView) (xs ys : List PlanCommand) → xs ≡ ys → Adds old new xs → Adds old new ys
adds_same old new xs ys e a = subst (Adds old new) e a

-- one slot more that has a phase
pub phases_more : (v : Survey) (k slot : ℕ) (p : Phase) → slot ≡ k → HasPhaseIn v slot p → ((s : ℕ) → s < k → (q : Phase) × HasPhaseIn v s q)
    → (s : ℕ) → s < k + 1 → (q : Phase) × HasPhaseIn v s q
phases_more v k slot p is has below s h = elim (cases_eq s k) [
  | inl u ↦ (p, subst (λ x. HasPhaseIn v x p) (is ∙ sym u) has)
  | inr u ↦ below s (lower s k h u)
]
  where
    lower : (s k : ℕ) → s < k + 1 → s ≢ k → s < k
    lower s k h u = omega arith

-- ---- nodes that are told

few_filtered : (p : ℕ → Bool) (k first : ℕ) → length (filter p (numbers_from first k)) ≤ k
unfolding numbers_from
few_filtered p zero first = omega arith
few_filtered p (suc k) first = by (p first) (few_filtered p k (first + 1))
  where
    by : (b : Bool) → length (filter p (numbers_from (first + 1) k)) ≤ k
        → length (cond b (first ∷ filter p (numbers_from (first + 1) k)) (filter p (numbers_from (first + 1) k))) ≤ suc k
    by true h = omega arith
    by false h = omega arith

few_others : (n o t : ℕ) → length (others n o t) ≤ n
unfolding others
few_others n o t = few_filtered (λ m. not (eqb m o) && not (eqb m t)) n 0

few_told : (s t k : ℕ) (ms : List ℕ) → length ms ≤ k → length (tell s t ms) ≤ k
few_told s t k ms h = let e = length-map ms (λ m. planned.SetNode s t m) in omega arith

pub rest_few : (n s b : ℕ) (p : Phase) → length (rest_of n s b p) ≤ n + 3
rest_few n s b (phase.Closed o) = omega arith
rest_few n s b (phase.Importing o t) = omega arith
rest_few n s b (phase.Migrating o t) = let e = few_told s t n (others n o t) (few_others n o t) in omega arith
rest_few n s b (phase.TargetTold o t) = let e = few_told s t n (others n o t) (few_others n o t) in omega arith
rest_few n s b (phase.SourceTold o t left) = let e = few_told s t n (ascending n left) (few_filtered (λ m. among m left) n 0) in omega arith

-- ---- the same phase has the same rest

rest_of_same : (n s b : ℕ) (p q : Phase) → SamePhase p q → rest_of n s b p ≡ rest_of n s b q
rest_of_same n s b (phase.Closed o) (phase.Closed o') h = refl
rest_of_same n s b (phase.Importing o t) (phase.Importing o' t') h = λ i. planned.Stable s (h.1 i) ∷ []
rest_of_same n s b (phase.Migrating o t) (phase.Migrating o' t') h = λ i. rest_of n s b (phase.Migrating (h.0 i) (h.1 i))
rest_of_same n s b (phase.TargetTold o t) (phase.TargetTold o' t') h = λ i. rest_of n s b (phase.TargetTold (h.0 i) (h.1 i))
rest_of_same n s b (phase.SourceTold o t left) (phase.SourceTold o' t' left') h =
    λ i. tell s (h.1 i) (filter (λ m. h.2 m i) (numbers_from 0 n))
rest_of_same n s b p q h = absurd h

pub rest_same : (v : Survey) (s b : ℕ) (p q : Phase) → HasPhaseIn v s p → HasPhaseIn v s q
    → rest_of (node_count v) s b p ≡ rest_of (node_count v) s b q
rest_same v s b p q a c = rest_of_same (node_count v) s b p q (one_phase (length v.rows) _ _ _ p q a c)

-- ---- legal

names_told : (s t : ℕ) (ms : List ℕ) → AllByRecursion (λ o. slot_named o ≡ s) (tell s t ms)
names_told s t [] = tt
names_told s t (m ∷ ms) = (refl, names_told s t ms)

names_rest : (n s b : ℕ) (p : Phase) → AllByRecursion (λ o. slot_named o ≡ s) (rest_of n s b p)
names_rest n s b (phase.Closed o) = tt
names_rest n s b (phase.Importing o t) = (refl, tt)
names_rest n s b (phase.Migrating o t) = (refl, (refl, (refl, names_told s t (others n o t))))
names_rest n s b (phase.TargetTold o t) = (refl, names_told s t (others n o t))
names_rest n s b (phase.SourceTold o t left) = names_told s t (ascending n left)

part_same : (s : ℕ) (os : List PlanCommand) → AllByRecursion (λ o. slot_named o ≡ s) os → part os s ≡ os
part_same s [] h = refl
part_same s (o ∷ os) h = cond-true _ _ _ (eq-eqb (slot_named o) s h.0) ∙ ap (λ l. o ∷ l) (part_same s os h.1)

part_none : (s x : ℕ) (os : List PlanCommand) → x ≢ s → AllByRecursion (λ o. slot_named o ≡ s) os → part os x ≡ []
part_none s x [] e h = refl
part_none s x (o ∷ os) e h =
    cond-false _ _ _ (ne_eqb (slot_named o) x (λ u. e (sym u ∙ h.0))) ∙ part_none s x os e h.1

commands-append : (n : ℕ) (xs ys : List Line) → plan_commands n (xs ++ ys) ≡ plan_commands n xs ++ plan_commands n ys
commands-append n [] ys = refl
commands-append n (x ∷ xs) ys = ap (λ l. line_commands n x ++ l) (commands-append n xs ys)
    ∙ sym (append_assoc (line_commands n x) (plan_commands n xs) (plan_commands n ys))

commands_for : (n : ℕ) (cs : List PlanCommand) → plan_commands n (lines_for cs) ≡ cs
commands_for n [] = refl
commands_for n (c ∷ cs) = ap (λ l. c ∷ l) (commands_for n cs)

module _ (n b : ℕ) (phases : Phases) where
  pub rests_more : (k : ℕ) → rests_below n b phases (k + 1) ≡ rests_below n b phases k ++ lines_for (rest_of n k b (phases k))
  unfolding rests_below
  rests_more k = ap (rests_below n b phases) (add-one k)

  pub rests_none : rests_below n b phases 0 ≡ []
  unfolding rests_below
  rests_none = refl

  part_more : (k x : ℕ) → part (plan_commands n (rests_below n b phases (suc k))) x
      ≡ part (plan_commands n (rests_below n b phases k)) x ++ part (rest_of n k b (phases k)) x
  unfolding rests_below
  part_more k x = ap (λ os. part os x) (commands-append n (rests_below n b phases k) (lines_for (rest_of n k b (phases k)))
      ∙ ap (λ os. plan_commands n (rests_below n b phases k) ++ os) (commands_for n (rest_of n k b (phases k))))
      ∙ part-append (plan_commands n (rests_below n b phases k)) (rest_of n k b (phases k)) x

  part_past : (k x : ℕ) → k ≤ x → part (plan_commands n (rests_below n b phases k)) x ≡ []
  unfolding rests_below
  part_past zero x h = refl
  part_past (suc k) x h = part_more k x ∙ ap (λ os. os ++ part (rest_of n k b (phases k)) x) (part_past k x (omega arith))
      ∙ part_none k x (rest_of n k b (phases k)) (λ e. apart k x e h) (names_rest n k b (phases k))
    where
      apart : (k x : ℕ) → x ≡ k → suc k ≤ x → ⊥
      apart k x e h = omega arith

  part_within : (k x : ℕ) → x < k → part (plan_commands n (rests_below n b phases k)) x ≡ rest_of n x b (phases x)
  part_within zero x h = absurd (omega arith)
  part_within (suc k) x h = part_more k x ∙ elim (cases_eq x k) [
    | inl u ↦ ap (λ os. os ++ part (rest_of n k b (phases k)) x) (part_past k x (omega arith))
        ∙ ap (λ y. part (rest_of n k b (phases k)) y) u ∙ part_same k (rest_of n k b (phases k)) (names_rest n k b (phases k))
        ∙ ap (λ y. rest_of n y b (phases y)) (sym u)
    | inr u ↦ ap (λ os. os ++ part (rest_of n k b (phases k)) x) (part_within k x (lower x k h u))
        ∙ ap (λ os. rest_of n x b (phases x) ++ os) (part_none k x (rest_of n k b (phases k)) u (names_rest n k b (phases k)))
        ∙ append-nil (rest_of n x b (phases x))
  ]
    where
      lower : (x k : ℕ) → x < suc k → x ≢ k → x < k
      lower x k h u = omega arith

-- what passes a test is among what is left
among_filtered : (p : ℕ → Bool) (xs : List ℕ) (m : ℕ) → among m (filter p xs) ≡ true → p m ≡ true
among_filtered p [] m e = absurd (true≢false (sym e))
among_filtered p (x ∷ xs) m e = by (p x) refl e (among_filtered p xs m)
  where
    by : (c : Bool) → p x ≡ c → among m (cond c (x ∷ filter p xs) (filter p xs)) ≡ true → (among m (filter p xs) ≡ true → p m ≡ true) → p m ≡ true
    by true u f g = elim (or_cases (eqb m x) (among m (filter p xs)) f) [
      | inl w ↦ ap p (eqb-true m x w) ∙ u
      | inr w ↦ g w
    ]
    by false u f g = g f

same_ascending : (n o t : ℕ) (left : List ℕ) → AllByRecursion (λ m. (m < n) × (m ≢ o) × (m ≢ t)) left → (m : ℕ) → among m (ascending n left) ≡ among m left
same_ascending n o t left all m = by (among m (ascending n left)) (among m left) refl refl
  where
    below : (n m : ℕ) → m < n → m < 0 + n
    below n m h = omega arith

    by : (c d : Bool) → among m (ascending n left) ≡ c → among m left ≡ d → among m (ascending n left) ≡ among m left
    by true true e f = e ∙ sym f
    by false false e f = e ∙ sym f
    by true false e f = absurd (true≢false (sym (among_filtered (λ x. among x left) (numbers_from 0 n) m e) ∙ f))
    by false true e f = absurd (true≢false (sym (filter_among (λ x. among x left) (numbers_from 0 n) m f
        (counted_among n 0 m (omega arith) (below n m (all_among (λ q. (q < n) × (q ≢ o) × (q ≢ t)) left all m f).0))) ∙ e))

rest_is_part : (n s b : ℕ) (p : Phase) → 1 ≤ b → s < 16384 → IsPhase n p → IsPart 3 n s p (rest_of n s b p)
rest_is_part n s b (phase.Closed o) some low fine = record {
  closing = [];
  owner = o;
  closes = (refl, refl);
  legs = [];
  are = tt;
  keeps = λ e. omega arith;
  is = refl;
  below = λ e. low;
}
rest_is_part n s b (phase.Importing o t) some low fine = record {
  closing = rest_of n s b (phase.Importing o t);
  owner = o;
  closes = inl (refl, refl, refl);
  legs = [];
  are = tt;
  keeps = λ e. refl;
  is = refl;
  below = λ e. low;
}
rest_is_part n s b (phase.Migrating o t) some low fine = record {
  closing = rest_of n s b (phase.Migrating o t);
  owner = t;
  closes = (b, others n o t, some, others_ends n o t fine.apart fine.source_below fine.target_below, refl, refl);
  legs = [];
  are = tt;
  keeps = λ e. refl;
  is = sym (append-nil (rest_of n s b (phase.Migrating o t)));
  below = λ e. low;
}
rest_is_part n s b (phase.TargetTold o t) some low fine = record {
  closing = rest_of n s b (phase.TargetTold o t);
  owner = t;
  closes = (others n o t, others_ends n o t fine.apart fine.source_below fine.target_below, refl, refl);
  legs = [];
  are = tt;
  keeps = λ e. refl;
  is = sym (append-nil (rest_of n s b (phase.TargetTold o t)));
  below = λ e. low;
}
rest_is_part n s b (phase.SourceTold o t left) some low fine = record {
  closing = rest_of n s b (phase.SourceTold o t left);
  owner = t;
  closes = (ascending n left, counted_distinct (λ m. among m left) n 0, same_ascending n o t left fine.1.each_other, refl, refl);
  legs = [];
  are = tt;
  keeps = λ e. refl;
  is = sym (append-nil (rest_of n s b (phase.SourceTold o t left)));
  below = λ e. low;
}

-- a slot that nothing is said of is closed
nothing_is_part : (n s o : ℕ) (p : Phase) → SamePhase p (phase.Closed o) → IsPart 3 n s p []
nothing_is_part n s o (phase.Closed o') h = record {
  closing = [];
  owner = o';
  closes = (refl, refl);
  legs = [];
  are = tt;
  keeps = λ e. omega arith;
  is = refl;
  below = λ e. absurd (e refl);
}
nothing_is_part n s o (phase.Importing a t) h = absurd h
nothing_is_part n s o (phase.Migrating a t) h = absurd h
nothing_is_part n s o (phase.TargetTold a t) h = absurd h
nothing_is_part n s o (phase.SourceTold a t left) h = absurd h

pub resumed_is_legal : (v : Survey) (b : ℕ) (phases : Phases) (lines : List Line) → 1 ≤ length v.rows → IsBlankBeyond v → 1 ≤ b → Shows v phases
    → lines ≡ rests_below (node_count v) b phases 16384 → Legal 3 (plan_commands (node_count v) lines) phases (node_count v)
resumed_is_legal v b phases lines some blank keys shows is s = elim (cases_lt s 16384) [
  | inl low ↦ subst (IsPart 3 (node_count v) s (phases s)) (sym (all ∙ part_within (node_count v) b phases 16384 s low))
      (rest_is_part (node_count v) s b (phases s) keys low ((shows s).fine))
  | inr past ↦ subst (IsPart 3 (node_count v) s (phases s)) (sym (all ∙ part_past (node_count v) b phases 16384 s past))
      (nothing_is_part (node_count v) s 0 (phases s) (one_phase (length v.rows) _ _ _ (phases s) (phase.Closed 0) (shows s) (closed past)))
]
  where
    all : part (plan_commands (node_count v) lines) s ≡ part (plan_commands (node_count v) (rests_below (node_count v) b phases 16384)) s
    all = ap (λ ls. part (plan_commands (node_count v) ls) s) is

    closed : 16384 ≤ s → HasPhaseIn v s (phase.Closed 0)
    closed past = record {
      fine = some;
      owners = λ m h. blank.owners m s past;
      going = λ m h. blank.migrating m s past;
      coming = λ m h. blank.importing m s past;
    }

-- ---- the nodes that still say the source, ascending

unfoldable pub saying_from : Survey → (slot source from : ℕ) → List ℕ
saying_from v s o from = filter (λ m. among m (nodes_saying v s o)) (numbers_from from (length v.rows - from))

pub saying_step : (v : Survey) (s o m : ℕ) → m < length v.rows → saying_from v s o m
    ≡ cond (eqb (owner_at v m s) o) (m ∷ saying_from v s o (m + 1)) (saying_from v s o (m + 1))
unfolding saying_from numbers_from
saying_step v s o m h = ap (λ k. filter (λ x. among x (nodes_saying v s o)) (numbers_from m k)) (more (length v.rows) m h)
    ∙ ap (λ c. cond c (m ∷ saying_from v s o (m + 1)) (saying_from v s o (m + 1)))
    (among_passing (λ x. eqb (owner_at v x s) o) (length v.rows) m h)
  where
    more : (n m : ℕ) → m < n → n - m ≡ suc (n - (m + 1))
    more n m h = omega arith

pub saying_none : (v : Survey) (s o m : ℕ) → length v.rows ≤ m → saying_from v s o m ≡ []
unfolding saying_from numbers_from
saying_none v s o m h = ap (λ k. filter (λ x. among x (nodes_saying v s o)) (numbers_from m k)) (none (length v.rows) m h)
  where
    none : (n m : ℕ) → n ≤ m → n - m ≡ 0
    none n m h = omega arith

pub saying_all : (v : Survey) (s o : ℕ) → ascending (length v.rows) (nodes_saying v s o) ≡ saying_from v s o 0
unfolding saying_from
saying_all v s o = ap (λ k. filter (λ x. among x (nodes_saying v s o)) (numbers_from 0 k)) (all (length v.rows))
  where
    all : (n : ℕ) → n ≡ n - 0
    all n = omega arith

-- ---- nodes that are told one after the other

pub other_step : (n s t k node : ℕ) (b : Bool) → k < n → node ≡ k → b ≡ (not (eqb node s) && not (eqb node t))
    → others_from n s t k ≡ cond b (node ∷ others_from n s t (k + 1)) (others_from n s t (k + 1))
other_step n s t k node b h is e = others_step n s t k h
    ∙ (λ i. cond (sym (e ∙ ap (λ x. not (eqb x s) && not (eqb x t)) is) i) (sym is i ∷ others_from n s t (k + 1)) (others_from n s t (k + 1)))

pub left_step : (v : Survey) (s o k node x : ℕ) (b : Bool) → k < length v.rows → node ≡ k → x ≡ owner_at v node s → b ≡ eqb x o
    → saying_from v s o k ≡ cond b (node ∷ saying_from v s o (k + 1)) (saying_from v s o (k + 1))
left_step v s o k node x b h is owner e = saying_step v s o k h
    ∙ (λ i. cond (sym (e ∙ ap (λ y. eqb y o) owner ∙ ap (λ y. eqb (owner_at v y s) o) is) i) (sym is i ∷ saying_from v s o (k + 1)) (saying_from v s o (k + 1)))

lines_told : (b : Bool) (s t m : ℕ) (rest : List ℕ) → lines_for (tell s t (cond b (m ∷ rest) rest)) ≡ lines_for (told_if b s t m) ++ lines_for (tell s t rest)
lines_told true s t m rest = refl
lines_told false s t m rest = refl

pub told_step : (start now new : PlanView) (s t m : ℕ) (b : Bool) (ms rest all : List ℕ) → ms ≡ cond b (m ∷ rest) rest → Adds now new (told_if b s t m)
    → now.lines ++ lines_for (tell s t ms) ≡ start.lines ++ lines_for (tell s t all)
    → new.lines ++ lines_for (tell s t rest) ≡ start.lines ++ lines_for (tell s t all)
told_step start now new s t m b ms rest all is a h =
    ap (λ p. p.lines ++ lines_for (tell s t rest)) a
    ∙ append_assoc now.lines (lines_for (told_if b s t m)) (lines_for (tell s t rest))
    ∙ ap (λ l. now.lines ++ l) (sym (lines_told b s t m rest) ∙ ap (λ x. lines_for (tell s t x)) (sym is)) ∙ h

pub told_all : (start now : PlanView) (s t : ℕ) (ms all : List ℕ) → now.version ≡ start.version → now.names ≡ start.names → ms ≡ []
    → now.lines ++ lines_for (tell s t ms) ≡ start.lines ++ lines_for (tell s t all) → Adds start now (tell s t all)
told_all start now s t ms all version names none h =
    let lines : now.lines ≡ start.lines ++ lines_for (tell s t all)
    = sym (append-nil now.lines) ∙ ap (λ x. now.lines ++ lines_for (tell s t x)) (sym none) ∙ h in
    λ i. record { version = version i; names = names i; lines = lines i }

-- ---- the rests of all slots

pub rests_step : (v : Survey) (b k slot : ℕ) (phases : Phases) (now new : PlanView) → slot ≡ k → Shows v phases
    → ((p : Phase) → HasPhaseIn v slot p → Adds now new (rest_of (node_count v) slot b p)) → now.lines ≡ rests_below (node_count v) b phases k
    → new.lines ≡ rests_below (node_count v) b phases (k + 1)
rests_step v b k slot phases now new is shows adds h =
    ap (λ p. p.lines) (adds (phases slot) (shows slot)) ∙ ap (λ l. l ++ lines_for (rest_of (node_count v) slot b (phases slot))) h
    ∙ ap (λ x. rests_below (node_count v) b phases k ++ lines_for (rest_of (node_count v) x b (phases x))) is
    ∙ sym (rests_more (node_count v) b phases k)

-- ---- there is room for the rests of all slots

-- as many commands as a slot's rest has at most, by the limits of a plan for so many nodes
abbrev pub most_rest : ℕ → ℕ
most_rest n = cond (nat_le n 8) 11 258

pub roomy_first : (n m : ℕ) (plan : PlanView) → plan ≡ plan_for 3 m [] → m ≡ n → most_rest n * (16384 - 0) ≤ room plan
roomy_first n m plan e is = subst (λ p. most_rest n * (16384 - 0) ≤ room p) (sym (e ∙ ap (λ k. plan_for 3 k []) is)) (by (nat_le n 8))
  where
    by : (b : Bool) → cond b 11 258 * (16384 - 0) ≤ (limits_of (cond b None (Some []))).commands - 0
    by true = omega arith
    by false = omega arith

pub roomy_now : (n k : ℕ) (plan : PlanView) → n ≤ 255 → k < 16384 → most_rest n * (16384 - k) ≤ room plan → n + 3 ≤ room plan
roomy_now n k plan most h = by (nat_le n 8) refl
  where
    by : (b : Bool) → nat_le n 8 ≡ b → cond b 11 258 * (16384 - k) ≤ room plan → n + 3 ≤ room plan
    by true e r = let l : n ≤ 8 = leb-true n 8 e in omega arith
    by false e r = omega arith

roomy_step : (n k x y len : ℕ) → n ≤ 255 → k < 16384 → len ≤ n + 3 → y + len ≡ x → most_rest n * (16384 - k) ≤ x
    → most_rest n * (16384 - (k + 1)) ≤ y
roomy_step n k x y len most h few e = by (nat_le n 8) refl
  where
    by : (b : Bool) → nat_le n 8 ≡ b → cond b 11 258 * (16384 - k) ≤ x → cond b 11 258 * (16384 - (k + 1)) ≤ y
    by true u r = let l : n ≤ 8 = leb-true n 8 u in omega arith
    by false u r = omega arith

-- how much room is left, by any of its phases
pub rests_few : (v : Survey) (b k slot : ℕ) (now new : PlanView) (p : Phase) → length v.rows ≤ 255 → k < 16384 → HasPhaseIn v slot p
    → ((p : Phase) → HasPhaseIn v slot p → Adds now new (rest_of (node_count v) slot b p))
    → most_rest (node_count v) * (16384 - k) ≤ room now
    → (most_rest (node_count v) * (16384 - (k + 1)) ≤ room new) × (new.version ≡ now.version) × (new.names ≡ now.names)
rests_few v b k slot now new p most low has adds h =
    let r = rest_few (node_count v) slot b p in
    let l = roomy_now (node_count v) k now most low h in
    let e = room_added now new (rest_of (node_count v) slot b p) (adds p has) (omega (arith, r, l)) in (
      roomy_step (node_count v) k (room now) (room new) (length (rest_of (node_count v) slot b p)) most low r e h,
      ap (λ q. q.version) (adds p has),
      ap (λ q. q.names) (adds p has),
    )

-- ---- the nodes of a phase

-- the two nodes of a slot that is on its way are among the nodes
abbrev pub AreEndsBelow : ℕ → Phase → Type 0
AreEndsBelow n (phase.Closed o) = Unit {0}
AreEndsBelow n (phase.Importing s t) = (s < n) × (t < n)
AreEndsBelow n (phase.Migrating s t) = (s < n) × (t < n)
AreEndsBelow n (phase.TargetTold s t) = (s < n) × (t < n)
AreEndsBelow n (phase.SourceTold s t left) = (s < n) × (t < n)

pub ends_below : (n : ℕ) (p : Phase) → IsPhase n p → AreEndsBelow n p
ends_below n (phase.Closed o) fine = tt
ends_below n (phase.Importing s t) fine = (fine.source_below, fine.target_below)
ends_below n (phase.Migrating s t) fine = (fine.source_below, fine.target_below)
ends_below n (phase.TargetTold s t) fine = (fine.source_below, fine.target_below)
ends_below n (phase.SourceTold s t left) fine = (fine.0.source_below, fine.0.target_below)
