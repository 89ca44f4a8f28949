-- A plan of `move` lines over distinct slots: what each slot's commands are.
use Rattle.std.proofs.Common.{◌≡◌, ◌≢◌, ◌⊎◌, ℕ, zero, suc, ◌+◌, ◌-◌, ◌<◌, ◌≤◌, Bool, true, false, cond, eqb, ◌||◌, List, [], ◌∷◌, ◌++◌, map, append-nil, slice_index, sym, refl, ap, ◌∙◌, subst, arith, inl, inr}
use Rattle.std.proofs.lemmas.Bool.{cases_Bool, cases_eq, cases_lt, true≢false, cond-true, cond-false, eq-eqb, eqb-true, ne_eqb, or_cases, or_left, or_parts, or_right}
use Rattle.std.specs.List.{AllByRecursion}
use Rattle.plan_language.specs.declared.limits.Limits.{Limits}
use Rattle.plan_language.specs.declared.line.Line.{Line}
use Rattle.plan_language.specs.declared.line.Line.TheVariants.{Command, Move}
use Rattle.plan_language.specs.declared.plan_command.PlanCommand.{PlanCommand}
use Rattle.plan_language.specs.declared.plan_command.PlanCommand.TheVariants as planned
use Rattle.plan_language.specs.Lines.{numbers_from, others, moves, plan_commands, line_commands, IsLine, IsWithin}
use Rattle.plan_language.specs.Moves.{move_of}
use Rattle.cluster_admin.specs.Phases.{closed_by}
use Rattle.cluster_admin.specs.Phases as phase
use Rattle.plan_semantics.specs.Plans.{slot_named, part, among, tell, IsDistinct, AreEnds, IsPart, Leg}
use Rattle.plan_semantics.specs.Plans as leg
use Rattle.plan_semantics.specs.OwnedMoves.{slots_in, slots_moved, IsOwnedMove, OwnedMovesAreLegal}
use Rattle.plan_semantics.proofs.Others.{others_ends}

-- ---- the commands of a plan that name a slot

-- all commands name the slot
abbrev Name : ℕ → List PlanCommand → Type 0
Name s os = AllByRecursion (λ o. slot_named o ≡ s) os

pub part-append : (xs ys : List PlanCommand) (x : ℕ) → part (xs ++ ys) x ≡ part xs x ++ part ys x
part-append [] ys x = refl
part-append (o ∷ xs) ys x = by (eqb (slot_named o) x) (part-append xs ys x)
  where
    by : (b : Bool) → part (xs ++ ys) x ≡ part xs x ++ part ys x
        → cond b (o ∷ part (xs ++ ys) x) (part (xs ++ ys) x) ≡ cond b (o ∷ part xs x) (part xs x) ++ part ys x
    by true e = ap (λ l. o ∷ l) e
    by false e = e

part_same : (s : ℕ) (os : List PlanCommand) → Name s os → part os s ≡ os
part_same s [] h = refl
part_same s (o ∷ os) h = cond-true _ _ _ (eq-eqb (slot_named o) s h.0) ∙ ap (λ l. o ∷ l) (part_same s os h.1)

part_none : (s x : ℕ) (os : List PlanCommand) → s ≢ x → Name s os → part os x ≡ []
part_none s x [] apart h = refl
part_none s x (o ∷ os) apart h =
    cond-false _ _ _ (ne_eqb (slot_named o) x (λ u. apart (sym h.0 ∙ u))) ∙ part_none s x os apart h.1

tellings_name : (s target : ℕ) (nodes : List ℕ) → Name s (map (λ m. planned.SetNode s target m) nodes)
tellings_name s target [] = tt
tellings_name s target (m ∷ nodes) = (refl, tellings_name s target nodes)

move_names : (s source target batch : ℕ) (nodes : List ℕ) → Name s (move_of s source target batch nodes)
move_names s source target batch nodes = (refl, (refl, (refl, (refl, (refl, tellings_name s target nodes)))))

-- ---- the commands of one line

pub part_below : (n k first s t b x : ℕ) → x < first → part (moves n first k s t b) x ≡ []
unfolding moves
part_below n zero first s t b x low = refl
part_below n (suc k) first s t b x low =
    part-append (move_of first s t b (others n s t)) (moves n (first + 1) k s t b) x
    ∙ ap (λ l. l ++ part (moves n (first + 1) k s t b) x)
    (part_none first x (move_of first s t b (others n s t)) (apart first x low) (move_names first s t b (others n s t)))
    ∙ part_below n k (first + 1) s t b x (omega arith)
  where
    apart : (first x : ℕ) → x < first → first ≢ x
    apart first x low e = omega arith

pub part_above : (n k first s t b x : ℕ) → first + k ≤ x → part (moves n first k s t b) x ≡ []
unfolding moves
part_above n zero first s t b x high = refl
part_above n (suc k) first s t b x high =
    part-append (move_of first s t b (others n s t)) (moves n (first + 1) k s t b) x
    ∙ ap (λ l. l ++ part (moves n (first + 1) k s t b) x)
    (part_none first x (move_of first s t b (others n s t)) (apart k first x high)
    (move_names first s t b (others n s t)))
    ∙ part_above n k (first + 1) s t b x (omega arith)
  where
    apart : (k first x : ℕ) → first + suc k ≤ x → first ≢ x
    apart k first x high e = omega arith

pub part_within : (n k first s t b x : ℕ) → first ≤ x → x < first + k
    → part (moves n first k s t b) x ≡ move_of x s t b (others n s t)
unfolding moves
part_within n zero first s t b x low high = absurd (omega arith)
part_within n (suc k) first s t b x low high = elim (cases_eq first x) [
  | inl here ↦ part-append (move_of first s t b (others n s t)) (moves n (first + 1) k s t b) x
      ∙ ap (λ l. l ++ part (moves n (first + 1) k s t b) x)
      (ap (part (move_of first s t b (others n s t))) (sym here)
      ∙ part_same first (move_of first s t b (others n s t)) (move_names first s t b (others n s t)))
      ∙ ap (λ l. move_of first s t b (others n s t) ++ l) (part_below n k (first + 1) s t b x (omega arith))
      ∙ all (move_of first s t b (others n s t)) ∙ ap (λ y. move_of y s t b (others n s t)) here
  | inr apart ↦ part-append (move_of first s t b (others n s t)) (moves n (first + 1) k s t b) x
      ∙ ap (λ l. l ++ part (moves n (first + 1) k s t b) x)
      (part_none first x (move_of first s t b (others n s t)) apart (move_names first s t b (others n s t)))
      ∙ part_within n k (first + 1) s t b x (omega arith) (omega arith)
]
  where
    all : (os : List PlanCommand) → os ++ [] ≡ os
    all [] = refl
    all (o ∷ os) = ap (λ l. o ∷ l) (all os)

-- ---- the slots of one line

pub counted_within : (k first x : ℕ) → among x (numbers_from first k) ≡ true → (first ≤ x) × (x < first + k)
unfolding numbers_from
counted_within zero first x e = absurd (true≢false (sym e))
counted_within (suc k) first x e = elim (or_cases (eqb x first) (among x (numbers_from (first + 1) k)) e) [
  | inl here ↦ (let u : x ≡ first = eqb-true x first here in (omega arith, omega arith))
  | inr later ↦ (let h = counted_within k (first + 1) x later in (omega (arith, h.0), omega (arith, h.1)))
]

pub within_counted : (k first x : ℕ) → first ≤ x → x < first + k → among x (numbers_from first k) ≡ true
unfolding numbers_from
within_counted zero first x low high = absurd (omega arith)
within_counted (suc k) first x low high = elim (cases_eq x first) [
  | inl here ↦ or_left (eqb x first) (among x (numbers_from (first + 1) k)) (eq-eqb x first here)
  | inr apart ↦ or_right (eqb x first) (among x (numbers_from (first + 1) k))
      (within_counted k (first + 1) x (omega arith) (omega arith))
]

-- ---- distinct slots

pub among-append : (x : ℕ) (xs ys : List ℕ) → among x (xs ++ ys) ≡ (among x xs || among x ys)
among-append x [] ys = refl
among-append x (y ∷ xs) ys = by (eqb x y) (among-append x xs ys)
  where
    by : (b : Bool) → among x (xs ++ ys) ≡ (among x xs || among x ys)
        → (b || among x (xs ++ ys)) ≡ ((b || among x xs) || among x ys)
    by true e = refl
    by false e = e

pub distinct_rest : (xs ys : List ℕ) → IsDistinct (xs ++ ys) → IsDistinct ys
distinct_rest [] ys h = h
distinct_rest (x ∷ xs) ys h = distinct_rest xs ys h.1

pub distinct_apart : (x : ℕ) (xs ys : List ℕ) → IsDistinct (xs ++ ys) → among x xs ≡ true → among x ys ≡ false
distinct_apart x [] ys h e = absurd (true≢false (sym e))
distinct_apart x (y ∷ xs) ys h e = elim (or_cases (eqb x y) (among x xs) e) [
  | inl here ↦ (or_parts (among x xs) (among x ys)
      (sym (among-append x xs ys) ∙ ap (λ z. among z (xs ++ ys)) (eqb-true x y here) ∙ h.0)).1
  | inr later ↦ distinct_apart x xs ys h.1 later
]

-- ---- the commands of a plan

abbrev AreOwned : (n : ℕ) → List ℕ → List Line → Type 0
AreOwned n owners lines = AllByRecursion (IsOwnedMove n owners) lines

outside : (first last x : ℕ) → first ≤ last → among x (numbers_from first (last + 1 - first)) ≡ false
    → (x < first) ⊎ (first + (last + 1 - first) ≤ x)
outside first last x order e = elim (cases_lt x first) [
  | inl low ↦ inl low
  | inr from ↦ elim (cases_lt x (first + (last + 1 - first))) [
    | inl within ↦ absurd (true≢false (sym (within_counted (last + 1 - first) first x from within) ∙ e))
    | inr high ↦ inr high
  ]
]

-- a line has no command of another slot
pub line_none : (n x : ℕ) (owners : List ℕ) (line : Line) → IsLine line → IsOwnedMove n owners line
    → among x (slots_in line) ≡ false → part (line_commands n line) x ≡ []
line_none n x owners (Command command) l o e = absurd o
line_none n x owners (Move first last s t b) l o e = elim (outside first last x l.0 e) [
  | inl low ↦ part_below n (last + 1 - first) first s t b x low
  | inr high ↦ part_above n (last + 1 - first) first s t b x high
]

-- and no plan of such lines
pub lines_none : (n x : ℕ) (owners : List ℕ) (lines : List Line) → AllByRecursion IsLine lines → AreOwned n owners lines
    → among x (slots_moved lines) ≡ false → part (plan_commands n lines) x ≡ []
lines_none n x owners [] l o e = refl
lines_none n x owners (line ∷ lines) l o e =
    let none = or_parts (among x (slots_in line)) (among x (slots_moved lines))
    (sym (among-append x (slots_in line) (slots_moved lines)) ∙ e) in
    part-append (line_commands n line) (plan_commands n lines) x
    ∙ ap (λ p. p ++ part (plan_commands n lines) x) (line_none n x owners line l.0 o.0 none.0)
    ∙ lines_none n x owners lines l.1 o.1 none.1

-- a line moves each of its slots
pub record MovesSlot (n x : ℕ) (owners : List ℕ) (commands : List PlanCommand) : Type 0 where
  pub target : ℕ
  pub batch : ℕ
  pub others : List ℕ
  pub some : 0 < batch
  pub slot_below : x < 16384
  pub ends : AreEnds n (slice_index owners x) target others
  pub is : commands ≡ move_of x (slice_index owners x) target batch others

line_moves : (n x : ℕ) (limits : Limits) (owners : List ℕ) (line : Line) → IsLine line → IsWithin limits line → IsOwnedMove n owners line
    → among x (slots_in line) ≡ true → MovesSlot n x owners (part (line_commands n line) x)
line_moves n x limits owners (Command command) l w o e = absurd o
line_moves n x limits owners (Move first last s t b) l w o e =
    let place = counted_within (last + 1 - first) first x e in
    let owned : slice_index owners x ≡ s = o.3 x place.0 (omega (arith, place.1)) in
    record {
      target = t;
      batch = b;
      others = others n s t;
      some = omega (arith, l.1);
      slot_below = omega (arith, place.1, w.0);
      ends = subst (λ y. AreEnds n y t (others n s t)) (sym owned) (others_ends n s t o.2 o.0 o.1);
      is = part_within n (last + 1 - first) first s t b x place.0 place.1
          ∙ ap (λ y. move_of x y t b (others n s t)) (sym owned);
    }

-- ---- the parts of such a plan

module _ (version n x : ℕ) (owners : List ℕ) where
  left_alone : (commands : List PlanCommand) → commands ≡ [] → IsPart version n x (phase.Closed (slice_index owners x)) commands
  left_alone commands e = record {
    closing = [];
    owner = slice_index owners x;
    closes = (refl, refl);
    legs = [];
    are = tt;
    keeps = λ v. omega arith;
    is = e;
    below = λ some. absurd (some e);
  }

  moved_once : (commands : List PlanCommand) → MovesSlot n x owners commands
      → IsPart version n x (phase.Closed (slice_index owners x)) commands
  moved_once commands m = record {
    closing = [];
    owner = slice_index owners x;
    closes = (refl, refl);
    legs = leg.Move m.target m.batch m.others ∷ [];
    are = (m.some, m.ends, tt);
    keeps = λ v. omega arith;
    is = m.is ∙ ap (λ rest. planned.Importing x (slice_index owners x) m.target ∷ planned.Migrating x m.target (slice_index owners x)
        ∷ planned.Drain x (slice_index owners x) m.target m.batch ∷ planned.SetNode x m.target m.target
        ∷ planned.SetNode x m.target (slice_index owners x) ∷ rest) (sym (append-nil (tell x m.target m.others)));
    below = λ some. m.slot_below;
  }

pub owned_moves_are_legal : OwnedMovesAreLegal
owned_moves_are_legal version n limits owners lines h o distinct x = by lines h.0 h.2 o distinct
  where
    first_part : (line : Line) (lines : List Line) → part (plan_commands n lines) x ≡ []
        → part (plan_commands n (line ∷ lines)) x ≡ part (line_commands n line) x
    first_part line lines none = part-append (line_commands n line) (plan_commands n lines) x
        ∙ ap (λ p. part (line_commands n line) x ++ p) none ∙ append-nil (part (line_commands n line) x)

    later_part : (line : Line) (lines : List Line) → part (line_commands n line) x ≡ []
        → part (plan_commands n (line ∷ lines)) x ≡ part (plan_commands n lines) x
    later_part line lines none = part-append (line_commands n line) (plan_commands n lines) x
        ∙ ap (λ p. p ++ part (plan_commands n lines) x) none

    Fits : List PlanCommand → Type 0
    Fits commands = IsPart version n x (phase.Closed (slice_index owners x)) commands

    by : (lines : List Line) → AllByRecursion IsLine lines → AllByRecursion (IsWithin limits) lines → AreOwned n owners lines
        → IsDistinct (slots_moved lines) → Fits (part (plan_commands n lines) x)
    by [] l w o d = left_alone version n x owners [] refl
    by (line ∷ lines) l w o d = elim (cases_Bool (among x (slots_in line))) [
      | inl here ↦ (
          let m = line_moves n x limits owners line l.0 w.0 o.0 here in
          let none = lines_none n x owners lines l.1 o.1 (distinct_apart x (slots_in line) (slots_moved lines) d here) in
          subst Fits (sym (first_part line lines none)) (moved_once version n x owners (part (line_commands n line) x) m))
      | inr not_here ↦ subst Fits (sym (later_part line lines (line_none n x owners line l.0 o.0 not_here)))
          (by lines l.1 w.1 o.1 (distinct_rest (slots_in line) (slots_moved lines) d))
    ]
