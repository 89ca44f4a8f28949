-- One plan of version 3 carries out what is left of every part: what a drain had emptied is listed once more.
use Rattle.std.proofs.Common.{◌≡◌, ◌≢◌, ℕ, zero, suc, ◌<◌, ◌≤◌, true, false, List, [], ◌∷◌, ◌++◌, Option, sym, refl, ap, ◌∙◌, subst, arith, inl, inr}
use Rattle.std.proofs.lemmas.Bool.{cases_eq}
use Rattle.store_commands.specs.Store.{Key}
use Rattle.cluster_admin.specs.Phases as phase
use Rattle.cluster_world.specs.Worlds.{World}
use Rattle.plan_language.specs.declared.plan_command.PlanCommand.{PlanCommand}
use Rattle.plan_language.specs.declared.plan_command.PlanCommand.TheVariants as planned
use Rattle.plan_semantics.specs.Plans.{AreLegs, Closes, IsPart, KeepsVersion, Leg, Move, Try, first_owner, last_told, legs_of, part, tell}
use Rattle.plan_semantics.proofs.OwnedMoves.{part-append}
use Rattle.reshard_theorem.proofs.Phases.{Closed, Drained, TargetTold, More, Migrating, Importing, Phase, Rest, SourceTold, leg_end}
use Rattle.reshard_theorem.proofs.Stops.{outer}
use Rattle.reshard_theorem.proofs.Whole.{part_end}
use Rattle.slotwise_runs.proofs.Parts.{AllOf, part-all, part-of_other}

-- ---- a part for each slot

-- these commands, slot by slot, of the slots below k
abbrev pub listed_below : ℕ → (ℕ → List PlanCommand) → List PlanCommand
listed_below zero parts = []
listed_below (suc k) parts = listed_below k parts ++ parts k

module _ (parts : ℕ → List PlanCommand) (all : (s : ℕ) → AllOf s (parts s)) where
  pub beyond : (k s : ℕ) → k ≤ s → part (listed_below k parts) s ≡ []
  beyond zero s h = refl
  beyond (suc k) s h = part-append (listed_below k parts) (parts k) s ∙ ap (λ l. l ++ part (parts k) s) (beyond k s (omega arith))
      ∙ part-of_other k s (parts k) (λ e. apart k s h e) (all k)
    where
      apart : (a b : ℕ) → suc a ≤ b → a ≡ b → ⊥
      apart a b le e = omega arith

  pub part-below : (k s : ℕ) → s < k → part (listed_below k parts) s ≡ parts s
  part-below zero s h = absurd (omega arith)
  part-below (suc k) s h = part-append (listed_below k parts) (parts k) s ∙ elim (cases_eq k s) [
    | inl e ↦ subst (λ u. part (listed_below k parts) u ++ part (parts k) u ≡ parts u) e
        (ap (λ l. l ++ part (parts k) k) (beyond k k (omega arith)) ∙ part-all k (parts k) (all k))
    | inr e ↦ ap (λ l. part (listed_below k parts) s ++ l) (part-of_other k s (parts k) e (all k)) ∙ append-none (part (listed_below k parts) s)
        ∙ part-below k s (below k s h e)
  ]
    where
      below : (a b : ℕ) → b < suc a → a ≢ b → b < a
      below a b h e = omega arith

      append-none : (xs : List PlanCommand) → xs ++ [] ≡ xs
      append-none [] = refl
      append-none (x ∷ xs) = ap (λ l. x ∷ l) (append-none xs)

-- ---- the part of a slot from where it stands

-- what was drained is listed once more
abbrev pub part_from : ℕ → Phase → List PlanCommand → List PlanCommand
part_from s (Closed o) rest = rest
part_from s (Importing o t) rest = rest
part_from s (Migrating o t) rest = rest
part_from s (Drained o t) rest = planned.Drain s o t 1 ∷ rest
part_from s (TargetTold o t) rest = rest
part_from s (SourceTold o t left) rest = rest

pub all-from : (s : ℕ) (q : Phase) (rest : List PlanCommand) → AllOf s rest → AllOf s (part_from s q rest)
all-from s (Closed o) rest h = h
all-from s (Importing o t) rest h = h
all-from s (Migrating o t) rest h = h
all-from s (Drained o t) rest h = (refl, h)
all-from s (TargetTold o t) rest h = h
all-from s (SourceTold o t left) rest h = h

three : (v n o : ℕ) (legs : List Leg) → AreLegs v n o legs → AreLegs 3 n o legs
three v n o [] h = tt
three v n o (Move t b others ∷ legs) h = (h.0, h.1, three v n t legs h.2)
three v n o (Try t ∷ legs) h = (refl, h.1, three v n o legs h.2)

keeps_three : (p : phase.Phase) (legs : List Leg) → KeepsVersion 3 p legs
keeps_three (phase.Closed o) legs = λ e. absurd (omega (arith, e))
keeps_three (phase.Importing o t) legs = λ e. absurd (omega (arith, e))
keeps_three (phase.Migrating o t) legs = λ e. absurd (omega (arith, e))
keeps_three (phase.TargetTold o t) legs = λ e. absurd (omega (arith, e))
keeps_three (phase.SourceTold o t left) legs = λ e. absurd (omega (arith, e))

module _ (n goal s : ℕ) where
  -- a part, and the owner that it leaves
  pub record FromHere (p : phase.Phase) (commands : List PlanCommand) : Type 0 where
    pub is_part : IsPart 3 n s p commands
    pub ends : leg_end is_part.owner is_part.legs ≡ goal

  make : (p : phase.Phase) (commands closing more : List PlanCommand) (o : ℕ) → Closes 3 n s p closing o
      → (commands ≢ [] → s < 16384) → commands ≡ closing ++ more → (g : More n goal s o more) → FromHere p commands
  make p commands closing more o closes below is g = record {
    is_part = record {
      closing = closing;
      owner = o;
      closes = closes;
      legs = g.legs;
      are = three g.version n o g.legs g.are;
      keeps = keeps_three p g.legs;
      is = is ∙ ap (λ l. closing ++ l) g.is;
      below = below;
    };
    ends = g.end;
  }

  pub from_here : (q : Phase) (rest : List PlanCommand) → Rest n goal s q rest → FromHere (outer q) (part_from s q rest)
  from_here (Closed o) rest l = make (phase.Closed o) rest [] rest o (refl, refl) l.below refl l.goes_on
  from_here (Importing o t) rest (inl l) = make (phase.Importing o t) rest
      (planned.Migrating s t o ∷ planned.Drain s o t l.batch ∷ planned.SetNode s t t ∷ planned.SetNode s t o ∷ tell s t l.others) l.more t
      (inr (l.batch, l.others, l.some, l.ends, refl, refl)) (λ e. l.below) l.is l.goes_on
  from_here (Importing o t) rest (inr l) = make (phase.Importing o t) rest (planned.Stable s t ∷ []) l.more o
      (inl (refl, refl, refl)) (λ e. l.below) l.is l.goes_on
  from_here (Migrating o t) rest l = make (phase.Migrating o t) rest
      (planned.Drain s o t l.batch ∷ planned.SetNode s t t ∷ planned.SetNode s t o ∷ tell s t l.others) l.more t
      (l.batch, l.others, l.some, l.ends, refl, refl) (λ e. l.below) l.is l.goes_on
  from_here (Drained o t) rest l = make (phase.Migrating o t) (planned.Drain s o t 1 ∷ rest)
      (planned.Drain s o t 1 ∷ planned.SetNode s t t ∷ planned.SetNode s t o ∷ tell s t l.others) l.more t
      (1, l.others, omega arith, l.ends, refl, refl) (λ e. l.below) (ap (λ m. planned.Drain s o t 1 ∷ m) l.is) l.goes_on
  from_here (TargetTold o t) rest l = make (phase.TargetTold o t) rest (planned.SetNode s t o ∷ tell s t l.others) l.more t
      (l.others, l.ends, refl, refl) (λ e. l.below) l.is l.goes_on
  from_here (SourceTold o t left) rest l = make (phase.SourceTold o t left) rest (tell s t left) l.more t
      (left, l.others.distinct, λ m. refl, refl, refl) (λ e. l.below) l.is l.goes_on

  pub final_from : (p : phase.Phase) (commands : List PlanCommand) → FromHere p commands → last_told (first_owner p) commands ≡ goal
  final_from p commands h = sym (part_end 3 n s p commands h.is_part) ∙ h.ends
