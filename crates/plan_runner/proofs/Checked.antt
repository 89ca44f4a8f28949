-- The moves of several slots, and the lines of a plan, taken one after the other.
use Rattle.std.proofs.Common.{◌≡◌, ℕ, ◌+◌, ◌-◌, ◌≤◌, List, ◌∷◌, ◌++◌, length, drop, Result, Ok, Err, MatchResult, sym, ap, ◌∙◌, subst, arith, append_assoc, append-nil}
use Rattle.std.proofs.lemmas.List.{drop_all}
use Rattle.cluster_admin.specs.Phases.{Phases}
use Rattle.plan_language.specs.Lines.{line_commands, plan_commands, others, moves}
use Rattle.plan_language.specs.Moves.{move_of}
use Rattle.plan_language.specs.declared.line.Line.{Line}
use Rattle.plan_language.specs.declared.plan_command.PlanCommand.{PlanCommand}
use Rattle.plan_runner.specs.declared.verify_fault.VerifyFault.{VerifyFault}
use Rattle.plan_runner.specs.Verifying.{IsRefused}
use Rattle.plan_runner.specs.Standing.{CheckView, Stands, Takes}
use Rattle.plan_runner.proofs.Parts.{moves_split}

pub taken_ok : {A : Type 0} (v n : ℕ) (phases : Phases) (more prefix : List PlanCommand) (old new : CheckView) (r : Result A VerifyFault) (u : A) → Takes (record { version = v; nodes = n }) more old new r → r ≡ Ok u
    → Stands v n phases prefix old → Stands v n phases (prefix ++ more) new
taken_ok v n phases more prefix old new r u t e h = subst (λ x. MatchResult x (λ _. Stands v n phases (prefix ++ more) new) (λ f. (rest : List PlanCommand) → IsRefused v n phases (prefix ++ (more ++ rest)) f)) e (t phases prefix h)

pub taken_err : {A : Type 0} (v n : ℕ) (phases : Phases) (more prefix rest : List PlanCommand) (old new : CheckView) (r : Result A VerifyFault) (f : VerifyFault) → Takes (record { version = v; nodes = n }) more old new r → r ≡ Err f
    → Stands v n phases prefix old → IsRefused v n phases (prefix ++ (more ++ rest)) f
taken_err v n phases more prefix rest old new r f t e h = subst (λ x. MatchResult x (λ _. Stands v n phases (prefix ++ more) new) (λ f. (rest : List PlanCommand) → IsRefused v n phases (prefix ++ (more ++ rest)) f)) e (t phases prefix h) rest

-- ---- the moves of several slots

module _ (v n : ℕ) (phases : Phases) (prefix : List PlanCommand) (first s t b : ℕ) where
  abbrev pub Moved : ℕ → CheckView → Type 0
  Moved at check = Stands v n phases (prefix ++ moves n first (at - first) s t b) check

  pub none_moved : (at : ℕ) (check : CheckView) → at ≡ first → Stands v n phases prefix check → Moved at check
  unfolding moves
  none_moved at check e h = subst (λ k. Stands v n phases (prefix ++ moves n first k s t b) check) zero_is (subst (λ xs. Stands v n phases xs check) (sym (append-nil prefix)) h)
    where
      zero_is : 0 ≡ at - first
      zero_is = omega arith

  -- the moves of the slots below, and of this one
  one_more : (at : ℕ) → first ≤ at → moves n first (at + 1 - first) s t b ≡ moves n first (at - first) s t b ++ move_of at s t b (others n s t)
  unfolding moves
  one_more at h = (λ i. moves n first (count i) s t b) ∙ moves_split n (at - first) 1 first s t b
      ∙ ap (λ xs. moves n first (at - first) s t b ++ xs) (append-nil (move_of (first + (at - first)) s t b (others n s t)) ∙ (λ i. move_of (back i) s t b (others n s t)))
    where
      count : at + 1 - first ≡ (at - first) + 1
      count = omega arith

      back : first + (at - first) ≡ at
      back = omega arith

  pub one_moved : (at : ℕ) (old new : CheckView) (r : Result (Unit {0}) VerifyFault) (u : Unit {0}) → first ≤ at → Takes (record { version = v; nodes = n }) (move_of at s t b (others n s t)) old new r → r ≡ Ok u
      → Moved at old → Moved (at + 1) new
  one_moved at old new r u low takes e h =
      subst (λ xs. Stands v n phases xs new) (append_assoc prefix (moves n first (at - first) s t b) (move_of at s t b (others n s t)) ∙ ap (λ xs. prefix ++ xs) (sym (one_more at low)))
      (taken_ok v n phases (move_of at s t b (others n s t)) (prefix ++ moves n first (at - first) s t b) old new r u takes e h)

  -- the slots from this one on follow it
  pub stopped_at : (at last : ℕ) (rest : List PlanCommand) (old new : CheckView) (r : Result (Unit {0}) VerifyFault) (f : VerifyFault) → first ≤ at → at ≤ last
      → Takes (record { version = v; nodes = n }) (move_of at s t b (others n s t)) old new r → r ≡ Err f → Moved at old
      → IsRefused v n phases (prefix ++ (moves n first (last + 1 - first) s t b ++ rest)) f
  stopped_at at last rest old new r f low high takes e h =
      subst (λ xs. IsRefused v n phases xs f) whole
      (taken_err v n phases (move_of at s t b (others n s t)) (prefix ++ moves n first (at - first) s t b) (moves n (at + 1) (last - at) s t b ++ rest) old new r f takes e h)
    where
      done : List PlanCommand
      done = moves n first (at - first) s t b

      later : List PlanCommand
      later = moves n (at + 1) (last - at) s t b

      here : List PlanCommand
      here = move_of at s t b (others n s t)

      parted : moves n first (last + 1 - first) s t b ≡ done ++ (here ++ later)
      parted = (λ i. moves n first (count i) s t b) ∙ moves_split n (at + 1 - first) (last - at) first s t b
          ∙ (λ i. one_more at low i ++ moves n (next i) (last - at) s t b) ∙ append_assoc done here later
        where
          count : last + 1 - first ≡ (at + 1 - first) + (last - at)
          count = omega arith

          next : first + (at + 1 - first) ≡ at + 1
          next = omega arith

      whole : (prefix ++ done) ++ (here ++ (later ++ rest)) ≡ prefix ++ (moves n first (last + 1 - first) s t b ++ rest)
      whole = append_assoc prefix done (here ++ (later ++ rest))
          ∙ ap (λ xs. prefix ++ xs) (ap (λ xs. done ++ xs) (sym (append_assoc here later rest)) ∙ sym (append_assoc done (here ++ later) rest) ∙ ap (λ xs. xs ++ rest) (sym parted))

-- ---- the lines of a plan

pub line_taken : (v n : ℕ) (phases : Phases) (lines left : List Line) (line : Line) (taken : List PlanCommand) (old new : CheckView) (r : Result (Unit {0}) VerifyFault) (u : Unit {0})
    → Takes (record { version = v; nodes = n }) (line_commands n line) old new r → r ≡ Ok u → Stands v n phases taken old → plan_commands n lines ≡ taken ++ plan_commands n (line ∷ left)
    → (more : List PlanCommand) × Stands v n phases more new × (plan_commands n lines ≡ more ++ plan_commands n left)
line_taken v n phases lines left line taken old new r u takes e h whole = (
  taken ++ line_commands n line,
  taken_ok v n phases (line_commands n line) taken old new r u takes e h,
  whole ∙ sym (append_assoc taken (line_commands n line) (plan_commands n left)),
)

pub line_refused : (v n : ℕ) (phases : Phases) (lines left : List Line) (line : Line) (taken : List PlanCommand) (old new : CheckView) (r : Result (Unit {0}) VerifyFault) (f : VerifyFault)
    → Takes (record { version = v; nodes = n }) (line_commands n line) old new r → r ≡ Err f → Stands v n phases taken old → plan_commands n lines ≡ taken ++ plan_commands n (line ∷ left)
    → IsRefused v n phases (plan_commands n lines) f
line_refused v n phases lines left line taken old new r f takes e h whole =
    subst (λ xs. IsRefused v n phases xs f) (sym whole) (taken_err v n phases (line_commands n line) taken (plan_commands n left) old new r f takes e h)

-- no line is left
pub all_taken : (v n : ℕ) (phases : Phases) (lines : List Line) (i : ℕ) (check : CheckView) → length lines ≤ i
    → (taken : List PlanCommand) × Stands v n phases taken check × (plan_commands n lines ≡ taken ++ plan_commands n (drop i lines))
    → Stands v n phases (plan_commands n lines) check
all_taken v n phases lines i check h t =
    subst (λ xs. Stands v n phases xs check) (sym (t.2 ∙ ap (λ ls. t.0 ++ plan_commands n ls) (drop_all i lines h) ∙ append-nil t.0)) t.1
