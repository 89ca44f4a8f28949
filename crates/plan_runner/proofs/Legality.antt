-- A plan is legal exactly where no command is at fault and no slot is left open.
use Rattle.std.proofs.Common.{◌≡◌, ◌≢◌, ℕ, ◌<◌, ◌≤◌, false, List, [], ◌∷◌, ◌++◌, Result, Ok, Err, sym, refl, ap, ◌∙◌, subst, inl, inr, append_assoc, arith}
use Rattle.std.proofs.lemmas.Bool.{cases_lt, true≢false}
use Rattle.std.specs.List.{AllByRecursion}
use Rattle.plan_language.specs.Lines.{HasBatch, FitsVersion, IsLine, plan_commands}
use Rattle.cluster_admin.specs.Phases.{Phases, IsPhase}
use Rattle.plan_language.specs.declared.line.Line.{Line}
use Rattle.plan_language.specs.declared.plan_command.PlanCommand.{PlanCommand}
use Rattle.plan_semantics.specs.Plans.{part, Legal}
use Rattle.plan_runner.specs.declared.command_fault.CommandFault.{CommandFault}
use Rattle.plan_runner.specs.declared.verify_fault.CommandPlace.{CommandPlace}
use Rattle.plan_runner.specs.declared.verify_fault.VerifyFault.{VerifyFault}
use Rattle.plan_runner.specs.SlotStates.{State, is_open, first_state, and_then, state_after, state_of}
use Rattle.plan_runner.specs.declared.verify_fault.VerifyFault.TheVariants as verify_fault
use Rattle.plan_runner.specs.Verifying.{LastAt, IsAtFault, IsLeftOpen, IsRefused, RefusedBy}
use Rattle.plan_runner.specs.Sound.{AreSound}
use Rattle.plan_runner.specs.Standing.{CheckView, slot_at, Stands, IsLowestOpen}
use Rattle.plan_runner.proofs.Sendable.{FitsCommand, batches, commands_fit, taken_sound}
use Rattle.plan_runner.proofs.Parts.{part_append, part_names, part_all}
use Rattle.plan_runner.proofs.OneSlot.{ok_is, EndsWell}
use Rattle.plan_runner.proofs.Accepting.{state_after_more}
use Rattle.plan_runner.proofs.PartEnds.{part_is, part_ends}
use Rattle.plan_runner.proofs.Standing.{each_state}

err_ok : {x : State} {what : CommandFault} → (let r : Result State CommandFault = Err what in r) ≡ Ok x → ⊥
err_ok e = cc

module _ (v n : ℕ) (phases : Phases) (plan : List PlanCommand) (fits : n ≤ 255) (are : (s : ℕ) → IsPhase n (phases s)) where
  -- every slot's commands are taken, and it is not left open
  abbrev pub AllEnd : Type 0
  AllEnd = (s : ℕ) → EndsWell v n (first_state n (phases s)) (part plan s)

  pub ends_legal : AllByRecursion HasBatch plan → AllByRecursion (FitsCommand v) plan → ((s : ℕ) → 16384 ≤ s → part plan s ≡ []) → AllEnd
      → Legal v plan phases n
  ends_legal some fit none h s = part_is v n s fits (phases s) (part plan s) (are s) (part_names plan s) (part_all HasBatch plan s some) (part_all (FitsCommand v) plan s fit) low (h s)
    where
      low : part plan s ≢ [] → s < 16384
      low e = elim (cases_lt s 16384) [ inl a ↦ a | inr a ↦ absurd (e (none s a)) ]

  pub legal_ends : Legal v plan phases n → AllEnd
  legal_ends legal s = part_ends v n s fits (phases s) (part plan s) (are s) (legal s)

  -- ---- what is refused is not legal

  fault_illegal : (what : CommandFault) (place : CommandPlace) → IsAtFault v n phases plan what place → Legal v plan phases n → ⊥
  fault_illegal what place r legal = err_ok (sym stopped ∙ (legal_ends legal place.slot).1)
    where
      after_fault : (xs ys : List PlanCommand) → state_after v n (first_state n (phases place.slot)) xs ≡ Err what
          → state_after v n (first_state n (phases place.slot)) (xs ++ ys) ≡ Err what
      after_fault xs ys e = state_after_more v n (first_state n (phases place.slot)) xs ys
          ∙ ap (λ r. and_then r (λ x. state_after v n x ys)) e

      stopped : state_of v n phases plan place.slot ≡ Err what
      stopped =
          ap (λ p. state_of v n phases p place.slot) (r.0.is ∙ sym (append_assoc r.0.prefix (r.0.command ∷ []) r.0.rest))
          ∙ ap (state_after v n (first_state n (phases place.slot))) (part_append (r.0.prefix ++ r.0.command ∷ []) r.0.rest place.slot)
          ∙ after_fault (part (r.0.prefix ++ r.0.command ∷ []) place.slot) (part r.0.rest place.slot) r.2

  open_illegal : (place : CommandPlace) → IsLeftOpen v n phases plan place → Legal v plan phases n → ⊥
  open_illegal place r legal =
      let e = legal_ends legal place.slot in
      let o = r.2 in
      true≢false (sym o.2 ∙ ap is_open (ok_is (sym o.1 ∙ e.1)) ∙ e.2)

  pub refused_illegal : (f : VerifyFault) → IsRefused v n phases plan f → Legal v plan phases n → ⊥
  refused_illegal f (inl r) legal = fault_illegal r.0 r.1 r.3 legal
  refused_illegal f (inr r) legal = open_illegal r.0 r.2 legal

-- ---- what is kept of the whole plan decides

-- a slot that is left open
left_is_open : (v n : ℕ) (phases : Phases) (plan : List PlanCommand) (check : CheckView) (place : CommandPlace) → Stands v n phases plan check
    → IsLowestOpen check place → IsLeftOpen v n phases plan place
left_is_open v n phases plan check place h l = (
  subst (λ k. LastAt plan (record { slot = place.slot; command = k })) (sym l.last) (h.lasts place.slot low l.open_still),
  each_state v n phases plan check h,
  ((slot_at check.slots place.slot).state, h.states place.slot low, l.open_still),
  (λ s b u. true≢false (sym u.2 ∙ ap is_open (ok_is (sym u.1 ∙ h.states s (less s b))) ∙ l.lower s b)),
)
  where
    low : place.slot < 16384
    low = subst (λ w. place.slot < w) h.width l.slot_below

    less : (s : ℕ) → s < place.slot → s < 16384
    less s b = omega (arith, low)

pub left_refused : (v n : ℕ) (phases : Phases) (plan : List PlanCommand) (check : CheckView) (place : CommandPlace) → n ≤ 255
    → ((s : ℕ) → IsPhase n (phases s))
    → Stands v n phases plan check → IsLowestOpen check place → RefusedBy v n phases plan (verify_fault.LeftOpen place)
left_refused v n phases plan check place fits are h l =
    let r : IsRefused v n phases plan (verify_fault.LeftOpen place) = inr (place, refl, left_is_open v n phases plan check place h l) in
    inr (r, refused_illegal v n phases plan fits are (verify_fault.LeftOpen place) r)

pub fault_refused : (v n : ℕ) (phases : Phases) (plan : List PlanCommand) (f : VerifyFault) → n ≤ 255 → ((s : ℕ) → IsPhase n (phases s))
    → IsRefused v n phases plan f → RefusedBy v n phases plan f
fault_refused v n phases plan f fits are r = inr (r, refused_illegal v n phases plan fits are f r)

-- past the last slot nothing is on its way
pub none_left : (v n : ℕ) (phases : Phases) (lines : List Line) (check : CheckView) → n ≤ 255 → ((s : ℕ) → IsPhase n (phases s))
    → ((s : ℕ) → 16384 ≤ s → is_open (first_state n (phases s)) ≡ false) → AllByRecursion IsLine lines → AllByRecursion (FitsVersion v) lines
    → Stands v n phases (plan_commands n lines) check → ((s : ℕ) → s < 16384 → is_open (slot_at check.slots s).state ≡ false)
    → Legal v (plan_commands n lines) phases n × AreSound n (plan_commands n lines)
none_left v n phases lines check fits are beyond each fit h closed = (
  ends_legal v n phases (plan_commands n lines) fits are sizes (commands_fit v n lines fit) h.none_beyond all,
  taken_sound v n phases (plan_commands n lines) (each_state v n phases (plan_commands n lines) check h) sizes,
)
  where
    sizes : AllByRecursion HasBatch (plan_commands n lines)
    sizes = batches n lines each

    all : AllEnd v n phases (plan_commands n lines) fits are
    all s = elim (cases_lt s 16384) [
      | inl low ↦ ((slot_at check.slots s).state, h.states s low, closed s low)
      | inr past ↦ (first_state n (phases s), ap (state_after v n (first_state n (phases s))) (h.none_beyond s past), beyond s past)
    ]
