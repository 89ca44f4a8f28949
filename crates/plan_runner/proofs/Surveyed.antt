-- A plan over a survey: its first states, and what decides in the end.
use Rattle.std.proofs.Common.{◌≡◌, ◌≢◌, ◌⊎◌, ℕ, ◌+◌, ◌<◌, ◌≤◌, Bool, true, false, eqb, List, [], ◌∷◌, length, sym, refl, ap, ◌∙◌, subst, arith, inl, inr, set, nat_cmp, slice_index, length-set, get_or-set_same, ◌++◌, append-nil, Ok}
use Rattle.std.specs.List.{AllByRecursion}
use Rattle.std.proofs.lemmas.List.{get_or-set_other, get_or_past, length-replicate, get_or-replicate}
use Rattle.std.specs.FinMap.{get, get-empty}
use Rattle.std.specs.Prelude.{replicate}
use Rattle.std.specs.List.{All}
use Rattle.std.proofs.lemmas.Bool.{cases_eq, cases_lt, true≢false, eq-eqb, ne_eqb}
use Rattle.plan_language.specs.Limits.{limits_of}
use Rattle.plan_language.specs.Lines.{ArePlanLines, FitsVersion, plan_commands}
use Rattle.key_slots.specs.Owners.{IsTable, Owners}
use Rattle.plan_language.specs.PlanView.{PlanView}
use Rattle.plan_language.specs.declared.line.Line.{Line}
use Rattle.cluster_admin.specs.Phases.{Phase, Phases, IsPhase, HasPhase, among, closed_by}
use Rattle.cluster_admin.specs.Phases as phase
use Rattle.cluster_admin.specs.Surveys.{Survey, HasPhaseIn, IsOpenSurvey, IsBlankBeyond, owner_at, row_at, closed_row}
use Rattle.cluster_admin.specs.Surveys.{closed_survey, nodes_saying, phase_seen}
use Rattle.cluster_admin.specs.declared.phase.Phase.{Phase as SeenPhase}
use Rattle.cluster_admin.specs.declared.phase.Phase.TheVariants as seen
use Rattle.plan_semantics.specs.Plans.{Legal}
use Rattle.plan_semantics.specs.Retargets.{phase_target}
use Rattle.plan_runner.specs.SlotStates.{State, is_open, first_state, none_told, told_but}
use Rattle.plan_runner.specs.Targets.{Marks, marked}
use Rattle.plan_runner.specs.Standing.{CheckView, SlotView, at_first, IsLowestOpen, Stands, first_progress, slot_at}
use Rattle.plan_runner.specs.declared.slot_state.SlotState.TheVariants as state
use Rattle.plan_runner.specs.declared.verify_fault.CommandPlace.{CommandPlace}
use Rattle.plan_runner.specs.declared.verify_fault.VerifyFault.{VerifyFault}
use Rattle.plan_runner.specs.declared.verify_fault.VerifyFault.TheVariants as verify_fault
use Rattle.plan_runner.specs.Sound.{AreSound}
use Rattle.plan_runner.specs.Verifying.{IsVerified, IsRefused, IsRefusedOver, RefusedBy, TellsRetargets, commands_of}
use Rattle.plan_semantics.specs.Surveyed.{Shows, node_count}
use Rattle.plan_runner.proofs.OneSlot.{none_is, none_width}
use Rattle.cluster_admin.proofs.Phasing.{among_passing}
use Rattle.plan_runner.proofs.OnePhase.{one_first}
use Rattle.plan_runner.proofs.ToldBut.{none_yet, with_one, without_one}
use Rattle.plan_runner.proofs.Legality.{fault_refused, left_refused, none_left}
use Rattle.plan_runner.proofs.Targets.{marks_all, first_distinct_targets}

-- ---- the nodes that do not say the source

-- whether a node is among those that say so is what it says
said : (v : Survey) (s o k : ℕ) → k < length v.rows → among k (nodes_saying v s o) ≡ eqb (owner_at v k s) o
said v s o k h = among_passing (λ n. eqb (owner_at v n s) o) (length v.rows) k h

pub says : (v : Survey) (s o k x : ℕ) → k < length v.rows → x ≡ owner_at v k s → x ≡ o
    → told_but k (nodes_saying v s o) ≡ told_but (k + 1) (nodes_saying v s o)
says v s o k x low is e = without_one k (nodes_saying v s o) (said v s o k low ∙ eq-eqb (owner_at v k s) o (sym is ∙ e))

pub says_not : (v : Survey) (s o k x : ℕ) → k < length v.rows → x ≡ owner_at v k s → x ≢ o
    → set (told_but k (nodes_saying v s o)) k true ≡ told_but (k + 1) (nodes_saying v s o)
says_not v s o k x low is e = with_one k (nodes_saying v s o) (said v s o k low ∙ ne_eqb (owner_at v k s) o (λ u. e (is ∙ u)))

pub ruleset saying = (none_yet, says, says_not)

-- ---- the first states

pub same_first : (v : Survey) (s : ℕ) (p q : Phase) → HasPhaseIn v s p → HasPhaseIn v s q → first_state (length v.rows) p ≡ first_state (length v.rows) q
same_first v s p q a b = one_first (length v.rows) _ _ _ p q a b

-- the target by which a slot begins is seen of its state
state_target : State → List ℕ
state_target (state.Importing s t) = t ∷ []
state_target (state.Migrating s t) = t ∷ []
state_target (state.Drained s t) = t ∷ []
state_target (state.TargetTold s t) = t ∷ []
state_target (state.SourceTold s t told) = t ∷ []
state_target (state.Untouched o) = []
state_target state.Moved = []

target_seen : (n : ℕ) (p : Phase) → phase_target p ≡ state_target (first_state n p)
unfolding state_target
target_seen n (phase.Closed o) = refl
target_seen n (phase.Importing s t) = refl
target_seen n (phase.Migrating s t) = refl
target_seen n (phase.TargetTold s t) = refl
target_seen n (phase.SourceTold s t left) = refl

pub same_progress : (v : Survey) (s : ℕ) (p q : Phase) → HasPhaseIn v s p → HasPhaseIn v s q → first_progress (length v.rows) p ≡ first_progress (length v.rows) q
same_progress v s p q a b =
    let e = same_first v s p q a b in
    let t : phase_target p ≡ phase_target q = target_seen (length v.rows) p ∙ ap state_target e ∙ sym (target_seen (length v.rows) q) in
    λ i. record { state = e i; targets = marked none_told (t i); last = 0 }

-- past the last slot all are closed
beyond : (v : Survey) (phases : Phases) → 1 ≤ length v.rows → IsBlankBeyond v → Shows v phases → (s : ℕ) → 16384 ≤ s → is_open (first_state (length v.rows) (phases s)) ≡ false
beyond v phases some blank shows s past = ap is_open (same_first v s (phases s) (phase.Closed 0) (shows s) closed)
  where
    closed : HasPhaseIn v s (phase.Closed 0)
    closed = record {
      fine = some;
      owners = λ m h. blank.owners m s past;
      going = λ m h. blank.migrating m s past;
      coming = λ m h. blank.importing m s past;
    }

-- the target of a phase is one of the nodes
pub target_few : (n w : ℕ) (p : Phase) → n ≤ w → IsPhase n p → AllByRecursion (λ m. m < w) (phase_target p)
target_few n w (phase.Closed o) fits fine = tt
target_few n w (phase.Importing s t) fits fine = let h = fine.target_below in (omega arith, tt)
target_few n w (phase.Migrating s t) fits fine = let h = fine.target_below in (omega arith, tt)
target_few n w (phase.TargetTold s t) fits fine = let h = fine.target_below in (omega arith, tt)
target_few n w (phase.SourceTold s t left) fits fine = let h = fine.0.target_below in (omega arith, tt)

-- so it is for a phase that was seen, whatever is said of it elsewhere
pub targets_within : (v v' : Survey) (s s' w : ℕ) (p : SeenPhase) → length v.rows ≤ w → HasPhaseIn v s (phase_seen v s p)
    → AllByRecursion (λ m. m < w) (phase_target (phase_seen v' s' p))
targets_within v v' s s' w p fits has =
    subst (AllByRecursion (λ m. m < w)) (same_target p) (target_few (length v.rows) w (phase_seen v s p) fits has.fine)
  where
    same_target : (p : SeenPhase) → phase_target (phase_seen v s p) ≡ phase_target (phase_seen v' s' p)
    same_target (seen.Closed o) = refl
    same_target (seen.Importing a z) = refl
    same_target (seen.Migrating a z) = refl
    same_target (seen.TargetTold a z) = refl
    same_target (seen.SourceTold a z) = refl

-- so it is for one of the phases that have a target
pub seen_within : (n : ℕ) (p : SeenPhase) (t : ℕ) → ((v : Survey) (s : ℕ) → AllByRecursion (λ m. m < n) (phase_target (phase_seen v s p)))
    → ((a : ℕ) × (p ≡ seen.Importing a t)) ⊎ (((a : ℕ) × (p ≡ seen.Migrating a t)) ⊎ (((a : ℕ) × (p ≡ seen.TargetTold a t)) ⊎ ((a : ℕ) × (p ≡ seen.SourceTold a t)))) → t < n
seen_within n p t h is = by is
  where
    within : (q : SeenPhase) → p ≡ q → AllByRecursion (λ m. m < n) (phase_target (phase_seen (record { rows = [] }) 0 q))
    within q e = subst (λ x. AllByRecursion (λ m. m < n) (phase_target (phase_seen (record { rows = [] }) 0 x))) e (h (record { rows = [] }) 0)

    by : ((a : ℕ) × (p ≡ seen.Importing a t)) ⊎ (((a : ℕ) × (p ≡ seen.Migrating a t)) ⊎ (((a : ℕ) × (p ≡ seen.TargetTold a t)) ⊎ ((a : ℕ) × (p ≡ seen.SourceTold a t)))) → t < n
    by (inl e) = (within (seen.Importing e.0 t) e.1).0
    by (inr (inl e)) = (within (seen.Migrating e.0 t) e.1).0
    by (inr (inr (inl e))) = (within (seen.TargetTold e.0 t) e.1).0
    by (inr (inr (inr e))) = (within (seen.SourceTold e.0 t) e.1).0

-- what stands before the first command
abbrev pub AreFirst : Survey → List SlotView → Type 0
AreFirst v slots = (s : ℕ) → s < 16384 → (p : Phase) → HasPhaseIn v s p → slot_at slots s ≡ first_progress (length v.rows) p

-- one slot more
pub first_set : (v : Survey) (slots : List SlotView) (k slot : ℕ) (x : SlotView) → length slots ≡ 16384 → k < 16384 → slot ≡ k
    → ((p : Phase) → HasPhaseIn v slot p → x ≡ first_progress (length v.rows) p)
    → ((s : ℕ) → s < k → (p : Phase) → HasPhaseIn v s p → slot_at slots s ≡ first_progress (length v.rows) p)
    → (length (set slots k x) ≡ 16384) × ((s : ℕ) → s < k + 1 → (p : Phase) → HasPhaseIn v s p → slot_at (set slots k x) s ≡ first_progress (length v.rows) p)
first_set v slots k slot x width low is here below = (
  length-set slots k x ∙ width,
  λ s h p has. elim (cases_eq s k) [
    | inl u ↦ ap (slot_at (set slots k x)) u ∙ get_or-set_same slots k x at_first (subst (λ w. k < w) (sym width) low)
        ∙ here p (subst (λ y. HasPhaseIn v y p) (u ∙ sym is) has)
    | inr u ↦ get_or-set_other slots k s x at_first u ∙ below s (lower s k h u) p has
  ],
)
  where
    lower : (s k : ℕ) → s < k + 1 → s ≢ k → s < k
    lower s k h u = omega arith

pub first_stands : (v : Survey) (slots : List SlotView) (version : ℕ) (phases : Phases) → length v.rows ≤ 255 → length slots ≡ 16384 → AreFirst v slots → Shows v phases
    → Stands version (node_count v) phases [] (record { slots = slots; commands = 0; retargets = false })
first_stands v slots version phases fits width are shows = record {
  width = width;
  states = λ s h. ap (λ x. Ok (x.state)) (sym (are s h (phases s) (shows s)));
  lasts = λ s h e. inr (refl, ap (λ x. x.last) (are s h (phases s) (shows s)));
  none_beyond = λ s h. refl;
  count = refl;
  targets = record {
    each = λ s h. subst (λ ms. Marks ms (phase_target (phases s) ++ [])) (ap (λ x. x.targets) (sym (are s h (phases s) (shows s)))) (first_marks s);
    none = λ e. first_distinct_targets phases;
    some = λ e. absurd (true≢false (sym e));
  };
}
  where
    first_marks : (s : ℕ) → Marks (marked none_told (phase_target (phases s))) (phase_target (phases s) ++ [])
    first_marks s = subst (Marks (marked none_told (phase_target (phases s)))) (sym (append-nil (phase_target (phases s))))
        (marks_all none_told [] (phase_target (phases s)) (target_few (length v.rows) 255 (phases s) fits ((shows s).fine)) (record { width = none_width; are = λ m b. none_is m }))

-- ---- the end

module _ (survey : Survey) (fits : length survey.rows ≤ 255) (some : 1 ≤ length survey.rows) (blank : IsBlankBeyond survey)
    (plan : PlanView) (v n : ℕ) (lines : List Line) (version : v ≡ plan.version) (nodes : n ≡ length survey.rows) (are : lines ≡ plan.lines) where
  same : (P : ℕ → ℕ → List Line → Type 0) → P v n lines → P plan.version (node_count survey) plan.lines
  same P h = subst (λ a. P a (node_count survey) plan.lines) version (subst (λ a. P v a plan.lines) nodes (subst (λ a. P v n a) are h))

  are_phases : (phases : Phases) → Shows survey phases → (s : ℕ) → IsPhase (node_count survey) (phases s)
  are_phases phases shows s = (shows s).fine

  pub fault_over : (f : VerifyFault) → ((phases : Phases) → Shows survey phases → IsRefused v n phases (plan_commands n lines) f) → IsRefusedOver plan survey f
  fault_over f r phases shows =
      fault_refused plan.version (node_count survey) phases (commands_of plan survey) f fits (are_phases phases shows)
      (same (λ a b ls. IsRefused a b phases (plan_commands b ls) f) (r phases shows))

  abbrev pub StandsOver : CheckView → Type 0
  StandsOver check = (phases : Phases) → Shows survey phases → Stands v n phases (plan_commands n lines) check

  stands : (check : CheckView) → StandsOver check → (phases : Phases) → Shows survey phases → Stands plan.version (node_count survey) phases (commands_of plan survey) check
  stands check h phases shows = same (λ a b ls. Stands a b phases (plan_commands b ls) check) (h phases shows)

  pub left_over : (check : CheckView) (place : CommandPlace) → StandsOver check → IsLowestOpen check place
      → IsRefusedOver plan survey (verify_fault.LeftOpen place)
  left_over check place h l phases shows =
      left_refused plan.version (node_count survey) phases (commands_of plan survey) check place fits (are_phases phases shows) (stands check h phases shows) l

  pub accepted_over : (check : CheckView) → IsOpenSurvey survey → ArePlanLines (limits_of plan.names) plan.lines → AllByRecursion (FitsVersion plan.version) plan.lines → StandsOver check
      → ((s : ℕ) → s < 16384 → is_open (slot_at check.slots s).state ≡ false) → IsVerified plan survey × TellsRetargets plan survey check.retargets
  accepted_over check seen well fit h closed = (
    record { legal = λ phases shows. (both phases shows).0; sound = (both (λ s. (seen s).0) (λ s. (seen s).1)).1 },
    λ phases shows. ((stands check h phases shows).targets.none, λ none. by check.retargets refl (λ e. (stands check h phases shows).targets.some e none)),
  )
    where
      both : (phases : Phases) → Shows survey phases
          → Legal plan.version (commands_of plan survey) phases (node_count survey) × AreSound (node_count survey) (commands_of plan survey)
      both phases shows = none_left plan.version (node_count survey) phases plan.lines check fits (are_phases phases shows)
          (beyond survey phases some blank shows) well.0 fit (stands check h phases shows) closed

      by : (b : Bool) → check.retargets ≡ b → (check.retargets ≡ true → ⊥) → check.retargets ≡ false
      by true e h = absurd (h e)
      by false e h = e

-- ---- a cluster whose nodes have one table

owner_below : (n : ℕ) (owners : List ℕ) → 1 ≤ n → All (λ o. o < n) owners → (s : ℕ) → slice_index owners s < n
owner_below n owners some named s = elim (cases_lt s (length owners)) [
  | inl low ↦ named s 0 low
  | inr past ↦ subst (λ o. o < n) (sym (get_or_past owners s 0 past)) some
]

pub closed_shown : (o : Owners) → IsTable o → Shows (closed_survey o.nodes o.owners) (closed_by o.owners)
closed_shown o table s = record {
  fine = subst (λ w. slice_index o.owners s < w) (sym width) (owner_below o.nodes o.owners table.some table.named s);
  owners = λ m h. ap (λ r. slice_index r.owners s) (row m h);
  going = λ m h. ap (λ r. get r.migrating s) (row m h) ∙ get-empty nat_cmp s;
  coming = λ m h. ap (λ r. get r.importing s) (row m h) ∙ get-empty nat_cmp s;
}
  where
    width : length (replicate o.nodes (closed_row o.owners)) ≡ o.nodes
    width = length-replicate o.nodes (closed_row o.owners)

    row : (m : ℕ) → m < length (replicate o.nodes (closed_row o.owners)) → row_at (closed_survey o.nodes o.owners) m ≡ closed_row o.owners
    row m h = get_or-replicate o.nodes m (closed_row o.owners) (closed_row []) (subst (λ w. m < w) width h)

-- so many nodes were surveyed
pub closed_count : (o : Owners) → node_count (closed_survey o.nodes o.owners) ≡ o.nodes
closed_count o = length-replicate o.nodes (closed_row o.owners)

-- what is verified for the table is legal where every slot is closed
pub closed_legal : (plan : PlanView) (o : Owners) → IsTable o → IsVerified plan (closed_survey o.nodes o.owners)
    → Legal plan.version (plan_commands o.nodes plan.lines) (closed_by o.owners) o.nodes
closed_legal plan o table h = subst (λ n. Legal plan.version (plan_commands n plan.lines) (closed_by o.owners) n) (closed_count o)
    (h.legal (closed_by o.owners) (closed_shown o table))

-- and what is refused over it is refused where every slot is closed
pub closed_refused : (plan : PlanView) (o : Owners) (f : VerifyFault) → IsTable o → IsRefusedOver plan (closed_survey o.nodes o.owners) f
    → RefusedBy plan.version o.nodes (closed_by o.owners) (plan_commands o.nodes plan.lines) f
closed_refused plan o f table h = subst (λ n. RefusedBy plan.version n (closed_by o.owners) (plan_commands n plan.lines) f) (closed_count o)
    (h (closed_by o.owners) (closed_shown o table))

pub closed_open : (o : Owners) → IsTable o → IsOpenSurvey (closed_survey o.nodes o.owners)
closed_open o table s = (closed_by o.owners s, closed_shown o table s)
