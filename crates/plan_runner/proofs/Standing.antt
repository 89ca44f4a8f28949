-- What is kept of the commands so far, after more of them.
use Rattle.std.proofs.Common.{◌≡◌, ◌≢◌, ℕ, ◌+◌, ◌<◌, ◌≤◌, Bool, true, false, cond, eqb, ltb, List, [], ◌∷◌, ◌++◌, length, map, Result, Ok, Err, sym, refl, ap, ◌∙◌, subst, arith, inl, inr, set, get_or-set_same, length-set, length-append, append_assoc}
use Rattle.std.proofs.lemmas.Bool.{cases_eq, cases_lt, ltb-true, true≢false}
use Rattle.std.proofs.lemmas.List.{get_or-set_other, length-map}
use Rattle.cluster_admin.specs.Phases.{Phases}
use Rattle.plan_language.specs.Lines.{others}
use Rattle.plan_language.specs.Moves.{move_of}
use Rattle.plan_language.specs.declared.plan_command.PlanCommand.{PlanCommand}
use Rattle.plan_language.specs.declared.plan_command.PlanCommand.TheVariants as planned
use Rattle.plan_semantics.specs.Plans.{slot_named, part}
use Rattle.plan_runner.specs.declared.command_fault.CommandFault.{CommandFault}
use Rattle.plan_runner.specs.declared.command_fault.CommandFault.TheVariants as fault
use Rattle.plan_runner.specs.declared.slot_state.SlotState.TheVariants as state
use Rattle.plan_runner.specs.declared.verify_fault.CommandPlace.{CommandPlace}
use Rattle.plan_runner.specs.SlotStates.{Next, State, is_known, is_open, first_state, next_by_row, moved_to, and_then}
use Rattle.plan_runner.specs.SlotStates.{state_after, state_of}
use Rattle.plan_runner.specs.declared.verify_fault.VerifyFault.{VerifyFault}
use Rattle.plan_runner.specs.Verifying.{LastAt, IsRefused, fault_at}
use Rattle.plan_runner.specs.Standing.{CheckView, SlotView, at_first, slot_at, next_of, noted, placed, Stands}
use Rattle.std.specs.List.{AllByRecursion}
use Rattle.plan_semantics.specs.Retargets.{importings}
use Rattle.plan_runner.specs.Targets.{marked}
use Rattle.plan_runner.proofs.Targets.{targets_known, importings-move}
use Rattle.plan_runner.proofs.Parts.{Name, part_append, part_same, part_none, move_names}
use Rattle.plan_runner.proofs.OneSlot.{both, let_in, ok_is}
use Rattle.plan_runner.proofs.Accepting.{state_after_more, first_decides}

pub state_of_more : (v n : ℕ) (phases : Phases) (prefix more : List PlanCommand) (s : ℕ)
    → state_of v n phases (prefix ++ more) s ≡ and_then (state_of v n phases prefix s) (λ x. state_after v n x (part more s))
state_of_more v n phases prefix more s = ap (state_after v n (first_state n (phases s))) (part_append prefix more s)
    ∙ state_after_more v n (first_state n (phases s)) (part prefix s) (part more s)

-- a slot that more commands do not name keeps its state and its last command
state_kept : (v n : ℕ) (phases : Phases) (prefix more : List PlanCommand) (s : ℕ) (x : State) → part more s ≡ []
    → state_of v n phases prefix s ≡ Ok x → state_of v n phases (prefix ++ more) s ≡ Ok x
state_kept v n phases prefix more s x none e = state_of_more v n phases prefix more s
    ∙ ap (λ r. and_then r (λ x. state_after v n x (part more s))) e
    ∙ ap (state_after v n x) none

last_kept : (prefix more : List PlanCommand) (place : CommandPlace) → part more place.slot ≡ [] → LastAt prefix place → LastAt (prefix ++ more) place
last_kept prefix more place none (inl l) = inl (
  record {
    prefix = l.0.prefix;
    command = l.0.command;
    rest = l.0.rest ++ more;
    is = ap (λ p. p ++ more) l.0.is ∙ append_assoc l.0.prefix (l.0.command ∷ l.0.rest) more;
    slot = l.0.slot;
    number = l.0.number;
  },
  part_append l.0.rest more place.slot ∙ ap (λ p. p ++ part more place.slot) l.1 ∙ none,
)
last_kept prefix more place none (inr l) =
    inr (part_append prefix more place.slot ∙ ap (λ p. p ++ part more place.slot) l.0 ∙ none, l.1)

-- more commands of one slot, the first of which is noted for all
stands_by : (v n : ℕ) (phases : Phases) (prefix more : List PlanCommand) (check : CheckView) (c : PlanCommand) (q : State) (k : ℕ) → Stands v n phases prefix check
    → slot_named c < 16384 → Name (slot_named c) more → state_after v n (slot_at check.slots (slot_named c)).state more ≡ Ok q → k ≡ length more
    → importings more ≡ importings (c ∷ []) → AllByRecursion (λ m. m < 255) (importings (c ∷ []))
    → (is_open q ≡ true → LastAt (prefix ++ more) (record { slot = slot_named c; command = check.commands + k }))
    → Stands v n phases (prefix ++ more) (noted check c q k)
stands_by v n phases prefix more check c q k h low names goes many imports few last = record {
  width = length-set check.slots (slot_named c) next ∙ h.width;
  states = λ y b. elim (cases_eq y (slot_named c)) [
    | inl u ↦ subst (λ z. state_of v n phases (prefix ++ more) z ≡ Ok (slot_at (set check.slots (slot_named c) next) z).state) (sym u)
        (here ∙ ap (λ x. Ok (x.state)) (sym there))
    | inr u ↦ state_kept v n phases prefix more y (slot_at check.slots y).state (part_none (slot_named c) y more u names) (h.states y b)
        ∙ ap (λ x. Ok (x.state)) (sym (other y u))
  ];
  lasts = λ y b. elim (cases_eq y (slot_named c)) [
    | inl u ↦ subst (λ z. is_open (slot_at (set check.slots (slot_named c) next) z).state ≡ true → LastAt (prefix ++ more) (record { slot = z; command = (slot_at (set check.slots (slot_named c) next) z).last })) (sym u)
        (subst (λ x. is_open x.state ≡ true → LastAt (prefix ++ more) (record { slot = slot_named c; command = x.last })) (sym there) last)
    | inr u ↦ subst (λ x. is_open x.state ≡ true → LastAt (prefix ++ more) (record { slot = y; command = x.last })) (sym (other y u))
        (λ e. last_kept prefix more (record { slot = y; command = (slot_at check.slots y).last }) (part_none (slot_named c) y more u names) (h.lasts y b e))
  ];
  none_beyond = λ y b. part_append prefix more y ∙ ap (λ p. p ++ part more y) (h.none_beyond y b)
      ∙ part_none (slot_named c) y more (λ u. apart y (slot_named c) u low b) names;
  count = ap (λ j. j + k) h.count ∙ ap (λ j. length prefix + j) many ∙ sym (length-append prefix more);
  targets = targets_known phases prefix more (slot_named c) (λ y. (slot_at check.slots y).targets) (λ y. (slot_at (set check.slots (slot_named c) next) y).targets) check.retargets
      (importings (c ∷ [])) low names imports few (ap (λ x. x.targets) there) (λ y u. ap (λ x. x.targets) (other y u)) h.targets;
}
  where
    next : SlotView
    next = record { state = q; targets = marked (slot_at check.slots (slot_named c)).targets (importings (c ∷ [])); last = check.commands + k }

    apart : (y s : ℕ) → y ≡ s → s < 16384 → 16384 ≤ y → ⊥
    apart y s u low b = omega arith

    there : slot_at (set check.slots (slot_named c) next) (slot_named c) ≡ next
    there = get_or-set_same check.slots (slot_named c) next at_first (subst (λ w. slot_named c < w) (sym h.width) low)

    other : (y : ℕ) → y ≢ slot_named c → slot_at (set check.slots (slot_named c) next) y ≡ slot_at check.slots y
    other y u = get_or-set_other check.slots (slot_named c) y next at_first u

    here : state_of v n phases (prefix ++ more) (slot_named c) ≡ Ok next.state
    here = state_of_more v n phases prefix more (slot_named c)
        ∙ ap (λ r. and_then r (λ x. state_after v n x (part more (slot_named c)))) (h.states (slot_named c) low)
        ∙ ap (state_after v n (slot_at check.slots (slot_named c)).state) (part_same (slot_named c) more names) ∙ goes

-- ---- the answer of a command

pub placed_ok : (r : Next) (place : CommandPlace) (x : State) → placed r place ≡ Ok x → r ≡ Ok x
placed_ok (Ok y) place x e = ap (λ v. let r : Next = Ok v in r) (ok_is e)
placed_ok (Err what) place x e = cc

pub placed_err : (r : Next) (place : CommandPlace) (f : VerifyFault) → placed r place ≡ Err f → (what : CommandFault) × (r ≡ Err what) × (f ≡ fault_at what place)
placed_err (Ok y) place f e = cc
placed_err (Err what) place f e = (what, refl, sym (err_is e))
  where
    err_is : (let a : Result State VerifyFault = Err (fault_at what place) in a) ≡ Err f → fault_at what place ≡ f
    err_is u = cc

-- the nodes that a command imports to are known, where it is taken
known_few : (n w : ℕ) (c : PlanCommand) → n ≤ w → is_known n c ≡ true → AllByRecursion (λ m. m < w) (importings (c ∷ []))
known_few n w (planned.Importing s m at) fits e = (let low = ltb-true at n (both (ltb m n) (ltb at n) e).1 in omega (arith, low, fits), tt)
known_few n w (planned.Migrating s m at) fits e = tt
known_few n w (planned.Drain s m t b) fits e = tt
known_few n w (planned.SetNode s m at) fits e = tt
known_few n w (planned.Stable s at) fits e = tt

pub taken_few : (v n w : ℕ) (check : CheckView) (c : PlanCommand) (place : CommandPlace) (x : State) → n ≤ w → placed (next_of v n check c) place ≡ Ok x
    → AllByRecursion (λ m. m < w) (importings (c ∷ []))
taken_few v n w check c place x fits e =
    known_few n w c fits (let_in (is_known n c) (next_by_row v n (slot_at check.slots (slot_named c)).state c) fault.UnknownNode x (placed_ok (next_of v n check c) place x e)).0

-- one more command
pub one_taken : (v n : ℕ) (phases : Phases) (prefix : List PlanCommand) (check : CheckView) (c : PlanCommand) (place : CommandPlace) (x : State)
    → n ≤ 255 → slot_named c < 16384 → placed (next_of v n check c) place ≡ Ok x → Stands v n phases prefix check
    → Stands v n phases (prefix ++ c ∷ []) (noted check c x 1)
one_taken v n phases prefix check c place x fits low e h =
    stands_by v n phases prefix (c ∷ []) check c x 1 h low (refl, tt) (ap (λ r. and_then r (λ next. Ok next)) (placed_ok _ place x e)) refl refl (taken_few v n 255 check c place x fits e)
    (λ u. inl (record { prefix = prefix; command = c; rest = []; is = refl; slot = refl; number = ap (λ j. j + 1) h.count }, refl))

moved_closed : (v z : ℕ) → is_open (moved_to v z) ≡ false
moved_closed v z = by (eqb v 1)
  where
    by : (b : Bool) → is_open (cond b state.Moved (state.Untouched z)) ≡ false
    by true = refl
    by false = refl

-- the move of one slot
pub move_taken : (v n : ℕ) (phases : Phases) (prefix : List PlanCommand) (check : CheckView) (s source target batch each : ℕ) (place : CommandPlace) (x : State) → n ≤ 255
    → s < 16384 → each ≡ 5 + length (others n source target)
    → placed (next_of v n check (planned.Importing s source target)) place ≡ Ok x → Stands v n phases prefix check
    → Stands v n phases (prefix ++ move_of s source target batch (others n source target)) (noted check (planned.Importing s source target) (moved_to v target) each)
move_taken v n phases prefix check s source target batch each place x fits low count e h =
    stands_by v n phases prefix (move_of s source target batch (others n source target)) check (planned.Importing s source target) (moved_to v target) each h low
    (move_names s source target batch (others n source target))
    (first_decides v n s source target batch (slot_at check.slots s).state x fits (placed_ok _ place x e))
    (count ∙ sym move_length) (importings-move s source target batch (others n source target))
    (taken_few v n 255 check (planned.Importing s source target) place x fits e)
    (λ u. absurd (true≢false (sym u ∙ moved_closed v target)))
  where
    move_length : length (move_of s source target batch (others n source target)) ≡ 5 + length (others n source target)
    move_length =
        let m : length (map (λ m. planned.SetNode s target m) (others n source target)) ≡ length (others n source target) =
        length-map (others n source target) (λ m. planned.SetNode s target m) in
        omega arith

-- every slot has a state, also past the last, where no command is
pub each_state : (v n : ℕ) (phases : Phases) (prefix : List PlanCommand) (check : CheckView) → Stands v n phases prefix check
    → (s : ℕ) → (x : State) × (state_of v n phases prefix s ≡ Ok x)
each_state v n phases prefix check h s = elim (cases_lt s 16384) [
  | inl low ↦ ((slot_at check.slots s).state, h.states s low)
  | inr past ↦ (first_state n (phases s), ap (state_after v n (first_state n (phases s))) (h.none_beyond s past))
]

-- a command at fault
pub fault_found : (v n : ℕ) (phases : Phases) (prefix rest : List PlanCommand) (check : CheckView) (c : PlanCommand) (f : VerifyFault) → slot_named c < 16384
    → placed (next_of v n check c) (record { slot = slot_named c; command = check.commands + 1 }) ≡ Err f → Stands v n phases prefix check
    → IsRefused v n phases (prefix ++ c ∷ rest) f
fault_found v n phases prefix rest check c f low e h =
    let g = placed_err (next_of v n check c) (record { slot = slot_named c; command = check.commands + 1 }) f e in
    inl (
      g.0,
      record { slot = slot_named c; command = check.commands + 1 },
      g.2,
      (
        record { prefix = prefix; command = c; rest = rest; is = refl; slot = refl; number = ap (λ j. j + 1) h.count },
        each_state v n phases prefix check h,
        state_of_more v n phases prefix (c ∷ []) (slot_named c)
            ∙ ap (λ r. and_then r (λ x. state_after v n x (part (c ∷ []) (slot_named c)))) (h.states (slot_named c) low)
            ∙ ap (state_after v n (slot_at check.slots (slot_named c)).state) (part_same (slot_named c) (c ∷ []) (refl, tt))
            ∙ ap (λ r. and_then r (λ next. Ok next)) g.1,
      ),
    )
