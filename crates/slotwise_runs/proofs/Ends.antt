-- Where a run stops that is seen of each slot: what is closed, what continues, and what is left to do.
use Rattle.std.proofs.Common.{◌≡◌, ◌≢◌, ℕ, ◌<◌, ◌≤◌, true, false, List, [], ◌∷◌, ◌++◌, length, Option, Some, None, sym, refl, ap, ◌∙◌, subst, subst₂, arith, inl, inr}
use Rattle.std.proofs.lemmas.Bool.{cases_Bool, cases_eq, cases_lt, true≢false}
use Rattle.std.proofs.lemmas.List.Elements.{filter-append}
use Rattle.std.specs.Prelude.{cond, ◌==◌}
use Rattle.cluster_admin.specs.Keys.{Key}
use Rattle.store_commands.specs.Store.{Store}
use Rattle.cluster_admin.specs.Phases as phase
use Rattle.cluster_admin.specs.Phases.{Phases}
use Rattle.cluster_admin.specs.declared.admin.AdminReply.{AdminReply}
use Rattle.cluster_admin.specs.declared.call.AdminCall.{AdminCall}
use Rattle.cluster_world.specs.AdminCalls.{calls}
use Rattle.cluster_world.specs.Openness.{HasPhaseAt, Open}
use Rattle.cluster_world.specs.Servers.{MayReply}
use Rattle.cluster_world.specs.Worlds.{World}
use Rattle.cluster_world.specs.declared.event.Event.{Event}
use Rattle.cluster_world.specs.declared.event.Event.TheVariants.{Admin}
use Rattle.plan_language.specs.declared.plan_command.PlanCommand.{PlanCommand}
use Rattle.plan_language.specs.declared.plan_command.PlanCommand.TheVariants as planned
use Rattle.plan_semantics.specs.Driving.{NoRefusal, Remaining, Spelled, Spells, StopsAtRefusal, called, remaining, whole}
use Rattle.plan_semantics.specs.Orders.{sending}
use Rattle.plan_semantics.specs.Plans.{IsPart, Leg, Legal, Move, Try, final_owner, first_owner, last_told, legs_of, part}
use Rattle.plan_semantics.specs.Unrolling.{IsPrefix, Unrolls}
use Rattle.plan_semantics.specs.declared.order.Order.{Order}
use Rattle.plan_semantics.proofs.Unrolling.{spelled_by_prefixes}
use Rattle.reshard_theorem.proofs.Base.{Base, Inv, ListedOk}
use Rattle.reshard_theorem.proofs.Nexts.{NextStep, calls-append, next_only, next_step, none_open, spelled_last, spelled_more, stops_more, there_is}
use Rattle.reshard_theorem.proofs.Phases.{Closed, Drained, TargetTold, Migrating, Importing, Phase, Rest, SourceTold, leg_end}
use Rattle.reshard_theorem.proofs.Stops.{is_left_open, outer, stopped_in}
use Rattle.slotwise_runs.specs.Headline.{HasNextOfSlot}
use Rattle.slotwise_runs.specs.Seen.{AreSeenOfEachSlot, of_slot, slot_called}
use Rattle.slotwise_runs.proofs.Calls.{of_slot-here, of_slot-there}
use Rattle.slotwise_runs.proofs.Fronts.{base_by_parts, listed_front}
use Rattle.slotwise_runs.proofs.Parts.{AllOf, all-part, front, part-front, without}
use Rattle.slotwise_runs.proofs.Rests.{FromHere, all-from, beyond, final_from, from_here, listed_below, part-below, part_from}

-- ---- a slot that is at its end

end_phase : (n goal s : ℕ) (q : Phase) → Rest n goal s q [] → outer q ≡ phase.Closed goal
end_phase n goal s (Closed o) l = closed l.goes_on.legs l.goes_on.is l.goes_on.end
  where
    closed : (legs : List Leg) → [] ≡ legs_of s o legs → leg_end o legs ≡ goal → phase.Closed o ≡ phase.Closed goal
    closed [] is e = ap phase.Closed e
    closed (Move t b others ∷ legs) is e = cc
    closed (Try t ∷ legs) is e = cc
end_phase n goal s (Importing o t) (inl l) = cc (l.is)
end_phase n goal s (Importing o t) (inr l) = cc (l.is)
end_phase n goal s (Migrating o t) l = cc (l.is)
end_phase n goal s (Drained o t) l = cc (l.is)
end_phase n goal s (TargetTold o t) l = cc (l.is)
end_phase n goal s (SourceTold o t []) l = absurd (l.some refl)
end_phase n goal s (SourceTold o t (m ∷ left)) l = cc (l.is)

module _ (n : ℕ) (goal : ℕ → ℕ) (w : World) (past : List Event) (plan : List PlanCommand) (store : Store) (inv : Inv n goal w past plan None store) where
  pub closed_at_end : (s : ℕ) → part plan s ≡ [] → HasPhaseAt w s (phase.Closed (goal s))
  unfolding stopped_in
  closed_at_end s e = subst (HasPhaseAt w s)
      (end_phase n (goal s) s (inv.base.marks s).phase (subst (Rest n (goal s) s (inv.base.marks s).phase) e (inv.base.marks s).left))
      ((is_left_open n goal w past plan None store inv).slots s).has

  -- ---- what is left of all parts

  abbrev pub phase_of : ℕ → Phase
  phase_of s = (inv.base.marks s).phase

  abbrev pub part_left : ℕ → List PlanCommand
  part_left s = part_from s (phase_of s) (part plan s)

  left_here : (s : ℕ) → FromHere n (goal s) s (outer (phase_of s)) (part_left s)
  left_here s = from_here n (goal s) s (phase_of s) (part plan s) (inv.base.marks s).left

  abbrev pub rests : List PlanCommand
  rests = listed_below 16384 part_left

  none_past : (s : ℕ) (l : List PlanCommand) → (l ≢ [] → s < 16384) → 16384 ≤ s → l ≡ []
  none_past s [] below h = refl
  none_past s (o ∷ l) below h = let b : s < 16384 = below some in absurd (omega arith)
    where
      some : o ∷ l ≢ []
      some e = cc

  rests_are : (s : ℕ) → part rests s ≡ part_left s
  rests_are s = elim (cases_lt s 16384) [
    | inl h ↦ part-below part_left all 16384 s h
    | inr h ↦ beyond part_left all 16384 s h ∙ sym (none_past s (part_left s) (left_here s).is_part.below h)
  ]
    where
      all : (u : ℕ) → AllOf u (part_left u)
      all u = all-from u (phase_of u) (part plan u) (all-part plan u)

  pub rests_are_legal : Legal 3 rests (stopped_in n goal w past plan None store inv) n
  unfolding stopped_in
  rests_are_legal s = subst (IsPart 3 n s (outer (phase_of s))) (sym (rests_are s)) (left_here s).is_part

  pub rests_end : (s : ℕ) → final_owner rests (stopped_in n goal w past plan None store inv) s ≡ goal s
  unfolding stopped_in
  rests_end s = ap (last_told (first_owner (outer (phase_of s)))) (rests_are s) ∙ final_from n (goal s) s (outer (phase_of s)) (part_left s) (left_here s)

-- ---- the next command of a slot

sending_front : (x : PlanCommand) (xs ys : List PlanCommand) (listed : Option (List Key)) → sending ((x ∷ xs) ++ ys) listed ≡ sending (x ∷ xs) listed
sending_front (planned.Importing s m at) xs ys listed = refl
sending_front (planned.Migrating s m at) xs ys listed = refl
sending_front (planned.SetNode s m at) xs ys listed = refl
sending_front (planned.Stable s at) xs ys listed = refl
sending_front (planned.Drain s m t b) xs ys None = refl
sending_front (planned.Drain s m t b) xs ys (Some ks) = refl

the_order : {x y : Order} → Some x ≡ Some y → x ≡ y
the_order e = cc

sending_names : (s : ℕ) (xs : List PlanCommand) (listed : Option (List Key)) (o : Order) → AllOf s xs → ListedOk xs listed → sending xs listed ≡ Some o → slot_called o.command ≡ s
sending_names s [] listed o all fine e = absurd (none e)
  where
    none : None ≡ Some o → ⊥
    none e = cc
sending_names s (planned.Importing u m at ∷ xs) listed o all fine e = ap (λ x. slot_called x.command) (sym (the_order e)) ∙ all.0
sending_names s (planned.Migrating u m at ∷ xs) listed o all fine e = ap (λ x. slot_called x.command) (sym (the_order e)) ∙ all.0
sending_names s (planned.SetNode u m at ∷ xs) listed o all fine e = ap (λ x. slot_called x.command) (sym (the_order e)) ∙ all.0
sending_names s (planned.Stable u at ∷ xs) listed o all fine e = ap (λ x. slot_called x.command) (sym (the_order e)) ∙ all.0
sending_names s (planned.Drain u m t b ∷ xs) None o all fine e = ap (λ x. slot_called x.command) (sym (the_order e)) ∙ all.0
sending_names s (planned.Drain u m t b ∷ xs) (Some ks) o all fine e = ap (λ x. slot_called x.command) (sym (the_order e)) ∙ fine.0 ∙ all.0

pub no_refusal_of : (s : ℕ) (cs : List AdminCall) → NoRefusal cs → NoRefusal (of_slot s cs)
no_refusal_of s [] h = tt
no_refusal_of s (c ∷ cs) h = elim (cases_eq s (slot_called c.command)) [
  | inl e ↦ subst (λ u. NoRefusal (of_slot u (c ∷ cs))) (sym e) (subst NoRefusal (sym (of_slot-here c cs)) (h.0, subst (λ u. NoRefusal (of_slot u cs)) e (no_refusal_of s cs h.1)))
  | inr e ↦ subst NoRefusal (sym (of_slot-there s c cs e)) (no_refusal_of s cs h.1)
]

one_more_here : (s : ℕ) (cs : List AdminCall) (c : AdminCall) → slot_called c.command ≡ s → of_slot s (cs ++ c ∷ []) ≡ of_slot s cs ++ c ∷ []
one_more_here s cs c e = filter-append (λ x. slot_called x.command == s) cs (c ∷ []) ∙ ap (λ l. of_slot s cs ++ l) (subst (λ u. of_slot u (c ∷ []) ≡ c ∷ []) e (of_slot-here c []))

one_more_there : (s : ℕ) (cs : List AdminCall) (c : AdminCall) → s ≢ slot_called c.command → of_slot s (cs ++ c ∷ []) ≡ of_slot s cs ++ []
one_more_there s cs c e = filter-append (λ x. slot_called x.command == s) cs (c ∷ []) ∙ ap (λ l. of_slot s cs ++ l) (of_slot-there s c [] e)

nothing_more : {A : Type 0} (xs : List A) → xs ++ [] ≡ xs
nothing_more [] = refl
nothing_more (x ∷ xs) = ap (λ l. x ∷ l) (nothing_more xs)

-- the plan, the calls so far, and what is left of the slot
module _ (n : ℕ) (goal : ℕ → ℕ) (last : World) (plan rest_plan : List PlanCommand) (events : List Event) (s : ℕ) (listed : Option (List Key))
    (base : Base n goal last rest_plan None) (fine : ListedOk (part rest_plan s) listed) (no_refusal : NoRefusal (calls events))
    (seen : AreSeenOfEachSlot plan (calls events)) (spelt : Spelled (whole (part plan s)) (of_slot s (calls events)) (remaining (part rest_plan s) listed)) where
  abbrev rest : List PlanCommand
  rest = part rest_plan s

  not_done : (Unrolls (part plan s) (of_slot s (calls events)) → ⊥) → rest ≢ []
  not_done unfinished e = unfinished ((spelled_by_prefixes (part plan s) (of_slot s (calls events))).1.1
      (subst₂ (λ r l. Spelled (whole (part plan s)) (of_slot s (calls events)) (remaining r l)) e (none_open rest listed fine e) spelt))

  pub seen_more : (c : AdminCall) (mid : List PlanCommand) (mid_listed : Option (List Key)) → slot_called c.command ≡ s → Spells (remaining rest listed) c (remaining mid mid_listed)
      → AreSeenOfEachSlot plan (calls events ++ c ∷ [])
  seen_more c mid mid_listed names spells t = elim (cases_eq t s) [
    | inl e ↦ subst (λ u. IsPrefix (part plan u) (of_slot u (calls events ++ c ∷ [])) × StopsAtRefusal (of_slot u (calls events ++ c ∷ []))) (sym e)
        (subst (λ l. IsPrefix (part plan s) l × StopsAtRefusal l) (sym (one_more_here s (calls events) c names)) (
          (spelled_by_prefixes (part plan s) (of_slot s (calls events) ++ c ∷ [])).0.1
              (remaining mid mid_listed, spelled_more (of_slot s (calls events)) c (part plan s) rest mid None listed mid_listed spelt spells),
          stops_more (of_slot s (calls events)) c (no_refusal_of s (calls events) no_refusal),
        ))
    | inr e ↦ subst (λ l. IsPrefix (part plan t) l × StopsAtRefusal l)
        (sym (one_more_there t (calls events) c (λ f. e (f ∙ names)) ∙ nothing_more (of_slot t (calls events)))) (seen t)
  ]

  pub next_of_slot : (Unrolls (part plan s) (of_slot s (calls events)) → ⊥) → HasNextOfSlot plan events last s
  next_of_slot unfinished =
      let step : NextStep n goal last rest listed = next_step n goal last rest listed fine (not_done unfinished) in
      let names : slot_called step.order.command ≡ s = sending_names s rest listed step.order (all-part rest_plan s) fine step.is_next in
      let at_front : Base n goal last (front s rest_plan) listed =
      (base_by_parts n goal last rest_plan (front s rest_plan) None listed (λ t. sym (part-front s rest_plan t)) (listed_front rest (without s rest_plan) listed fine) base).0 in
      record {
        left = remaining rest listed;
        leaves = spelt;
        order = step.order;
        is_next = step.is_next;
        there = subst (λ k. step.order.node < k) (sym base.size)
            (there_is n goal last (front s rest_plan) listed step.order at_front (sends rest (without s rest_plan) listed step.order step.is_next));
        names = names;
        seen = λ reply may.
            let more = step.spells reply may in
            subst (AreSeenOfEachSlot plan) (sym (calls-append events step.order.node step.order.command reply))
            (seen_more (called step.order.node step.order.command reply) more.0 more.1 names more.2);
        only = λ c is f.
            let prefix : IsPrefix (part plan s) (of_slot s (calls events) ++ c ∷ []) = subst (IsPrefix (part plan s)) (one_more_here s (calls events) c is) (f s).0 in
            let g = (spelled_by_prefixes (part plan s) (of_slot s (calls events) ++ c ∷ [])).0.0 prefix in
            next_only rest listed step.order c.node c.command c.reply g.0.rest g.0.listed step.is_next
            (spelled_last (of_slot s (calls events)) c (part plan s) rest g.0.rest None listed g.0.listed spelt g.1);
      }
    where
      sends : (xs ys : List PlanCommand) (l : Option (List Key)) (o : Order) → sending xs l ≡ Some o → sending (xs ++ ys) l ≡ Some o
      sends [] ys l o e = absurd (none e)
        where
          none : None ≡ Some o → ⊥
          none e = cc
      sends (x ∷ xs) ys l o e = sending_front x xs ys l ∙ e
