-- The calls of a plan in its own order are seen of each slot.
use Rattle.std.proofs.Common.{◌≡◌, ◌≢◌, ℕ, true, false, cond, eqb, Bool, List, [], ◌∷◌, ◌++◌, Option, Some, None, append_assoc, sym, refl, ap, ◌∙◌, subst, subst₂, inl, inr}
use Rattle.std.proofs.lemmas.Bool.{cases_eq, cond-true, cond-false, eq-eqb, ne_eqb, or_left}
use Rattle.cluster_admin.specs.Keys.{Key}
use Rattle.store_commands.specs.Store.{is_named, same_key}
use Rattle.store_commands.proofs.Named.{same_itself}
use Rattle.slot_marks.specs.Verdicts.{first_slot}
use Rattle.cluster_admin.specs.declared.admin.AdminCommand.{AdminCommand}
use Rattle.cluster_admin.specs.declared.admin.AdminCommand.TheVariants.{Importing, Migrating, SetNode, Stable, KeysIn, Migrate}
use Rattle.cluster_admin.specs.declared.admin.AdminReply.{AdminReply}
use Rattle.cluster_admin.specs.declared.admin.AdminReply.TheVariants as answers
use Rattle.cluster_admin.specs.declared.call.AdminCall.{AdminCall}
use Rattle.cluster_world.specs.AdminCalls.{calls}
use Rattle.cluster_world.specs.Servers.{MayReply, ServerRun}
use Rattle.cluster_world.specs.Steps.{after}
use Rattle.cluster_world.specs.Worlds.{World, node_at}
use Rattle.cluster_world.specs.declared.event.Event.{Event}
use Rattle.cluster_world.specs.declared.event.Event.TheVariants.{Admin, Client, Look}
use Rattle.plan_language.specs.declared.plan_command.PlanCommand.{PlanCommand}
use Rattle.plan_language.specs.declared.plan_command.PlanCommand.TheVariants as planned
use Rattle.plan_semantics.specs.Driving.{Remaining, Spelled, SpellsNext, StopsAtRefusal, is_refused, remaining, whole}
use Rattle.plan_semantics.specs.Plans.{part, slot_named}
use Rattle.plan_semantics.specs.Unrolling.{IsPrefix, Unrolls}
use Rattle.plan_semantics.proofs.Unrolling.{spelled_by_prefixes}
use Rattle.reshard_theorem.proofs.Counting.{listed_slot}
use Rattle.reshard_theorem.proofs.Prefixes.{stops_prefix}
use Rattle.telling_order.specs.SeenCalls.{SeenCallsHaveTheHeadline}
use Rattle.slotwise_runs.specs.Cases.{BeginningsAreSeen, DrivenRunsAreSeen, ReorderedCallsAreSeen}
use Rattle.slotwise_runs.specs.Seen.{AreSeenOfEachSlot, of_slot, slot_called}
use Rattle.slotwise_runs.proofs.Calls.{of_slot-here, of_slot-there}
use Rattle.slotwise_runs.proofs.Parts.{dropped, kept}

-- ---- listings name keys of their slot

abbrev ListsOwn : AdminCommand → AdminReply → Type 0
ListsOwn (KeysIn s b) (answers.Keys (k ∷ ks)) = first_slot (k ∷ ks) ≡ s
ListsOwn command reply = Unit {0}

abbrev AllListOwn : List AdminCall → Type 0
AllListOwn [] = Unit {0}
AllListOwn (c ∷ cs) = ListsOwn c.command c.reply × AllListOwn cs

may_list : (w : World) (r : ℕ) (c : AdminCommand) (reply : AdminReply) → MayReply w r c reply → ListsOwn c reply
may_list w r (Importing s m) reply may = tt
may_list w r (Migrating s m) reply may = tt
may_list w r (SetNode s m) reply may = tt
may_list w r (Stable s) reply may = tt
may_list w r (Migrate ks m) reply may = tt
may_list w r (KeysIn s b) answers.Ok may = tt
may_list w r (KeysIn s b) answers.NoKey may = tt
may_list w r (KeysIn s b) (answers.Refused k) may = tt
may_list w r (KeysIn s b) (answers.Keys []) may = tt
may_list w r (KeysIn s b) (answers.Keys (k ∷ ks)) may =
    listed_slot (node_at w r).held s b may.0 k may.2 (subst (λ l. is_named k l ≡ true) (keys_are may.1) (or_left (same_key k k) (is_named k ks) (same_itself k)))
  where
    keys_are : {xs ys : List Key} → answers.Keys xs ≡ answers.Keys ys → xs ≡ ys
    keys_are e = cc

calls_list : (es : List Event) (w last : World) → ServerRun w es last → AllListOwn (calls es)
calls_list [] w last run = tt
calls_list (Client seat x asking c reply ∷ es) w last run = calls_list es (after w (Client seat x asking c reply)) last run.1
calls_list (Look seat x reply ∷ es) w last run = calls_list es w last run.1
calls_list (Admin r c reply ∷ es) w last run = (may_list w r c reply run.0.1, calls_list es (after w (Admin r c reply)) last run.1)

-- ---- one call

-- the open listing is that of the slot at the head
abbrev own_listing : List PlanCommand → Option (List Key) → ℕ → Option (List Key)
own_listing [] l s = None
own_listing (o ∷ plan) l s = cond (eqb (slot_named o) s) l None

no_own : (plan : List PlanCommand) (s : ℕ) → own_listing plan None s ≡ None
no_own [] s = refl
no_own (o ∷ plan) s = by (eqb (slot_named o) s)
  where
    by : (b : Bool) → cond {A = Option (List Key)} b None None ≡ None
    by true = refl
    by false = refl

abbrev IsFirst : List PlanCommand → Option (List Key) → Type 0
IsFirst plan None = Unit {0}
IsFirst [] (Some ks) = Unit {0}
IsFirst (o ∷ plan) (Some ks) = first_slot ks ≡ slot_named o

record Turn (plan : List PlanCommand) (listed : Option (List Key)) (c : AdminCall) (rest : List PlanCommand) (rest_listed : Option (List Key)) : Type 0 where
  slot : ℕ
  names : slot_called c.command ≡ slot
  here : SpellsNext (part plan slot) (own_listing plan listed slot) c (remaining (part rest slot) (own_listing rest rest_listed slot))
  there : (s : ℕ) → slot ≢ s → (part rest s ≡ part plan s) × (own_listing rest rest_listed s ≡ own_listing plan listed s)
  first : IsFirst rest rest_listed

turn_over : (plan : List PlanCommand) (listed : Option (List Key)) (c : AdminCall) (rest rest' : List PlanCommand) (l l' : Option (List Key))
    → rest ≡ rest' → l ≡ l' → Turn plan listed c rest' l' → Turn plan listed c rest l
turn_over plan listed c rest rest' l l' p q h = subst₂ (λ a b. Turn plan listed c a b) (sym p) (sym q) h

-- a command that one call carries out
one_call : (o : PlanCommand) (plan : List PlanCommand) (c : AdminCall) → slot_called c.command ≡ slot_named o
    → ((xs : List PlanCommand) → SpellsNext (o ∷ xs) None c (remaining xs None)) → Turn (o ∷ plan) None c plan None
one_call o plan c names spells = record {
  slot = slot_named o;
  names = names;
  here = subst₂ (λ p l. SpellsNext p l c (remaining (part plan (slot_named o)) (own_listing plan None (slot_named o))))
      (sym (kept (eqb (slot_named o) (slot_named o)) o (part plan (slot_named o)) (eq-eqb (slot_named o) (slot_named o) refl)))
      (sym (no_own (o ∷ plan) (slot_named o)))
      (subst (λ l. SpellsNext (o ∷ part plan (slot_named o)) None c (remaining (part plan (slot_named o)) l)) (sym (no_own plan (slot_named o)))
      (spells (part plan (slot_named o))));
  there = λ s e. (sym (dropped (eqb (slot_named o) s) o (part plan s) (ne_eqb (slot_named o) s e)), no_own plan s ∙ sym (no_own (o ∷ plan) s));
  first = tt;
}

-- a call after which the drain still stands in front
drain_stays : (u m t b : ℕ) (plan : List PlanCommand) (listed listed' : Option (List Key)) (c : AdminCall) → slot_called c.command ≡ u
    → ((xs : List PlanCommand) → SpellsNext (planned.Drain u m t b ∷ xs) listed c (remaining (planned.Drain u m t b ∷ xs) listed'))
    → IsFirst (planned.Drain u m t b ∷ plan) listed' → Turn (planned.Drain u m t b ∷ plan) listed c (planned.Drain u m t b ∷ plan) listed'
drain_stays u m t b plan listed listed' c names spells first = record {
  slot = u;
  names = names;
  here =
      let whole_part : part (planned.Drain u m t b ∷ plan) u ≡ planned.Drain u m t b ∷ part plan u = kept (eqb u u) (planned.Drain u m t b) (part plan u) (eq-eqb u u refl) in
      let own : (l : Option (List Key)) → cond (eqb u u) l None ≡ l = λ l. cond-true (eqb u u) l None (eq-eqb u u refl) in
      subst₂ (λ p l. SpellsNext p l c (remaining p (cond (eqb u u) listed' None))) (sym whole_part) (sym (own listed))
      (subst (λ l. SpellsNext (planned.Drain u m t b ∷ part plan u) listed c (remaining (planned.Drain u m t b ∷ part plan u) l)) (sym (own listed')) (spells (part plan u)));
  there = λ s e. (refl, cond-false (eqb u s) listed' None (ne_eqb u s e) ∙ sym (cond-false (eqb u s) listed None (ne_eqb u s e)));
  first = first;
}

turn : (plan : List PlanCommand) (listed : Option (List Key)) (c : AdminCall) (mid : Remaining) → IsFirst plan listed → ListsOwn c.command c.reply
    → SpellsNext plan listed c mid → Turn plan listed c mid.rest mid.listed
turn [] listed c mid fine own h = absurd h
turn (planned.Importing s m at ∷ plan) None c mid fine own h = turn_over _ None c mid.rest plan mid.listed None h.2 h.3
    (one_call (planned.Importing s m at) plan c (ap slot_called h.1) (λ xs. (h.0, h.1, refl, refl)))
turn (planned.Importing s m at ∷ plan) (Some ks) c mid fine own h = absurd h
turn (planned.Migrating s m at ∷ plan) None c mid fine own h = turn_over _ None c mid.rest plan mid.listed None h.2 h.3
    (one_call (planned.Migrating s m at) plan c (ap slot_called h.1) (λ xs. (h.0, h.1, refl, refl)))
turn (planned.Migrating s m at ∷ plan) (Some ks) c mid fine own h = absurd h
turn (planned.SetNode s m at ∷ plan) None c mid fine own h = turn_over _ None c mid.rest plan mid.listed None h.2 h.3
    (one_call (planned.SetNode s m at) plan c (ap slot_called h.1) (λ xs. (h.0, h.1, refl, refl)))
turn (planned.SetNode s m at ∷ plan) (Some ks) c mid fine own h = absurd h
turn (planned.Stable s at ∷ plan) None c mid fine own h = turn_over _ None c mid.rest plan mid.listed None h.2 h.3
    (one_call (planned.Stable s at) plan c (ap slot_called h.1) (λ xs. (h.0, h.1, refl, refl)))
turn (planned.Stable s at ∷ plan) (Some ks) c mid fine own h = absurd h
turn (planned.Drain s m t b ∷ plan) None c mid fine own h = elim h.2 [
  | inl u ↦ turn_over _ None c mid.rest plan mid.listed None u.1 u.2
      (one_call (planned.Drain s m t b) plan c (ap slot_called h.1) (λ xs. (h.0, h.1, inl (u.0, refl, refl))))
  | inr u ↦ turn_over _ None c mid.rest (planned.Drain s m t b ∷ plan) mid.listed (Some (u.0 ∷ u.1)) u.3 u.4
      (drain_stays s m t b plan None (Some (u.0 ∷ u.1)) c (ap slot_called h.1) (λ xs. (h.0, h.1, inr (u.0, u.1, u.2, refl, refl)))
      (subst₂ ListsOwn h.1 u.2 own))
]
turn (planned.Drain s m t b ∷ plan) (Some ks) c mid fine own h = turn_over _ (Some ks) c mid.rest (planned.Drain s m t b ∷ plan) mid.listed None h.2 h.3
    (drain_stays s m t b plan (Some ks) None c (ap slot_called h.1 ∙ fine) (λ xs. (h.0, h.1, refl, refl)) tt)

-- ---- the calls

spelled_each : (cs : List AdminCall) (plan : List PlanCommand) (listed : Option (List Key)) (last : Remaining) → IsFirst plan listed → AllListOwn cs
    → Spelled (remaining plan listed) cs last → (s : ℕ) → (left : Remaining) × Spelled (remaining (part plan s) (own_listing plan listed s)) (of_slot s cs) left
spelled_each [] plan listed last fine own spelt s = (remaining (part plan s) (own_listing plan listed s), (refl, refl))
spelled_each (c ∷ cs) plan listed last fine own spelt s =
    let mid : Remaining = spelt.0 in
    let next : Turn plan listed c mid.rest mid.listed = turn plan listed c mid fine own.0 spelt.1 in
    let more = spelled_each cs mid.rest mid.listed last next.first own.1 spelt.2 s in
    elim (cases_eq next.slot s) [
      | inl e ↦ (
        more.0,
        subst (λ l. Spelled (remaining (part plan s) (own_listing plan listed s)) l more.0)
            (sym (subst (λ u. of_slot u (c ∷ cs) ≡ c ∷ of_slot u cs) (next.names ∙ e) (of_slot-here c cs))) (
              remaining (part mid.rest s) (own_listing mid.rest mid.listed s),
              subst (λ u. SpellsNext (part plan u) (own_listing plan listed u) c (remaining (part mid.rest u) (own_listing mid.rest mid.listed u))) e next.here,
              more.1,
            ),
      )
      | inr e ↦ (
        more.0,
        subst (λ l. Spelled (remaining (part plan s) (own_listing plan listed s)) l more.0)
            (sym (of_slot-there s c cs (λ f. e (sym next.names ∙ sym f))))
            (subst₂ (λ p l. Spelled (remaining p l) (of_slot s cs) more.0) (next.there s e).0 (next.there s e).1 more.1),
      )
    ]

stops_of : (s : ℕ) (cs : List AdminCall) → StopsAtRefusal cs → StopsAtRefusal (of_slot s cs)
stops_of s [] h = tt
stops_of s (c ∷ cs) h = elim (cases_eq (slot_called c.command) s) [
  | inl e ↦ subst StopsAtRefusal (sym (subst (λ u. of_slot u (c ∷ cs) ≡ c ∷ of_slot u cs) e (of_slot-here c cs)))
      (λ r. ap (of_slot s) (h.0 r), stops_of s cs h.1)
  | inr e ↦ subst StopsAtRefusal (sym (of_slot-there s c cs (λ f. e (sym f)))) (stops_of s cs h.1)
]

pub driven_runs_are_seen : DrivenRunsAreSeen
driven_runs_are_seen plan first last events run driven s =
    let whole_run = (spelled_by_prefixes plan (calls events)).0.0 driven.0 in
    let each = spelled_each (calls events) plan None whole_run.0 tt (calls_list events first last run) whole_run.1 s in (
      (spelled_by_prefixes (part plan s) (of_slot s (calls events))).0.1
          (each.0, subst (λ l. Spelled (remaining (part plan s) l) (of_slot s (calls events)) each.0) (no_own plan s) each.1),
      stops_of s (calls events) driven.1,
    )

pub beginnings_are_seen : BeginningsAreSeen
beginnings_are_seen plan cs cs' begins seen s =
    let later : List AdminCall = (begins s).0 in
    let prefix : IsPrefix (part plan s) (of_slot s cs' ++ later) = subst (IsPrefix (part plan s)) (begins s).1 (seen s).0 in (
      (later ++ prefix.0, subst (Unrolls (part plan s)) (append_assoc (of_slot s cs') later prefix.0) prefix.1),
      stops_prefix (of_slot s cs') later (subst StopsAtRefusal (begins s).1 (seen s).1),
    )

pub reordered_calls_are_seen : SeenCallsHaveTheHeadline → ReorderedCallsAreSeen
reordered_calls_are_seen holds reshard events last starts run honest seen =
    let h = holds reshard events last starts run honest seen in
    record {
      as_told = h.other;
      between = h.between;
      tells = h.tells;
      slots = driven_runs_are_seen h.other reshard.first last events run h.is_run.driven;
    }
