-- What a plan costs with no client between its commands, by the store alone.
use Rattle.std.proofs.Common.{◌≡◌, ◌≢◌, ℕ, zero, suc, ◌+◌, ◌-◌, ◌*◌, ◌<◌, ◌≤◌, ◌⊎◌, false, cond, eqb, List, [], ◌∷◌, ◌++◌, length, replicate, Option, Some, None, sym, refl, ap, ◌∙◌, subst, subst₂, arith, inl, inr}
use Rattle.std.specs.Prelude.{slice_index}
use Rattle.std.specs.List.{AllByRecursion}
use Rattle.std.specs.FinMap.{get}
use Rattle.std.proofs.Math.Nat.{div-zero}
use Rattle.std.proofs.lemmas.List.{get_or-replicate, length-replicate}
use Rattle.std.proofs.lemmas.Bool.{cases_Bool, cases_eq, cases_lt, eqb-true, ne_eqb, eq-eqb, cond-true, cond-false}
use Rattle.key_slots.specs.HashSlot.{slot_of}
use Rattle.store_commands.specs.Store.{Key, Store}
use Rattle.slot_keyspace.specs.Listing.{keys_of}
use Rattle.cluster_admin.specs.declared.admin.AdminReply.{AdminReply}
use Rattle.cluster_admin.specs.declared.admin.AdminReply.TheVariants as answers
use Rattle.cluster_world.specs.Worlds.{World, node_at, owner, migrating, importing, held}
use Rattle.cluster_admin.specs.declared.admin.AdminCommand.{AdminCommand}
use Rattle.cluster_admin.specs.declared.admin.AdminCommand.TheVariants as command
use Rattle.cluster_world.specs.Commanding.{admin_reply}
use Rattle.cluster_world.specs.Steps.{after, Run}
use Rattle.cluster_world.specs.Servers.{MayReply, ServerRun}
use Rattle.cluster_world.specs.declared.event.Event.{Event}
use Rattle.cluster_world.specs.declared.event.Event.TheVariants.{Client, Look, Admin}
use Rattle.plan_language.specs.declared.plan_command.PlanCommand.{PlanCommand}
use Rattle.plan_language.specs.declared.plan_command.PlanCommand.TheVariants as planned
use Rattle.cluster_admin.specs.Phases as phase
use Rattle.plan_semantics.specs.Plans.{part, slot_named, final_owner, IsPart, Leg, Move, Try, legs_of}
use Rattle.plan_semantics.specs.Driving.{remaining, called, Spells, Spelled, NoRefusal}
use Rattle.cluster_world.specs.AdminCalls.{calls}
use Rattle.plan_semantics.specs.Unrolling.{Unrolls}
use Rattle.plan_semantics.specs.declared.order.Order.{Order}
use Rattle.plan_semantics.specs.Costs.{Counts, rounds, one_more, cost, none_passed, plan_cost}
use Rattle.reshard_theorem.specs.Counts.{counts_after, counts, first_count, first_counts}
use Rattle.reshard_theorem.specs.DrivenRuns.{IsDrivenRun, by_order}
use Rattle.reshard_theorem.specs.QuietRuns.{NoClients, AreClosed, quiet_cost, QuietCost, StaysBelowQuietCost}
use Rattle.reshard_theorem.specs.Starts.{Reshard, Starts}
use Rattle.reshard_theorem.proofs.Phases.{Phase, Closed, Importing, Migrating, Drained, TargetTold, SourceTold, CountOk, may_hold}
use Rattle.reshard_theorem.proofs.Base.{Base, Inv}
use Rattle.reshard_theorem.proofs.Admins.{AdminGood, slot_at}
use Rattle.reshard_theorem.proofs.Begins.{start}
use Rattle.reshard_theorem.proofs.Counting.{rounds_mono, count_le, count_same}
use Rattle.reshard_theorem.proofs.Exactly.{Exactly, Agrees, len_ok}
use Rattle.reshard_theorem.proofs.Landed as landed
use Rattle.reshard_theorem.proofs.Quietly.{exactly, quiet_honest}
use Rattle.reshard_theorem.proofs.Servers.{runs_are_server_runs, world_may_reply}
use Rattle.reshard_theorem.proofs.Limits.{run_more}
use Rattle.reshard_theorem.proofs.Spending.{count}
use Rattle.reshard_theorem.proofs.Split.{Splits}
use Rattle.reshard_theorem.proofs.Turns.{sent}
use Rattle.plan_semantics.proofs.Unrolling.{spelled_by_whole}
use Rattle.reshard_theorem.proofs.Whole.{after_admin, spelled}

-- how many keys of the slot the store has
abbrev kept : Store → ℕ → ℕ
kept store s = length (keys_of store s)

-- ---- costs by counts of which each is what the store has

all_more : (P : ℕ → Type 0) (xs : List ℕ) (x : ℕ) → AllByRecursion P xs → P x → AllByRecursion P (xs ++ x ∷ [])
all_more P [] x all p = (p, tt)
all_more P (y ∷ ys) x all p = (all.0, all_more P ys x all.1 p)

at_index : (P : ℕ → Type 0) (xs : List ℕ) (i : ℕ) → AllByRecursion P xs → i < length xs → P (slice_index xs i)
at_index P [] i all h = absurd (omega arith)
at_index P (x ∷ xs) zero all h = all.0
at_index P (x ∷ xs) (suc i) all h = at_index P xs i all.1 (omega arith)

past_end : (xs : List ℕ) (i : ℕ) → length xs ≤ i → slice_index xs i ≡ 0
past_end [] zero h = refl
past_end [] (suc i) h = refl
past_end (x ∷ xs) zero h = absurd (omega arith)
past_end (x ∷ xs) (suc i) h = past_end xs i (omega arith)

rounds_le : (b h k : ℕ) → h ≤ k → rounds b h ≤ rounds b k
rounds_le zero h k le = subst₂ (λ x y. x ≤ y) (sym (div-zero (h + (zero - 1)))) (sym (div-zero (k + (zero - 1)))) (omega arith)
rounds_le (suc b) h k le = rounds_mono (suc b) h k (omega arith) le

module _ (store : Store) where
  abbrev AllSmall : Counts → Type 0
  AllSmall κ = (s : ℕ) → AllByRecursion (λ k. k ≤ kept store s) (κ s)

  abbrev AllKept : Counts → Type 0
  AllKept κ = (s : ℕ) → AllByRecursion (λ k. k ≡ kept store s) (κ s)

  small_at : (κ : Counts) → AllSmall κ → (s i : ℕ) → slice_index (κ s) i ≤ kept store s
  small_at κ small s i = elim (cases_lt i (length (κ s))) [
    | inl h ↦ at_index (λ k. k ≤ kept store s) (κ s) i (small s) h
    | inr h ↦ subst (λ k. k ≤ kept store s) (sym (past_end (κ s) i h)) (omega arith)
  ]

  cost_small : (κ : Counts) → AllSmall κ → (passed : ℕ → ℕ) (plan : List PlanCommand) → cost passed κ plan ≤ quiet_cost store plan
  cost_small κ small passed [] = omega arith
  cost_small κ small passed (planned.Importing s m at ∷ plan) = let h = cost_small κ small passed plan in omega arith
  cost_small κ small passed (planned.Migrating s m at ∷ plan) = let h = cost_small κ small passed plan in omega arith
  cost_small κ small passed (planned.SetNode s m at ∷ plan) = let h = cost_small κ small passed plan in omega arith
  cost_small κ small passed (planned.Stable s at ∷ plan) = let h = cost_small κ small passed plan in omega arith
  cost_small κ small passed (planned.Drain s m t b ∷ plan) =
      let h : cost (one_more passed s) κ plan ≤ quiet_cost store plan = cost_small κ small (one_more passed s) plan in
      let r : rounds b (slice_index (κ s) (passed s)) ≤ rounds b (kept store s) = rounds_le b (slice_index (κ s) (passed s)) (kept store s) (small_at κ small s (passed s)) in
      omega arith

  -- as many of the store's counts for each slot
  abbrev enough : (ℕ → ℕ) → Counts
  enough many s = replicate (many s) (kept store s)

  more_passed : (passed : ℕ → ℕ) (s t : ℕ) → one_more passed s t ≤ suc (passed t)
  more_passed passed s t = elim (cases_eq t s) [
    | inl e ↦ subst (λ x. x ≤ suc (passed t)) (sym (cond-true (eqb t s) (1 + passed t) (passed t) (eq-eqb t s e))) (omega arith)
    | inr e ↦ subst (λ x. x ≤ suc (passed t)) (sym (cond-false (eqb t s) (1 + passed t) (passed t) (ne_eqb t s e))) (omega arith)
  ]

  cost_enough : (many : ℕ → ℕ) (passed : ℕ → ℕ) (plan : List PlanCommand) → ((s : ℕ) → passed s + length plan ≤ many s) → cost passed (enough many) plan ≡ quiet_cost store plan
  cost_enough many passed [] h = refl
  cost_enough many passed (planned.Importing s m at ∷ plan) h = ap (λ x. 1 + x) (cost_enough many passed plan (λ t. let k = h t in omega arith))
  cost_enough many passed (planned.Migrating s m at ∷ plan) h = ap (λ x. 1 + x) (cost_enough many passed plan (λ t. let k = h t in omega arith))
  cost_enough many passed (planned.SetNode s m at ∷ plan) h = ap (λ x. 1 + x) (cost_enough many passed plan (λ t. let k = h t in omega arith))
  cost_enough many passed (planned.Stable s at ∷ plan) h = ap (λ x. 1 + x) (cost_enough many passed plan (λ t. let k = h t in omega arith))
  cost_enough many passed (planned.Drain s m t b ∷ plan) h =
      let here : slice_index (enough many s) (passed s) ≡ kept store s = get_or-replicate (many s) (passed s) (kept store s) 0 (let k = h s in omega arith) in
      let rest : cost (one_more passed s) (enough many) plan ≡ quiet_cost store plan = cost_enough many (one_more passed s) plan
      (λ u. let k = h u in let m = more_passed passed s u in omega arith) in
      ap (λ x. (2 * rounds b x + 1) + cost (one_more passed s) (enough many) plan) here ∙ ap (λ x. (2 * rounds b (kept store s) + 1) + x) rest

-- no node holds more of the slot than the store
node_small : (store : Store) (w : World) (m s : ℕ) → Splits (held w) (get store) → length (keys_of (node_at w m).held s) ≤ kept store s
node_small store w m s split = count_le store (node_at w m).held s (λ k i none. elim (cases_eq m (split k).0) [
  | inl e ↦ subst (λ x. held w x k ≡ None) (sym e) ((split k).1 ∙ none)
  | inr e ↦ (split k).2 m e
])

-- ---- what is counted when a slot is marked

-- the call is the first command of the plan
marked_first : (plan : List PlanCommand) (listed : Option (List Key)) (r s m : ℕ) (told : AdminReply) (rest : List PlanCommand) (listed' : Option (List Key))
    → Spells (remaining plan listed) (called r (command.Migrating s m) told) (remaining rest listed') → (later : List PlanCommand) × (plan ≡ planned.Migrating s m r ∷ later)
marked_first [] listed r s m told rest listed' h = absurd h
marked_first (planned.Importing t x at ∷ plan) None r s m told rest listed' h = by h.1
  where
    by : command.Migrating s m ≡ command.Importing t x → (later : List PlanCommand) × (planned.Importing t x at ∷ plan ≡ planned.Migrating s m r ∷ later)
    by e = cc
marked_first (planned.Migrating t x at ∷ plan) None r s m told rest listed' h = (plan, by h.0 h.1)
  where
    by : r ≡ at → command.Migrating s m ≡ command.Migrating t x → planned.Migrating t x at ∷ plan ≡ planned.Migrating s m r ∷ plan
    by e f = cc
marked_first (planned.SetNode t x at ∷ plan) None r s m told rest listed' h = by h.1
  where
    by : command.Migrating s m ≡ command.SetNode t x → (later : List PlanCommand) × (planned.SetNode t x at ∷ plan ≡ planned.Migrating s m r ∷ later)
    by e = cc
marked_first (planned.Stable t at ∷ plan) None r s m told rest listed' h = by h.1
  where
    by : command.Migrating s m ≡ command.Stable t → (later : List PlanCommand) × (planned.Stable t at ∷ plan ≡ planned.Migrating s m r ∷ later)
    by e = cc
marked_first (planned.Drain t x y b ∷ plan) None r s m told rest listed' h = by h.1
  where
    by : command.Migrating s m ≡ command.KeysIn t b → (later : List PlanCommand) × (planned.Drain t x y b ∷ plan ≡ planned.Migrating s m r ∷ later)
    by e = cc
marked_first (planned.Drain t x y b ∷ plan) (Some ks) r s m told rest listed' h = by h.1
  where
    by : command.Migrating s m ≡ command.Migrate ks y → (later : List PlanCommand) × (planned.Drain t x y b ∷ plan ≡ planned.Migrating s m r ∷ later)
    by e = cc
marked_first (planned.Importing t x at ∷ plan) (Some ks) r s m told rest listed' h = absurd h
marked_first (planned.Migrating t x at ∷ plan) (Some ks) r s m told rest listed' h = absurd h
marked_first (planned.SetNode t x at ∷ plan) (Some ks) r s m told rest listed' h = absurd h
marked_first (planned.Stable t at ∷ plan) (Some ks) r s m told rest listed' h = absurd h

module _ (n : ℕ) (goal : ℕ → ℕ) (store : Store) where
  -- where the other nodes hold nothing of the slot, this one holds all of it
  all_here : (w : World) (s o : ℕ) → Splits (held w) (get store) → ((m : ℕ) (k : Key) → slot_of k ≡ s → eqb m o ≡ false → held w m k ≡ None)
      → (k : Key) → slot_of k ≡ s → held w o k ≡ get store k
  all_here w s o split place k i = elim (cases_eq (split k).0 o) [
    | inl e ↦ subst (λ x. held w x k ≡ get store k) e (split k).1
    | inr e ↦ (split k).2 o (λ f. e (sym f)) ∙ sym (place (split k).0 k i (ne_eqb (split k).0 o e)) ∙ (split k).1
  ]

  marked_count : (w : World) (past : List Event) (s m r : ℕ) (later : List PlanCommand) (listed : Option (List Key)) → Inv n goal w past (planned.Migrating s m r ∷ later) listed store
      → length (keys_of (node_at w r).held s) ≡ kept store s
  marked_count w past s m r later listed inv =
      let at = slot_at n goal w later (planned.Migrating s m r) listed inv.base in
      let turn = sent n (goal s) s (λ x. owner w x s) (λ x. owner w x s) (λ x. migrating w x s) (λ x. migrating w x s) (λ x. importing w x s) (λ x. importing w x s) (part later s) m r at.0 in
      let o : ℕ = turn.0 in
      let is : (inv.base.marks s).phase ≡ Importing o m = sym at.1 ∙ turn.1.was in
      let place : (x : ℕ) (k : Key) → slot_of k ≡ s → eqb x o ≡ false → held w x k ≡ None = λ x k i e.
      (inv.lies s).place x k i (subst (λ p. may_hold p x ≡ false) (sym is) e) in
      let here : (k : Key) → slot_of k ≡ s → get (node_at w r).held k ≡ get store k = λ k i.
      subst (λ x. held w x k ≡ get store k) (sym turn.1.at_source) (all_here w s o inv.split place k i) in
      count_same store (node_at w r).held s here

  module _ (R : ℕ → ℕ → Type 0) (is_kept : (s : ℕ) → R s (kept store s)) where
    abbrev AllHave : Counts → Type 0
    AllHave κ = (s : ℕ) → AllByRecursion (R s) (κ s)

    marked : (w : World) (past : List Event) (plan rest : List PlanCommand) (listed listed' : Option (List Key)) (r s m : ℕ) (κ : Counts)
        → Inv n goal w past plan listed store → Spells (remaining plan listed) (called r (command.Migrating s m) answers.Ok) (remaining rest listed') → AllHave κ → AllHave (counts_after κ w (Admin r (command.Migrating s m) answers.Ok))
    marked w past plan rest listed listed' r s m κ inv h all t =
        let first = marked_first plan listed r s m answers.Ok rest listed' h in
        let new : ℕ = length (keys_of (node_at w r).held s) in
        let is : new ≡ kept store s = marked_count w past s m r first.0 listed (subst (λ p. Inv n goal w past p listed store) first.1 inv) in
        elim (cases_eq t s) [
          | inl e ↦ subst (AllByRecursion (R t)) (sym (cond-true (eqb t s) (κ t ++ new ∷ []) (κ t) (eq-eqb t s e)))
              (all_more (R t) (κ t) new (all t) (subst (R t) (ap (kept store) e ∙ sym is) (is_kept t)))
          | inr e ↦ subst (AllByRecursion (R t)) (sym (cond-false (eqb t s) (κ t ++ new ∷ []) (κ t) (ne_eqb t s e))) (all t)
        ]

    counted : (w : World) (past : List Event) (plan rest : List PlanCommand) (listed listed' : Option (List Key)) (r : ℕ) (c : AdminCommand) (told : AdminReply) (κ : Counts)
        → Inv n goal w past plan listed store → Spells (remaining plan listed) (called r c told) (remaining rest listed') → AllHave κ → AllHave (counts_after κ w (Admin r c told))
    counted w past plan rest listed listed' r (command.Migrating s m) answers.Ok κ inv h all = marked w past plan rest listed listed' r s m κ inv h all
    counted w past plan rest listed listed' r (command.Migrating s m) answers.NoKey κ inv h all = all
    counted w past plan rest listed listed' r (command.Migrating s m) (answers.Keys ks) κ inv h all = all
    counted w past plan rest listed listed' r (command.Migrating s m) (answers.Refused fault) κ inv h all = all
    counted w past plan rest listed listed' r (command.Importing s m) told κ inv h all = all
    counted w past plan rest listed listed' r (command.SetNode s m) told κ inv h all = all
    counted w past plan rest listed listed' r (command.Stable s) told κ inv h all = all
    counted w past plan rest listed listed' r (command.KeysIn s k) told κ inv h all = all
    counted w past plan rest listed listed' r (command.Migrate ks m) told κ inv h all = all

    run_all : (es : List Event) (κ : Counts) (w last : World) (past : List Event) (plan rest : List PlanCommand) (listed listed' : Option (List Key)) → Inv n goal w past plan listed store
        → ServerRun w es last → Spelled (remaining plan listed) (calls es) (remaining rest listed') → NoClients es → AllHave κ → AllHave (counts κ w es)
    run_all [] κ w last past plan rest listed listed' inv run spelt quiet all = all
    run_all (Client seat x asking c reply ∷ es) κ w last past plan rest listed listed' inv run spelt quiet all = absurd quiet
    run_all (Look seat x reply ∷ es) κ w last past plan rest listed listed' inv run spelt quiet all =
        run_all es κ w last past plan rest listed listed' inv run.1 spelt quiet all
    run_all (Admin r c told ∷ es) κ w last past plan rest listed listed' inv run spelt quiet all =
        let good : AdminGood n goal w past r c told spelt.0.rest spelt.0.listed store = spelled n goal w past store plan listed r c told spelt.0.rest spelt.0.listed inv run.0.1 spelt.1 in
        let inv' : Inv n goal (after w (Admin r c told)) (Admin r c told ∷ past) spelt.0.rest spelt.0.listed store =
        subst (λ x. Inv n goal x (Admin r c told ∷ past) spelt.0.rest spelt.0.listed store) (sym (after_admin n goal w r c good.0)) good.1 in
        run_all es (counts_after κ w (Admin r c told)) (after w (Admin r c told)) last (Admin r c told ∷ past) spelt.0.rest rest spelt.0.listed listed' inv' run.1 spelt.2 quiet
        (counted w past plan spelt.0.rest listed spelt.0.listed r c told κ inv spelt.1 all)

-- ---- the laws

none_first : (w : World) (s o : ℕ) (legs : List Leg) → first_count w (legs_of s o legs) ≡ []
none_first w s o [] = refl
none_first w s o (Move t b others ∷ legs) = refl
none_first w s o (Try t ∷ legs) = refl

closed_first : (w : World) (v n s o : ℕ) (p : phase.Phase) (commands : List PlanCommand) → IsPart v n s p commands → p ≡ phase.Closed o → first_count w commands ≡ []
closed_first w v n s o p commands i e = by o (subst (λ q. IsPart v n s q commands) e i)
  where
    by : (o : ℕ) → IsPart v n s (phase.Closed o) commands → first_count w commands ≡ []
    by o j = ap (first_count w) (j.is ∙ ap (λ x. x ++ legs_of s j.owner j.legs) j.closes.0) ∙ none_first w s j.owner j.legs

pub quiet_cost_is : QuietCost
quiet_cost_is reshard events last starts closed run whole quiet =
    let n : ℕ = length reshard.first.nodes in
    let goal : ℕ → ℕ = final_owner reshard.plan reshard.phases in
    let κ : Counts = first_counts reshard.first reshard.plan in
    let x : Counts = counts κ reshard.first events in
    let served : ServerRun reshard.first events last = runs_are_server_runs reshard.first events last run in
    let e : Exactly n goal reshard.plan x last [] None (length (calls events) + 0) = exactly reshard events last starts served whole quiet in
    let all : AllKept reshard.store x = run_all n goal reshard.store (λ s k. k ≡ kept reshard.store s) (λ s. refl) events κ reshard.first last reshard.before reshard.plan [] None None
    (start reshard starts) served (spelled_by_whole reshard.plan (calls events) whole) quiet
    (λ s. subst (AllByRecursion (λ k. k ≡ kept reshard.store s)) (sym (closed_first reshard.first reshard.version n s (closed s).0 (reshard.phases s) (part reshard.plan s) (starts.legal s) (closed s).1)) tt) in
    let many : ℕ → ℕ = λ s. length (x s) + length reshard.plan in
    let y : Counts = enough reshard.store many in
    let agrees : Agrees e.passed x y = λ s i h.
    let short : e.passed s ≤ length (x s) = len_ok (x s) (e.passed s) (count last s) (e.base.marks s).phase (e.slots s) in
    at_index (λ k. k ≡ kept reshard.store s) (x s) i (all s) (omega (arith, h, short))
    ∙ sym (get_or-replicate (many s) i (kept reshard.store s) 0 (omega (arith, h, short))) in
    let paid : length (calls events) + 0 + 0 ≡ e.behind x + 0 = e.paid in
    let same : e.behind x ≡ e.behind y = e.kept x y agrees in
    let split : cost none_passed y reshard.plan ≡ e.behind y + 0 = e.splits y in
    let enough_is : cost none_passed y reshard.plan ≡ quiet_cost reshard.store reshard.plan = cost_enough reshard.store many none_passed reshard.plan (λ s. omega arith) in
    omega arith

pub quiet_more : (es : List Event) (r : ℕ) (c : AdminCommand) (told : AdminReply) → NoClients es → NoClients (es ++ Admin r c told ∷ [])
quiet_more [] r c told q = tt
quiet_more (Client seat x asking d reply ∷ es) r c told q = absurd q
quiet_more (Look seat x reply ∷ es) r c told q = quiet_more es r c told q
quiet_more (Admin s d reply ∷ es) r c told q = quiet_more es r c told q

-- the first command of a slot's part names the slot
first_names : (plan : List PlanCommand) (s : ℕ) (c : PlanCommand) (rest : List PlanCommand) → part plan s ≡ c ∷ rest → slot_named c ≡ s
first_names [] s c rest e = cc
first_names (o ∷ plan) s c rest e = elim (cases_Bool (eqb (slot_named o) s)) [
  | inl u ↦ (let here : o ∷ part plan s ≡ c ∷ rest = sym (cond-true (eqb (slot_named o) s) (o ∷ part plan s) (part plan s) u) ∙ e in
      ap slot_named (sym (head_same o c (part plan s) rest here)) ∙ eqb-true (slot_named o) s u)
  | inr u ↦ first_names plan s c rest (sym (cond-false (eqb (slot_named o) s) (o ∷ part plan s) (part plan s) u) ∙ e)
]
  where
    head_same : (a b : PlanCommand) (xs ys : List PlanCommand) → a ∷ xs ≡ b ∷ ys → a ≡ b
    head_same a b xs ys e = cc

small_first : (w : World) (store : Store) → Splits (held w) (get store) → (plan : List PlanCommand) (s : ℕ) → AllByRecursion (λ k. k ≤ kept store s) (first_count w (part plan s))
small_first w store split plan s = by (part plan s) refl
  where
    by : (commands : List PlanCommand) → part plan s ≡ commands → AllByRecursion (λ k. k ≤ kept store s) (first_count w commands)
    by [] e = tt
    by (planned.Importing t x at ∷ rest) e = tt
    by (planned.Migrating t x at ∷ rest) e = tt
    by (planned.SetNode t x at ∷ rest) e = tt
    by (planned.Stable t at ∷ rest) e = tt
    by (planned.Drain t x y b ∷ rest) e = (subst (λ u. length (keys_of (node_at w x).held t) ≤ kept store u) (first_names plan s (planned.Drain t x y b) rest e) (node_small store w x t split), tt)

pub stays_below_quiet_cost : StaysBelowQuietCost
stays_below_quiet_cost reshard events last left d quiet not_whole =
    let n : ℕ = length reshard.first.nodes in
    let goal : ℕ → ℕ = final_owner reshard.plan reshard.phases in
    let κ : Counts = first_counts reshard.first reshard.plan in
    let fine : NoRefusal (calls events) = landed.no_command_refused reshard events last left (record { drives = d; honest = quiet_honest events reshard.first reshard.before quiet }) in
    let g = landed.some_command_goes_on reshard events last left d fine not_whole in
    let b = landed.stays_below_cost reshard events last left d fine not_whole in
    let order_is : b.0 ≡ g.order = some_same b.0 g.order (sym b.1 ∙ g.is_next) in
    let e : Event = by_order last g.order in
    let more : ServerRun reshard.first (events ++ e ∷ []) (after last e) = run_more events e reshard.first last (runs_are_server_runs reshard.first events last d.run) (g.there, world_may_reply last g.order.node g.order.command) in
    let small : AllSmall reshard.store (counts κ reshard.first (events ++ e ∷ [])) = run_all n goal reshard.store (λ s k. k ≤ kept reshard.store s) (λ s. omega arith) (events ++ e ∷ []) κ reshard.first (after last e)
    reshard.before reshard.plan g.more.rest None g.more.listed (start reshard d.starts) more g.driven.0 (quiet_more events g.order.node g.order.command (admin_reply last g.order.node g.order.command) quiet)
    (λ s. small_first reshard.first reshard.store d.starts.is_open.split reshard.plan s) in
    let below : length (calls events) < plan_cost (counts κ reshard.first (events ++ e ∷ [])) reshard.plan =
    subst (λ o. length (calls events) < plan_cost (counts κ reshard.first (events ++ by_order last o ∷ [])) reshard.plan) order_is b.2 in
    let at_most : plan_cost (counts κ reshard.first (events ++ e ∷ [])) reshard.plan ≤ quiet_cost reshard.store reshard.plan = cost_small reshard.store (counts κ reshard.first (events ++ e ∷ [])) small none_passed reshard.plan in
    omega arith
  where
    some_same : (a b : Order) → Some a ≡ Some b → a ≡ b
    some_same a b e = cc
