-- A run that is seen of each slot keeps the invariant, whatever honest clients do meanwhile.
use Rattle.std.proofs.Common.{◌≡◌, ◌≢◌, ℕ, Bool, true, false, cond, eqb, List, [], ◌∷◌, ◌++◌, length, Option, Some, None, sym, refl, ap, ◌∙◌, subst, subst₂, inl, inr}
use Rattle.std.proofs.lemmas.Bool.{cases_eq, cond-true, cond-false, eq-eqb, ne_eqb}
use Rattle.resp2_wire.specs.declared.reply.Reply.{Reply}
use Rattle.client_commands.specs.declared.command.Command.{Command}
use Rattle.store_commands.specs.Store.{Key, Store}
use Rattle.store_commands.specs.Apply.{answer, apply}
use Rattle.cluster_admin.specs.declared.admin.AdminCommand.{AdminCommand}
use Rattle.cluster_admin.specs.declared.admin.AdminReply.{AdminReply}
use Rattle.cluster_admin.specs.declared.call.AdminCall.{AdminCall}
use Rattle.cluster_world.specs.AdminCalls.{calls}
use Rattle.cluster_world.specs.Commanding.{effect}
use Rattle.cluster_world.specs.Honesty.{Honest, past_of}
use Rattle.cluster_world.specs.Servers.{ServerRun}
use Rattle.cluster_world.specs.Serving.{is_redirection, replay_of, served, store_after}
use Rattle.cluster_world.specs.Steps.{after}
use Rattle.cluster_world.specs.Worlds.{World}
use Rattle.cluster_world.specs.declared.event.Event.{Event}
use Rattle.cluster_world.specs.declared.event.Event.TheVariants.{Admin, Client, Look}
use Rattle.cluster_world.proofs.Telling.{answered, redirect_told}
use Rattle.plan_language.specs.declared.plan_command.PlanCommand.{PlanCommand}
use Rattle.plan_semantics.specs.Driving.{NoRefusal, Remaining, Spelled, called, remaining}
use Rattle.plan_semantics.specs.Plans.{part}
use Rattle.reshard_theorem.proofs.Admins.{AdminGood}
use Rattle.reshard_theorem.proofs.Base.{Inv, ListedOk}
use Rattle.reshard_theorem.proofs.HonestClients.{client_step}
use Rattle.reshard_theorem.proofs.HonestRuns.{look_earlier}
use Rattle.reshard_theorem.proofs.Servers.{not_refused}
use Rattle.reshard_theorem.proofs.Whole.{after_admin, spelled}
use Rattle.slotwise_runs.specs.Seen.{of_slot, slot_called}
use Rattle.slotwise_runs.proofs.Calls.{of_slot-here, of_slot-there, spells_all, spells_front, spells_listed}
use Rattle.slotwise_runs.proofs.Fronts.{inv_by_parts, listed_front}
use Rattle.slotwise_runs.proofs.Parts.{AllOf, all-part, front, part-front, part-front_other, part-front_same, without}

-- the open listings, one for each slot
abbrev pub Listings : Type 0
Listings = ℕ → Option (List Key)

-- one slot's listing changes
abbrev pub with_listing : Listings → ℕ → Option (List Key) → Listings
with_listing listed s l t = cond (eqb t s) l (listed t)

pub listing_here : (listed : Listings) (s t : ℕ) (l : Option (List Key)) → t ≡ s → with_listing listed s l t ≡ l
listing_here listed s t l e = cond-true (eqb t s) l (listed t) (eq-eqb t s e)

pub listing_there : (listed : Listings) (s t : ℕ) (l : Option (List Key)) → t ≢ s → with_listing listed s l t ≡ listed t
listing_there listed s t l e = cond-false (eqb t s) l (listed t) (ne_eqb t s e)

-- each open listing is of its slot's next drain
abbrev pub AreOpen : List PlanCommand → Listings → Type 0
AreOpen plan listed = (s : ℕ) → ListedOk (part plan s) (listed s)

-- what the calls leave of each part
abbrev pub SpelledEach : List PlanCommand → Listings → List AdminCall → (ℕ → Remaining) → Type 0
SpelledEach plan listed cs left = (s : ℕ) → Spelled (remaining (part plan s) (listed s)) (of_slot s cs) (left s)

-- ---- one call of a slot: its commands are taken to the front

module _ (plan : List PlanCommand) (listed : Listings) (c : AdminCall) (cs : List AdminCall) (left : ℕ → Remaining)
    (spelt : SpelledEach plan listed (c ∷ cs) left) where
  abbrev s : ℕ
  s = slot_called c.command

  pub here : Spelled (remaining (part plan s) (listed s)) (c ∷ of_slot s cs) (left s)
  here = subst (λ l. Spelled (remaining (part plan s) (listed s)) l (left s)) (of_slot-here c cs) (spelt s)

  -- the rest of the plan after the call
  abbrev pub next_plan : List PlanCommand
  next_plan = here.0.rest ++ without s plan

  abbrev pub next_listed : Listings
  next_listed = with_listing listed s here.0.listed

  all : AllOf s here.0.rest
  all = spells_all s (part plan s) (listed s) c here.0 (all-part plan s) here.1

  pub same_elsewhere : (t : ℕ) → t ≢ s → part next_plan t ≡ part plan t
  same_elsewhere t e = part-front_other s t here.0.rest plan (λ f. e (sym f)) all

  pub left_here : part next_plan s ≡ here.0.rest
  left_here = part-front_same s here.0.rest plan all

  pub next_open : AreOpen plan listed → ListedOk next_plan here.0.listed → AreOpen next_plan next_listed
  next_open fine new t = elim (cases_eq t s) [
    | inl e ↦ subst₂ ListedOk (sym (ap (part next_plan) e ∙ left_here)) (sym (listing_here listed s t here.0.listed e))
        (spells_listed (part plan s) (without s plan) (listed s) c here.0 here.1 new)
    | inr e ↦ subst₂ ListedOk (sym (same_elsewhere t e)) (sym (listing_there listed s t here.0.listed e)) (fine t)
  ]

  pub next_spelt : SpelledEach next_plan next_listed cs left
  next_spelt t = elim (cases_eq t s) [
    | inl e ↦ subst (λ u. Spelled (remaining (part next_plan u) (next_listed u)) (of_slot u cs) (left u)) (sym e)
        (subst₂ (λ p l. Spelled (remaining p l) (of_slot s cs) (left s)) (sym left_here) (sym (listing_here listed s s here.0.listed refl)) here.2)
    | inr e ↦ subst₂ (λ p l. Spelled (remaining p l) (of_slot t cs) (left t)) (sym (same_elsewhere t e)) (sym (listing_there listed s t here.0.listed e))
        (subst (λ l. Spelled (remaining (part plan t) (listed t)) l (left t)) (of_slot-there t c cs e) (spelt t))
  ]

-- ---- the run

module _ (n : ℕ) (goal : ℕ → ℕ) where
  -- what holds after a run of which this is left of each slot
  pub record Kept (last : World) (left : ℕ → Remaining) (store : Store) (before : List Event) (es : List Event) : Type 0 where
    pub plan : List PlanCommand
    pub listed : Listings
    pub inv : Inv n goal last (past_of before es) plan None (store_after store (served es))
    pub are_open : AreOpen plan listed
    pub rests : (s : ℕ) → (left s).rest ≡ part plan s
    pub listings : (s : ℕ) → (left s).listed ≡ listed s
    pub replies : served es ≡ replay_of store (served es)
    pub no_refusal : NoRefusal (calls es)

  kept_served : (past : List Event) (seat x : ℕ) (asking : Bool) (c : Command) (reply : Reply) (es : List Event) (last : World) (left : ℕ → Remaining) (store : Store)
      → reply ≡ answer store c → Kept last left (apply store c) (Client seat x asking c reply ∷ past) es → Kept last left store past (Client seat x asking c reply ∷ es)
  kept_served past seat x asking c reply es last left store e k = record {
    plan = k.plan;
    listed = k.listed;
    inv = subst (λ l. Inv n goal last (past_of (Client seat x asking c reply ∷ past) es) k.plan None (store_after store l)) (sym more) k.inv;
    are_open = k.are_open;
    rests = k.rests;
    listings = k.listings;
    replies = subst (λ l. l ≡ replay_of store l) (sym more) (λ i. (c, e i) ∷ k.replies i);
    no_refusal = k.no_refusal;
  }
    where
      more : served (Client seat x asking c reply ∷ es) ≡ (c, reply) ∷ served es
      more = cond-false _ _ _ (ap is_redirection e ∙ answered store c)

  kept_told : (past : List Event) (seat x : ℕ) (asking : Bool) (c : Command) (reply : Reply) (es : List Event) (last : World) (left : ℕ → Remaining) (store : Store)
      → is_redirection reply ≡ true → Kept last left store (Client seat x asking c reply ∷ past) es → Kept last left store past (Client seat x asking c reply ∷ es)
  kept_told past seat x asking c reply es last left store e k = record {
    plan = k.plan;
    listed = k.listed;
    inv = subst (λ l. Inv n goal last (past_of (Client seat x asking c reply ∷ past) es) k.plan None (store_after store l)) (sym more) k.inv;
    are_open = k.are_open;
    rests = k.rests;
    listings = k.listings;
    replies = subst (λ l. l ≡ replay_of store l) (sym more) k.replies;
    no_refusal = k.no_refusal;
  }
    where
      more : served (Client seat x asking c reply ∷ es) ≡ served es
      more = cond-true _ _ _ e

  pub run_keeps : (es : List Event) (w last : World) (past : List Event) (plan : List PlanCommand) (listed : Listings) (store : Store) (left : ℕ → Remaining)
      → Inv n goal w past plan None store → AreOpen plan listed → ServerRun w es last → SpelledEach plan listed (calls es) left → Honest w past es
      → Kept last left store past es
  run_keeps [] w last past plan listed store left inv fine run spelt honest = record {
    plan = plan;
    listed = listed;
    inv = subst (λ x. Inv n goal x past plan None store) (sym run) inv;
    are_open = fine;
    rests = λ s. (spelt s).0;
    listings = λ s. (spelt s).1;
    replies = refl;
    no_refusal = tt;
  }
  run_keeps (Client seat x asking c reply ∷ es) w last past plan listed store left inv fine run spelt honest =
      elim (client_step n goal w past plan None store seat x asking c reply inv run.0 honest.0) [
        | inl u ↦ kept_served past seat x asking c reply es last left store u.0
            (run_keeps es (after w (Client seat x asking c reply)) last (Client seat x asking c reply ∷ past) plan listed (apply store c) left u.1 fine run.1 spelt honest.1)
        | inr u ↦ kept_told past seat x asking c reply es last left store (ap is_redirection u.2 ∙ redirect_told w.base_port _ u.0 u.1)
            (run_keeps es (after w (Client seat x asking c reply)) last (Client seat x asking c reply ∷ past) plan listed store left u.3 fine run.1 spelt honest.1)
      ]
  run_keeps (Look seat x reply ∷ es) w last past plan listed store left inv fine run spelt honest =
      let inv' : Inv n goal w (Look seat x reply ∷ past) plan None store = record { base = inv.base; split = inv.split; lies = λ s. record { place = (inv.lies s).place; asked = λ ks m v. (inv.lies s).asked ks m (look_earlier w.base_port past seat x reply ks m v) } } in
      let k : Kept last left store (Look seat x reply ∷ past) es = run_keeps es w last (Look seat x reply ∷ past) plan listed store left inv' fine run.1 spelt honest.1 in
      record { plan = k.plan; listed = k.listed; inv = k.inv; are_open = k.are_open; rests = k.rests; listings = k.listings; replies = k.replies; no_refusal = k.no_refusal }
  run_keeps (Admin r c reply ∷ es) w last past plan listed store left inv fine run spelt honest =
      let call : AdminCall = called r c reply in
      let s : ℕ = slot_called c in
      let mid : Remaining = (here plan listed call (calls es) left spelt).0 in
      let next : List PlanCommand = next_plan plan listed call (calls es) left spelt in
      let first : Inv n goal w past (front s plan) (listed s) store =
      inv_by_parts n goal w plan (front s plan) None (listed s) (λ t. sym (part-front s plan t)) (listed_front (part plan s) (without s plan) (listed s) (fine s)) past store inv in
      let good : AdminGood n goal w past r c reply next mid.listed store =
      spelled n goal w past store (front s plan) (listed s) r c reply next mid.listed first run.0.1
      (spells_front (part plan s) (without s plan) (listed s) call mid (here plan listed call (calls es) left spelt).1) in
      let there : Inv n goal (after w (Admin r c reply)) (Admin r c reply ∷ past) next mid.listed store =
      subst (λ x. Inv n goal x (Admin r c reply ∷ past) next mid.listed store) (sym (after_admin n goal w r c good.0)) good.1 in
      let inv' : Inv n goal (after w (Admin r c reply)) (Admin r c reply ∷ past) next None store =
      inv_by_parts n goal (after w (Admin r c reply)) next next mid.listed None (λ t. refl) tt (Admin r c reply ∷ past) store there in
      let k : Kept last left store (Admin r c reply ∷ past) es =
      run_keeps es (after w (Admin r c reply)) last (Admin r c reply ∷ past) next (next_listed plan listed call (calls es) left spelt) store left inv'
      (next_open plan listed call (calls es) left spelt fine there.base.listing) run.1 (next_spelt plan listed call (calls es) left spelt) honest.1 in
      record {
        plan = k.plan;
        listed = k.listed;
        inv = k.inv;
        are_open = k.are_open;
        rests = k.rests;
        listings = k.listings;
        replies = k.replies;
        no_refusal = (not_refused w r c reply run.0.1 good.0, k.no_refusal);
      }
