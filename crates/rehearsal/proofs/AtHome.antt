-- On a trail a node holds keys only of slots that it owns or imports, whatever clients and the administrator do, unless a
-- STABLE leaves keys after.
use Rattle.std.proofs.Common.{◌≡◌, ◌≢◌, ◌⊎◌, ℕ, ◌<◌, Bool, true, false, cond, not, eqb, ◌&&◌, List, [], ◌∷◌, length}
use Rattle.std.proofs.Common.{map, Option, Some, None, is_some, is_none, option_map, refl, sym, ap, ◌∙◌}
use Rattle.std.proofs.Common.{subst, inl, inr, nat_cmp, is_eq, arith, Ordering, Less, Equal, Greater, ◌≤◌}
use Rattle.std.proofs.Common.{suc}
use Rattle.std.specs.Prelude.{nat_lt, slice_index, slice_set}
use Rattle.std.specs.List.{All, list_any}
use Rattle.std.specs.Ordering.{eq_by_cmp}
use Rattle.std.specs.Cmp.{nat_cmp_total}
use Rattle.std.specs.FinMap as map
use Rattle.std.specs.FinMap.{get, get-empty, get-insert, get-remove, nat_cmp-IsAntisymmetric}
use Rattle.std.proofs.lemmas.Bool.{cases_Bool, cases_eq, cases_lt, true≢false, cond-true, cond-false, ne_eqb}
use Rattle.std.proofs.lemmas.Bool.{eq-eqb, le-ltb, ltb-false, or_cases}
use Rattle.std.proofs.lemmas.List.{get_or-set_same, get_or-set_other, get_or-replicate, length-replicate}
use Rattle.std.proofs.lemmas.List.Elements.{All-head, All-tail}
use Rattle.std.proofs.Math.ListN.{length-set}
use Rattle.byte_texts.specs.Outcomes.{first_refusal}
use Rattle.key_slots.specs.HashSlot.{slot_of, slot_of-lt}
use Rattle.store_commands.specs.Store.{Key, is_named, order, same_key}
use Rattle.store_commands.specs.Apply.{apply}
use Rattle.store_commands.proofs.Named.{same_is, leaves_others}
use Rattle.client_commands.specs.Commands.{keys}
use Rattle.client_commands.specs.declared.command.Command.{Command}
use Rattle.slot_keyspace.specs.Listing.{keys_of}
use Rattle.slot_keyspace.proofs.Standing.{get-without}
use Rattle.slot_marks.specs.Verdicts.{first_slot}
use Rattle.slot_marks.specs.declared.fault.SlotFault.{SlotFault}
use Rattle.cluster_node.specs.Nodes.{Node, blank, client_node, is_present, is_serve}
use Rattle.cluster_admin.specs.Faults.{of_slot}
use Rattle.cluster_admin.specs.Commands.{IsCommand}
use Rattle.cluster_node.specs.Administration.{node_if_accepted, setting_fault, target_if_accepted}
use Rattle.cluster_admin.specs.declared.admin.AdminFault.{AdminFault}
use Rattle.cluster_admin.specs.declared.admin.AdminCommand.{AdminCommand}
use Rattle.cluster_admin.specs.declared.admin.AdminCommand.TheVariants.{Importing, Migrating, SetNode, Stable, KeysIn}
use Rattle.cluster_admin.specs.declared.admin.AdminCommand.TheVariants.{Migrate}
use Rattle.cluster_admin.specs.declared.admin.AdminReply.{AdminReply}
use Rattle.cluster_world.specs.Worlds.{World, change_node, importing, node_at, owner, verdict}
use Rattle.cluster_world.specs.Commanding.{admin_after, admin_fault, effect}
use Rattle.cluster_world.specs.Steps.{action_of, after, Answers, IsCall, Run}
use Rattle.cluster_world.specs.declared.event.Event.{Event}
use Rattle.cluster_world.specs.declared.event.Event.TheVariants.{Client, Look, Admin}
use Rattle.cluster_world.proofs.Cleanly.{named_slot}
use Rattle.cluster_world.proofs.Viewing.{length_kept, node_other, node_same}
use Rattle.reshard_theorem.proofs.Clients.{is_serve_Serve}
use Rattle.reshard_theorem.proofs.Keys.{get-taken_over}
use Rattle.reshard_theorem.proofs.Listing.{none_listed}
use Rattle.reshard_theorem.proofs.Verdicts.{ServedBy, none_named, served_by}
use Rattle.cluster_world.specs.WorldView.{new_world, new_node}
use Rattle.cluster_world.specs.Recorded.{Recorded, AreCalls, IsJustOpened, IsRecord}
use Rattle.rehearsal.specs.ArmedPlans.{LeavesNone, NoneLeftBehind}

-- the node `me`: it knows an owner of each slot, and holds keys only of slots that it owns or imports
pub record IsHome (me : ℕ) (x : Node) : Type 0 where
  pub width : length x.owners ≡ 16384
  pub home : (k : Key) → get x.held k ≢ None
      → (slice_index x.owners (slot_of k) ≡ me) ⊎ (get x.importing (slot_of k) ≢ None)

abbrev pub AtHome : World → Type 0
AtHome w = (m : ℕ) → m < length w.nodes → IsHome m (node_at w m)

-- ---- one node changes

node_home : (w : World) (n : ℕ) (x : Node) → n < length w.nodes → AtHome w → IsHome n x → AtHome (change_node w n x)
node_home w n x inside all here m h = elim (cases_eq m n) [
  | inl e ↦ subst (λ k. IsHome k (node_at (change_node w n x) k)) (sym e)
      (subst (IsHome n) (sym (node_same w n x inside)) here)
  | inr e ↦ subst (IsHome m) (sym (node_other w n x m e)) (all m (subst (λ l. m < l) (length_kept w n x) h))
]

-- ---- a client's command

-- it changes keys of a slot that the node owns or imports
served_home : (w : World) (n : ℕ) (asking : Bool) (c : Command) → IsHome n (node_at w n)
    → ServedBy w n asking (keys c) → IsHome n (record (node_at w n) { held = apply (node_at w n).held c })
served_home w n asking c x by = record { width = x.width; home = λ k some. at k some (cases_Bool (is_named k (keys c))) }
  where
    at : (k : Key) → get (apply (node_at w n).held c) k ≢ None → (is_named k (keys c) ≡ true) ⊎ (is_named k (keys c) ≡ false)
        → (owner w n (slot_of k) ≡ n) ⊎ (importing w n (slot_of k) ≢ None)
    at k some (inl e) =
        let slot : slot_of k ≡ first_slot (keys c) = named_slot (keys c) k by.one_slot e in
        elim by.why [
          | inl u ↦ inr (λ none. u.0 (ap (importing w n) (sym slot) ∙ none))
          | inr u ↦ inl (ap (owner w n) slot ∙ u.0)
        ]
    at k some (inr e) = x.home k (λ none. some (leaves_others (node_at w n).held c k e ∙ none))

client_home : (w : World) (n : ℕ) (asking : Bool) (c : Command) → IsHome n (node_at w n)
    → IsHome n (client_node n (node_at w n) asking c)
unfolding client_node
client_home w n asking c x = elim (cases_Bool (is_serve (verdict w n asking (keys c)))) [
  | inl e ↦ subst (IsHome n) (sym (cond-true _ _ _ e))
      (served_home w n asking c x (served_by w n asking (keys c) (is_serve_Serve _ e)))
  | inr e ↦ subst (IsHome n) (sym (cond-false _ _ _ e)) x
]

-- ---- marks and owners

still_marked : (b : Bool) (v : ℕ) (o : Option ℕ) → o ≢ None → cond b (Some v) o ≢ None
still_marked true v o h e = absurd cc
still_marked false v o h e = h e

import_home : (me s m : ℕ) (x : Node) → IsHome me x → IsHome me (node_if_accepted me x (Importing s m))
unfolding node_if_accepted
import_home me s m x h = record {
  width = h.width;
  home = λ k some. elim (h.home k some) [
    | inl u ↦ inl u
    | inr u ↦ inr (subst (λ o. o ≢ None) (sym (get-insert nat_cmp_total x.importing s m (slot_of k)))
        (still_marked _ m (get x.importing (slot_of k)) u))
  ];
}

migrate_home : (me s m : ℕ) (x : Node) → IsHome me x → IsHome me (node_if_accepted me x (Migrating s m))
unfolding node_if_accepted
migrate_home me s m x h = record { width = h.width; home = h.home }

tied : (t s : ℕ) → t ≢ s → eq_by_cmp nat_cmp t s ≡ false
tied t s e = by (nat_cmp t s) refl
  where
    by : (r : Ordering) → nat_cmp t s ≡ r → is_eq r ≡ false
    by Less p = refl
    by Equal p = absurd (e (nat_cmp-IsAntisymmetric t s p))
    by Greater p = refl

other_mark : (b : Bool) (marks : map.FinMap nat_cmp ℕ) (s t : ℕ) → t ≢ s
    → get (cond b (map.remove marks s) marks) t ≡ get marks t
other_mark true marks s t e = get-remove nat_cmp_total marks s t ∙ cond-false _ _ _ (tied t s e)
other_mark false marks s t e = refl

two_rows : {F : Type 0} (a b : Bool) (i j : F) → first_refusal ((a, i) ∷ (b, j) ∷ []) ≡ None
    → (a ≡ false) × (b ≡ false)
two_rows true b i j e = absurd cc
two_rows false true i j e = absurd cc
two_rows false false i j e = (refl, refl)

no_option : (o : Option SlotFault) → option_map of_slot o ≡ None → o ≡ None
no_option None e = refl
no_option (Some f) e = absurd cc

third : (a b c : Bool) → (a && not b && c) ≡ false → a ≡ true → b ≡ false → c ≡ false
third true true c e p q = absurd (true≢false q)
third true false c e p q = e
third false b c e p q = absurd (true≢false (sym p))

none_long : {A : Type 0} (xs : List A) → nat_lt 0 (length xs) ≡ false → xs ≡ []
none_long [] e = refl
none_long (x ∷ xs) e = absurd (over (length xs) (ltb-false _ _ e))
  where
    over : (n : ℕ) → suc n ≤ 0 → ⊥
    over n h = omega arith

-- a node that gives up a slot holds no key of it
tell_home : (me n s m : ℕ) (x : Node) → IsHome me x → setting_fault me n x (SetNode s m) ≡ None
    → IsHome me (node_if_accepted me x (SetNode s m))
unfolding setting_fault node_if_accepted
tell_home me n s m x h fine = record {
  width = length-set x.owners s m ∙ h.width;
  home = λ k some. at k some (cases_eq (slot_of k) s) (h.home k some);
}
  where
    kept : (slice_index x.owners s ≡ me) → m ≢ me → keys_of x.held s ≡ []
    kept own apart =
        let mine : Bool = eqb (slice_index x.owners s) me in
        let some : Bool = nat_lt 0 (length (keys_of x.held s)) in
        let rows : (not (nat_lt m n) ≡ false) × ((mine && not (eqb m me) && some) ≡ false) =
        two_rows _ _ _ _ (no_option _ fine) in
        none_long (keys_of x.held s)
        (third mine (eqb m me) some rows.1 (eq-eqb (slice_index x.owners s) me own) (ne_eqb m me apart))

    at : (k : Key) → get x.held k ≢ None → (slot_of k ≡ s) ⊎ (slot_of k ≢ s)
        → (slice_index x.owners (slot_of k) ≡ me) ⊎ (get x.importing (slot_of k) ≢ None)
        → (slice_index (slice_set x.owners s m) (slot_of k) ≡ me)
        ⊎ (get (cond (eqb m me) (map.remove x.importing s) x.importing) (slot_of k) ≢ None)
    at k some (inr e) (inl u) = inl (get_or-set_other x.owners s (slot_of k) m 0 e ∙ u)
    at k some (inr e) (inr u) = inr (λ none. u (sym (other_mark (eqb m me) x.importing s (slot_of k) e) ∙ none))
    at k some (inl e) u = elim (cases_eq m me) [
      | inl to_me ↦ inl (ap (slice_index (slice_set x.owners s m)) e
          ∙ get_or-set_same x.owners s m 0 (subst (λ t. t < length x.owners) e
          (subst (λ l. slot_of k < l) (sym h.width) (slot_of-lt k))) ∙ to_me)
      | inr away ↦ elim u [
        | inl own ↦ absurd (some (none_listed x.held s (kept (ap (slice_index x.owners) (sym e) ∙ own) away) k e))
        | inr mark ↦ inr (subst (λ b. get (cond b (map.remove x.importing s) x.importing) (slot_of k) ≢ None)
            (sym (ne_eqb m me away)) mark)
      ]
    ]

-- a node that takes its importing mark back, of a slot that it does not own, holds no key of it
stable_home : (me s : ℕ) (x : Node) → IsHome me x → (slice_index x.owners s ≢ me → keys_of x.held s ≡ [])
    → IsHome me (node_if_accepted me x (Stable s))
unfolding node_if_accepted
stable_home me s x h none = record {
  width = h.width;
  home = λ k some. at k some (cases_eq (slot_of k) s) (h.home k some);
}
  where
    at : (k : Key) → get x.held k ≢ None → (slot_of k ≡ s) ⊎ (slot_of k ≢ s)
        → (slice_index x.owners (slot_of k) ≡ me) ⊎ (get x.importing (slot_of k) ≢ None)
        → (slice_index x.owners (slot_of k) ≡ me) ⊎ (get (map.remove x.importing s) (slot_of k) ≢ None)
    at k some e (inl own) = inl own
    at k some (inr e) (inr mark) = inr (λ gone. mark (sym (other_mark true x.importing s (slot_of k) e) ∙ gone))
    at k some (inl e) (inr mark) = elim (cases_eq (slice_index x.owners s) me) [
      | inl own ↦ inl (ap (slice_index x.owners) e ∙ own)
      | inr other ↦ absurd (some (none_listed x.held s (none other) k e))
    ]

-- ---- a MIGRATE

four_rows : {F : Type 0} (a b c d : Bool) (i j k l : F)
    → first_refusal ((a, i) ∷ (b, j) ∷ (c, k) ∷ (d, l) ∷ []) ≡ None → (a ≡ false) × (c ≡ false)
four_rows true b c d i j k l e = absurd cc
four_rows false true c d i j k l e = absurd cc
four_rows false false true d i j k l e = absurd cc
four_rows false false false d i j k l e = (refl, refl)

of_named : (P : Key → Type 0) (ks : List Key) → All P ks → (q : Key) → is_named q ks ≡ true → P q
of_named P [] h q e = absurd (true≢false (sym e))
of_named P (k ∷ ks) h q e = elim (or_cases (same_key q k) (is_named q ks) e) [
  | inl t ↦ subst P (sym (same_is q k t)) (All-head P k ks h)
  | inr t ↦ of_named P ks (All-tail P k ks h) q t
]

not_none : (o : Option ℕ) (b : Bool) → (b && is_none o) ≡ false → b ≡ true → o ≢ None
not_none o true e t none = true≢false (ap is_none (sym none) ∙ e)
not_none o false e t none = true≢false (sym t)

both_parts : (a b : Bool) → (a && b) ≡ true → (a ≡ true) × (b ≡ true)
both_parts true b e = (refl, e)
both_parts false b e = absurd (true≢false (sym e))

gone_or_kept : {A : Type 0} (b : Bool) (o : Option A) → cond b None o ≢ None → o ≢ None
gone_or_kept true o h e = h refl
gone_or_kept false o h e = h e

sent_home : (me m : ℕ) (ks : List Key) (x : Node) → IsHome me x → IsHome me (node_if_accepted me x (Migrate ks m))
unfolding node_if_accepted
sent_home me m ks x h = record {
  width = h.width;
  home = λ k some.
      h.home k (gone_or_kept (is_named k ks) (get x.held k) (subst (λ o. o ≢ None) (get-without x.held ks k) some));
}

-- the keys that come are of a slot that the target imports
taken_home : (me : ℕ) (from x : Node) (ks : List Key) → IsHome me x → All (λ k. slot_of k ≡ first_slot ks) ks
    → (list_any (is_present from) ks && is_none (get x.importing (first_slot ks))) ≡ false
    → IsHome me (target_if_accepted from x ks)
unfolding target_if_accepted
taken_home me from x ks h one marked = record {
  width = h.width;
  home = λ k some. at k _ refl (subst (λ o. o ≢ None) (get-taken_over from x ks k) some);
}
  where
    comes : (k : Key) → (is_named k ks && is_some (get from.held k)) ≡ true → get x.importing (slot_of k) ≢ None
    comes k e =
        let p = both_parts (is_named k ks) (is_some (get from.held k)) e in
        let any : list_any (is_present from) ks ≡ true = elim (cases_Bool (list_any (is_present from) ks)) [
          | inl t ↦ t
          | inr t ↦ absurd (true≢false (sym p.1 ∙ none_named (is_present from) ks t k p.0))
        ] in
        let slot : slot_of k ≡ first_slot ks = of_named (λ q. slot_of q ≡ first_slot ks) ks one k p.0 in
        λ none. not_none (get x.importing (first_slot ks)) _ marked any (ap (get x.importing) (sym slot) ∙ none)

    at : (k : Key) (b : Bool) → (is_named k ks && is_some (get from.held k)) ≡ b
        → cond b (get from.held k) (get x.held k) ≢ None
        → (slice_index x.owners (slot_of k) ≡ me) ⊎ (get x.importing (slot_of k) ≢ None)
    at k true e some = inr (comes k e)
    at k false e some = h.home k some

-- ---- the administrator's commands

-- a command of one node alone
one_home : (w : World) (n : ℕ) (c : AdminCommand) → n < length w.nodes → AtHome w
    → IsHome n (node_if_accepted n (node_at w n) c) → AtHome (change_node w n (node_if_accepted n (node_at w n) c))
one_home w n c inside all here = node_home w n (node_if_accepted n (node_at w n) c) inside all here

moved_home : (w : World) (n m : ℕ) (ks : List Key) → n < length w.nodes → AtHome w → IsCommand (Migrate ks m)
    → (not (nat_lt m (length w.nodes)) ≡ false)
    × ((list_any (is_present (node_at w n)) ks && is_none (importing w m (first_slot ks))) ≡ false)
    → AtHome (change_node (change_node w m (target_if_accepted (node_at w n) (node_at w m) ks)) n
    (node_if_accepted n (node_at w n) (Migrate ks m)))
moved_home w n m ks inside all is (far, marked) =
    let there : m < length w.nodes = below m (length w.nodes) far in
    let target = target_if_accepted (node_at w n) (node_at w m) ks in
    let mid = change_node w m target in
    let all_mid : AtHome mid = node_home w m target there all
    (taken_home m (node_at w n) (node_at w m) ks (all m there) is.one_slot marked) in
    node_home mid n (node_if_accepted n (node_at w n) (Migrate ks m)) (subst (λ l. n < l) (sym (length_kept w m target)) inside)
    all_mid (sent_home n m ks (node_at w n) (all n inside))
  where
    below : (m n : ℕ) → not (nat_lt m n) ≡ false → m < n
    below m n e = elim (cases_lt m n) [
      | inl h ↦ h
      | inr h ↦ absurd (true≢false (sym (ap not (le-ltb m n h)) ∙ e))
    ]

-- a STABLE leaves no key after
abbrev Leaves : World → ℕ → AdminCommand → Type 0
Leaves w n (Stable s) = owner w n s ≢ n → keys_of (node_at w n).held s ≡ []
Leaves w n c = Unit {0}

effect_home : (w : World) (n : ℕ) (c : AdminCommand) → n < length w.nodes → IsCommand c → Leaves w n c
    → admin_fault w n c ≡ None → AtHome w → AtHome (effect w n c)
unfolding admin_fault effect
effect_home w n (Importing s m) inside is none fine all =
    one_home w n (Importing s m) inside all (import_home n s m (node_at w n) (all n inside))
effect_home w n (Migrating s m) inside is none fine all =
    one_home w n (Migrating s m) inside all (migrate_home n s m (node_at w n) (all n inside))
effect_home w n (SetNode s m) inside is none fine all =
    one_home w n (SetNode s m) inside all (tell_home n (length w.nodes) s m (node_at w n) (all n inside) fine)
effect_home w n (Stable s) inside is none fine all =
    one_home w n (Stable s) inside all (stable_home n s (node_at w n) (all n inside) none)
effect_home w n (KeysIn s count) inside is none fine all = all
effect_home w n (Migrate ks m) inside is none fine all =
    moved_home w n m ks inside all is (four_rows _ _ _ _ _ _ _ _ fine)

admin_home : (w : World) (n : ℕ) (c : AdminCommand) → n < length w.nodes → IsCommand c → Leaves w n c → AtHome w
    → AtHome (admin_after w n c)
unfolding admin_after
admin_home w n c inside is none all = by (admin_fault w n c) refl
  where
    by : (f : Option AdminFault) → admin_fault w n c ≡ f → AtHome (cond (is_some f) w (effect w n c))
    by None e = effect_home w n c inside is none e all
    by (Some f) e = all

-- ---- along a run

leaves : (w : World) (n : ℕ) (c : AdminCommand) (reply : AdminReply) → LeavesNone w (Admin n c reply) → Leaves w n c
leaves w n (Importing s m) reply none = tt
leaves w n (Migrating s m) reply none = tt
leaves w n (SetNode s m) reply none = tt
leaves w n (Stable s) reply none = none
leaves w n (KeysIn s count) reply none = tt
leaves w n (Migrate ks m) reply none = tt

event_home : (w : World) (e : Event) → IsCall (action_of e) → Answers w e → LeavesNone w e → AtHome w → AtHome (after w e)
event_home w (Client seat n asking c reply) is answers none all =
    node_home w n (client_node n (node_at w n) asking c) answers.0 all
    (client_home w n asking c (all n answers.0))
event_home w (Look seat n reply) is answers none all = all
event_home w (Admin n c reply) is answers none all = admin_home w n c answers.0 is (leaves w n c reply none) all

pub run_home : (w last : World) (es : List Event) → AreCalls es → Run w es last → NoneLeftBehind w es → AtHome w → AtHome last
run_home w last [] calls run none all = subst AtHome (sym run) all
run_home w last (e ∷ es) calls run none all =
    run_home (after w e) last es calls.1 run.1 none.1 (event_home w e calls.0 run.0 none.0 all)

pub opened_home : (w : World) → IsJustOpened w → AtHome w
opened_home w o = subst AtHome (sym o.is) (λ m h. subst (IsHome m) (sym (at m h)) (fresh m))
  where
    at : (m : ℕ) → m < length (new_world o.port o.table.nodes o.table.owners).nodes
        → node_at (new_world o.port o.table.nodes o.table.owners) m ≡ new_node o.table.owners
    at m h =
        get_or-replicate o.table.nodes m (new_node o.table.owners) blank
        (subst (λ k. m < k) (length-replicate o.table.nodes (new_node o.table.owners)) h)

    fresh : (m : ℕ) → IsHome m (new_node o.table.owners)
    fresh m = record { width = o.is_table.width; home = λ k some. absurd (some (get-empty order k)) }

pub trail_home : (r : Recorded) → IsRecord r → NoneLeftBehind r.first r.events → AtHome r.world
trail_home r k none = run_home r.first r.world r.events k.calls k.run none (opened_home r.first k.opening)
