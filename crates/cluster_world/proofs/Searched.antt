-- The loop of the search for the first event that is not earned.
use Rattle.std.proofs.Common.{◌≡◌, ℕ, suc, ◌+◌, ◌<◌, ◌≤◌, Bool, true, false, cond, eqb, ◌&&◌, List, [], ◌∷◌, ◌++◌, length, take, drop, get_or}
use Rattle.std.proofs.Common.{Option, Some, None, is_some, is_none, nat_cmp, sym, refl, ap, ◌∙◌, subst, subst₂, arith, inl, inr, take_all}
use Rattle.std.proofs.Common.{zero-add, add-zero}
use Rattle.std.proofs.lemmas.Bool.{cases_lt, true≢false}
use Rattle.std.proofs.lemmas.List.{take-append-drop, get_or-replicate, length-replicate, get_or_past, length-take}
use Rattle.std.proofs.Math.ListN.{replicate}
use Rattle.std.proofs.Math.Seq.{take-suc, drop-cons}
use Rattle.std.specs.FinMap as finite
use Rattle.std.specs.FinMap.{get-empty}
use Rattle.store_commands.specs.Store.{Key}
use Rattle.key_slots.specs.Owners.{Owners}
use Rattle.slot_marks.specs.Tables.{Marks}
use Rattle.cluster_node.specs.Nodes.{Node, blank}
use Rattle.cluster_admin.specs.declared.admin.AdminCommand.TheVariants.{Importing, SetNode, Stable}
use Rattle.cluster_admin.specs.declared.admin.AdminReply.TheVariants as reply
use Rattle.cluster_world.specs.Worlds.{World}
use Rattle.cluster_world.specs.Steps.{after, action_of, node_of, Answers, Run}
use Rattle.cluster_world.specs.WorldView.{new_world, new_node}
use Rattle.cluster_world.specs.Honesty.{Honest, past_of}
use Rattle.cluster_world.specs.Earning.{world_after, imports, IsDishonestAt}
use Rattle.cluster_world.specs.Searching.{is_earned, IsSearched}
use Rattle.cluster_world.specs.Imported.{Places, Errors, since_in, dated, last_import, ArePlacesOf, is_ask_of, place_in, AreErrorsOf}
use Rattle.cluster_world.specs.declared.event.Event.{Event}
use Rattle.cluster_world.specs.declared.event.Event.TheVariants.{Client, Look, Admin}
use Rattle.cluster_world.proofs.Viewing.{length_kept}
use Rattle.cluster_world.proofs.Keeping.{after-length}
use Rattle.cluster_world.proofs.Searching.{answers_at, searches_on, imports_dated}

-- what is kept: the search so far, one row for each node, and the errors so far
pub record SoFar (port : ℕ) (o : Owners) (events : List Event) (i : ℕ) (rows : List Places) (errors : Errors) : Type 0 where
  pub searched : IsSearched (new_world port o.nodes o.owners) (take i events) (since_in rows)
  pub count : length rows ≡ o.nodes
  pub told : AreErrorsOf errors (past_of [] (take i events))
  pub places : ArePlacesOf rows (past_of [] (take i events))

-- ---- at first

blank_nodes : (k : ℕ) (owners : List ℕ) (n : ℕ) → (get_or (replicate k (new_node owners)) n blank).importing ≡ finite.empty
blank_nodes k owners n = elim (cases_lt n k) [
  | inl h ↦ ap (λ (x : Node). x.importing) (get_or-replicate k n (new_node owners) blank h)
  | inr h ↦ ap (λ (x : Node). x.importing) (get_or_past _ n blank (subst (λ l. l ≤ n) (sym (length-replicate k (new_node owners))) h))
]

none_at : (o : Option ℕ) (place : ℕ) {A : Type 0} → o ≡ None → o ≡ Some place → A
none_at o place e p = absurd (true≢false (sym (ap is_some p) ∙ ap is_some e))

pub begun : (port : ℕ) (o : Owners) (events : List Event) (rows : List Places) (errors : Errors)
    → length rows ≡ o.nodes → ((n s : ℕ) → since_in rows n s ≡ None) → errors ≡ [] → SoFar port o events 0 rows errors
begun port o events rows errors count unmarked none = record {
  searched = searches_on.begins (new_world port o.nodes o.owners) (since_in rows)
      (λ n s. ap is_none (unmarked n s) ∙ ap is_none (sym (ap (λ (m : Marks). finite.get m s) (blank_nodes o.nodes o.owners n) ∙ get-empty nat_cmp s)));
  count = count;
  told = subst (λ es. AreErrorsOf es []) (sym none) (λ text ks. refl);
  places = λ n s place p. none_at _ place (unmarked n s) p;
}

-- ---- the events so far, the newest first

past_more : (es : List Event) (e : Event) (past : List Event) → past_of past (es ++ e ∷ []) ≡ e ∷ past_of past es
past_more [] e past = refl
past_more (x ∷ es) e past = past_more es e (x ∷ past)

length_past : (es past : List Event) → length (past_of past es) ≡ length es + length past
length_past [] past = sym (zero-add (length past))
length_past (x ∷ es) past = length_past es (x ∷ past) ∙ one (length es) (length past)
  where
    one : (a b : ℕ) → a + suc b ≡ suc a + b
    one a b = omega arith

-- ---- what is kept of them

one_error_more : (old new : Errors) (past : List Event) (i : ℕ) (e : Event) → i ≡ length past → AreErrorsOf old past
    → ((text : List ℕ) (ks : List Key) → place_in new text ks ≡ cond (is_ask_of text ks e) (Some i) (place_in old text ks))
    → AreErrorsOf new (e ∷ past)
one_error_more old new past i e at told noted text ks =
    noted text ks
    ∙ ap (λ j. cond (is_ask_of text ks e) (Some j) (place_in old text ks)) at
    ∙ ap (cond (is_ask_of text ks e) (Some (length past))) (told text ks)

-- a place that is set where a test holds is that of the event, and any other stands
module _ (past : List Event) (i place : ℕ) (old last : Option ℕ) (at : i ≡ length past) (kept : old ≡ Some place → last ≡ Some place) where
  set_here : (b : Bool) → cond b (Some i) old ≡ Some place → cond b (Some (length past)) last ≡ Some place
  set_here true p = ap (λ j. Some j) (sym at) ∙ p
  set_here false p = kept p

  gone_here : (b : Bool) → cond b None old ≡ Some place → last ≡ Some place
  gone_here true p = none_at None place refl p
  gone_here false p = kept p

place_kept : (rows : List Places) (past : List Event) (i : ℕ) (e : Event) → i ≡ length past → ArePlacesOf rows past
    → (n s place : ℕ) → imports (since_in rows) (dated i e) n s ≡ Some place → last_import s n (e ∷ past) ≡ Some place
place_kept rows past i (Admin x (Importing u m) reply.Ok) at kept n s place p =
    set_here past i place (since_in rows n s) (last_import s n past) at (kept n s place) (eqb n x && eqb s u) p
place_kept rows past i (Admin x (SetNode u m) reply.Ok) at kept n s place p =
    gone_here past i place (since_in rows n s) (last_import s n past) at (kept n s place) (eqb n x && eqb s u && eqb m x) p
place_kept rows past i (Admin x (Stable u) reply.Ok) at kept n s place p =
    gone_here past i place (since_in rows n s) (last_import s n past) at (kept n s place) (eqb n x && eqb s u) p
place_kept rows past i e at kept n s place p = kept n s place p

-- ---- one event

split : (events : List Event) (i : ℕ) (e : Event) → i < length events → e ≡ get_or events i e → events ≡ take i events ++ e ∷ drop (suc i) events
split events i e h is = sym (take-append-drop i events) ∙ ap (λ l. take i events ++ l) (drop-cons events i e h ∙ ap (λ x. x ∷ drop (suc i) events) (sym is))

one_more : (events : List Event) (i : ℕ) (e : Event) → i < length events → e ≡ get_or events i e → take i events ++ e ∷ [] ≡ take (i + 1) events
one_more events i e h is = ap (λ x. take i events ++ x ∷ []) is ∙ sym (take-suc events i e h) ∙ ap (λ j. take j events) (plus i)
  where
    plus : (j : ℕ) → suc j ≡ j + 1
    plus j = omega arith

after_length : (w : World) (e : Event) → length (after w e).nodes ≡ length w.nodes
after_length w (Client seat n asking c r) = length_kept w n _
after_length w (Look seat n r) = refl
after_length w (Admin n c r) = after-length w n c

world_length : (es : List Event) (w : World) → length (world_after w es).nodes ≡ length w.nodes
world_length [] w = refl
world_length (e ∷ es) w = world_length es (after w e) ∙ after_length w e

node_there : (w : World) (e : Event) → Answers w e → node_of (action_of e) < length w.nodes
node_there w (Client seat n asking c r) a = a.0
node_there w (Look seat n r) a = a.0
node_there w (Admin n c r) a = a.0

module _ (port : ℕ) (o : Owners) (events : List Event) (last : World) (run : Run (new_world port o.nodes o.owners) events last) (i : ℕ) (rows : List Places) (errors : Errors) (e : Event) (h : i < length events) (is : e ≡ get_or events i e) (far : SoFar port o events i rows errors) where
  run_split : Run (new_world port o.nodes o.owners) (take i events ++ e ∷ drop (suc i) events) last
  run_split = subst (λ es. Run (new_world port o.nodes o.owners) es last) (split events i e h is) run

  pub is_there : node_of (action_of e) < length rows
  is_there = subst (λ l. node_of (action_of e) < l) (world_length (take i events) (new_world port o.nodes o.owners) ∙ length-replicate o.nodes (new_node o.owners) ∙ sym far.count)
      (node_there (world_after (new_world port o.nodes o.owners) (take i events)) e (answers_at (take i events) e (drop (suc i) events) (new_world port o.nodes o.owners) last run_split))

  -- its place
  short : length (take i events) ≡ i
  short = omega (arith, length-take i events)

  before : List Event
  before = past_of [] (take i events)

  at : i ≡ length before
  unfolding before
  at = sym (length_past (take i events) [] ∙ add-zero (length (take i events)) ∙ short)

  pub stops : is_earned port (since_in rows) (past_of [] (take i events)) e ≡ false → IsDishonestAt (new_world port o.nodes o.owners) events i
  stops f = subst₂ (λ es j. IsDishonestAt (new_world port o.nodes o.owners) es j) (sym (split events i e h is)) short
      (searches_on.finds (new_world port o.nodes o.owners) last (take i events) e (drop (suc i) events) (since_in rows) run_split far.searched f)

  pub goes : (rows' : List Places) (errors' : Errors) → is_earned port (since_in rows) (past_of [] (take i events)) e ≡ true
      → ((n s : ℕ) → since_in rows' n s ≡ imports (since_in rows) (dated i e) n s) → length rows' ≡ length rows
      → ((text : List ℕ) (ks : List Key) → place_in errors' text ks ≡ cond (is_ask_of text ks e) (Some i) (place_in errors text ks))
      → SoFar port o events (i + 1) rows' errors'
  unfolding before
  goes rows' errors' f marks same noted =
      let next : IsSearched (new_world port o.nodes o.owners) (take i events ++ e ∷ []) (since_in rows') =
      searches_on.goes_on (new_world port o.nodes o.owners) last (take i events) e (drop (suc i) events) (since_in rows) (since_in rows') run_split far.searched f
      (λ n s. ap is_none (marks n s) ∙ imports_dated i (since_in rows) (since_in rows) e (λ m t. refl) n s) in
      let past : e ∷ before ≡ past_of [] (take (i + 1) events) = sym (past_more (take i events) e []) ∙ ap (past_of []) (one_more events i e h is) in
      record {
        searched = subst (λ es. IsSearched (new_world port o.nodes o.owners) es (since_in rows')) (one_more events i e h is) next;
        count = same ∙ far.count;
        told = subst (AreErrorsOf errors') past (one_error_more errors errors' before i e at far.told noted);
        places = subst (ArePlacesOf rows') past (λ n s place p. place_kept rows before i e at far.places n s place (sym (marks n s) ∙ p));
      }

-- ---- at the end

pub all_honest : (port : ℕ) (o : Owners) (events : List Event) (i : ℕ) (rows : List Places) (errors : Errors) → length events ≤ i
    → SoFar port o events i rows errors → Honest (new_world port o.nodes o.owners) [] events
all_honest port o events i rows errors h far = subst (Honest (new_world port o.nodes o.owners) []) (take_all i events h) far.searched.honest
