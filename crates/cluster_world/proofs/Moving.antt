-- A MIGRATE at the world: the refusals as its target tells them, and what becomes of the two nodes.
use Rattle.std.proofs.Common.{◌≡◌, ◌≢◌, ℕ, ◌<◌, Bool, true, false, cond, not, ◌&&◌, ◌||◌, ◌==◌, nat_lt, List, [], ◌∷◌, length, Option, Some, None, is_some, is_none, option_map, Result, Ok, Err, IfOk, OnOk, refl, sym, ap, subst, ◌∙◌, arith}
use Rattle.std.proofs.lemmas.Bool.{true≢false, or_parts, eq-eqb}
use Rattle.std.proofs.lemmas.List.Elements.{All-head, All-tail}
use Rattle.std.specs.List.{All, list_any}
use Rattle.std.specs.FinMap.{get, remove}
use Rattle.key_slots.specs.HashSlot.{slot_of}
use Rattle.typed_values.specs.declared.value.Value.{Value}
use Rattle.migrate_frames.specs.Reading.{frame_at}
use Rattle.store_commands.specs.Store.{Key, Store, write}
use Rattle.store_commands.specs.Effects.{without}
use Rattle.slot_keyspace.specs.Batches.{Entry, found_with, batch_of, with_entries}
use Rattle.slot_keyspace.proofs.Batches.{batch_of-more, batch_of-nil}
use Rattle.slot_keyspace.proofs.Standing.{with_entries-nil}
use Rattle.slot_keyspace.proofs.Writes.{write-same}
use Rattle.slot_marks.specs.Verdicts.{first_slot}
use Rattle.byte_texts.specs.Outcomes.{first_refusal}
use Rattle.cluster_node.specs.Nodes.{Node, is_present}
use Rattle.cluster_node.specs.Admitting.{admit_fault, are_of_slot, frame_entries, entries_in, holds_any, is_batch_of_slot, is_frame_of_slot, told_as, IsTold}
use Rattle.cluster_node.specs.Exporting.{IsFrameOf}
use Rattle.cluster_node.specs.Administration.{node_if_accepted, target_if_accepted, reply_if_accepted, reply_or}
use Rattle.cluster_node.specs.declared.admitting.AdmitFault.{AdmitFault}
use Rattle.cluster_node.specs.declared.admitting.AdmitFault.TheVariants as admitting
use Rattle.cluster_admin.specs.declared.admin.AdminFault.{AdminFault}
use Rattle.cluster_admin.specs.declared.admin.AdminFault.TheVariants as fault
use Rattle.cluster_admin.specs.declared.admin.AdminCommand.TheVariants.{Migrate}
use Rattle.cluster_admin.specs.declared.admin.AdminReply.{AdminReply}
use Rattle.cluster_admin.specs.declared.admin.AdminReply.TheVariants as reply
use Rattle.cluster_world.specs.Worlds.{World, node_at, importing, change_node}
use Rattle.cluster_world.specs.Commanding.{moving_fault, admin_fault, effect, admin_reply, admin_after, makes_frame}
use Rattle.cluster_world.proofs.Setting.{change-same}
use Rattle.cluster_world.proofs.Viewing.{node_other}

-- ---- batches

abbrev stands : Store → Key → Bool
stands s k = is_some (get s k)

-- a batch is empty where none of the keys stands
pub none_stands : (s : Store) (ks : List Key) → batch_of s ks ≡ [] → list_any (stands s) ks ≡ false
none_stands s [] e = refl
none_stands s (k ∷ ks) e = by (get s k) (none_stands s ks) (sym (batch_of-more s k ks) ∙ e)
  where
    by : (o : Option Value) → (batch_of s ks ≡ [] → list_any (stands s) ks ≡ false) → found_with k o (batch_of s ks) ≡ [] → (is_some o || list_any (stands s) ks) ≡ false
    by None more u = more u
    by (Some v) more u = cc

pub some_stands : (s : Store) (ks : List Key) → 0 < length (batch_of s ks) → list_any (stands s) ks ≡ true
some_stands s [] h = absurd (omega (arith, ap length (batch_of-nil s)))
some_stands s (k ∷ ks) h = by (get s k) (some_stands s ks) (subst (λ es. 0 < length es) (batch_of-more s k ks) h)
  where
    by : (o : Option Value) → (0 < length (batch_of s ks) → list_any (stands s) ks ≡ true) → 0 < length (found_with k o (batch_of s ks)) → (is_some o || list_any (stands s) ks) ≡ true
    by None more u = more u
    by (Some v) more u = refl

-- the target holds a key of the batch where both nodes hold one of the keys
pub holds-batch : (x : Node) (s : Store) (ks : List Key) → holds_any x (batch_of s ks) ≡ list_any (λ k. stands s k && is_present x k) ks
holds-batch x s [] = ap (holds_any x) (batch_of-nil s)
holds-batch x s (k ∷ ks) = ap (holds_any x) (batch_of-more s k ks) ∙ by (get s k) (holds-batch x s ks)
  where
    by : (o : Option Value) → holds_any x (batch_of s ks) ≡ list_any (λ q. stands s q && is_present x q) ks
        → holds_any x (found_with k o (batch_of s ks)) ≡ ((is_some o && is_present x k) || list_any (λ q. stands s q && is_present x q) ks)
    by None more = more
    by (Some v) more = ap (λ b. is_present x k || b) more

absent : (s : Store) (k : Key) → stands s k ≡ false → remove s k ≡ s
absent s k e = by (get s k) refl e
  where
    by : (o : Option Value) → get s k ≡ o → is_some o ≡ false → remove s k ≡ s
    by None i u = subst (λ o. write s k o ≡ s) i (write-same s k)
    by (Some v) i u = absurd (true≢false u)

-- to take out what is not there changes nothing
pub without-absent : (s : Store) (ks : List Key) → list_any (stands s) ks ≡ false → without s ks ≡ s
without-absent s [] e = refl
without-absent s (k ∷ ks) e =
    let p = or_parts (stands s k) (list_any (stands s) ks) e in
    ap (λ t. without t ks) (absent s k p.0) ∙ without-absent s ks p.1

-- ---- what a frame brings

one_of_slot : (k : Key) (o : Option Value) (es : List Entry) (slot : ℕ) → slot_of k ≡ slot → are_of_slot slot es ≡ true → are_of_slot slot (found_with k o es) ≡ true
one_of_slot k None es slot h more = more
one_of_slot k (Some v) es slot h more = λ i. eq-eqb (slot_of k) slot h i && more i

pub all_of_slot : (s : Store) (ks : List Key) (slot : ℕ) → All (λ k. slot_of k ≡ slot) ks → are_of_slot slot (batch_of s ks) ≡ true
all_of_slot s [] slot h = ap (are_of_slot slot) (batch_of-nil s)
all_of_slot s (k ∷ ks) slot h = ap (are_of_slot slot) (batch_of-more s k ks) ∙ one_of_slot k (get s k) (batch_of s ks) slot (All-head (λ q. slot_of q ≡ slot) k ks h) (all_of_slot s ks slot (All-tail (λ q. slot_of q ≡ slot) k ks h))

-- the target's refusal of a batch of its slot's keys
abbrev pub batch_fault : Node → ℕ → List Entry → Option AdmitFault
batch_fault x s es = first_refusal ((is_none (get x.importing s), admitting.NotImporting) ∷ (holds_any x es, admitting.Busy) ∷ [])

-- a frame is refused as the batch that was written in it
pub framed : (x : Node) (s : ℕ) (bytes : List ℕ) (es : List Entry) → frame_at bytes ≡ Ok es → are_of_slot s es ≡ true → admit_fault x s bytes ≡ batch_fault x s es
framed x s bytes es read of_slot =
    let good : is_frame_of_slot s bytes ≡ true = ap (is_batch_of_slot s) read ∙ of_slot in
    let come : frame_entries bytes ≡ es = ap entries_in read in
    λ i. first_refusal ((is_none (get x.importing s), admitting.NotImporting) ∷ (not (good i), admitting.BadFrame) ∷ (holds_any x (come i), admitting.Busy) ∷ [])

pub never_bad : (fresh busy : Bool) → first_refusal ((fresh, admitting.NotImporting) ∷ (busy, admitting.Busy) ∷ []) ≡ Some admitting.BadFrame → ⊥
never_bad true busy e = cc
never_bad false true e = cc
never_bad false false e = cc

-- ---- refusals

abbrev rows : (known same some fresh busy : Bool) → Option AdminFault
rows known same some fresh busy = first_refusal ((not known, fault.UnknownNode) ∷ (same, fault.SameNode) ∷ (some && fresh, fault.NotImporting) ∷ (busy, fault.Busy) ∷ [])

by_target : (fresh busy : Bool) → rows true false true fresh busy ≡ option_map told_as (first_refusal ((fresh, admitting.NotImporting) ∷ (busy, admitting.Busy) ∷ []))
by_target true busy = refl
by_target false true = refl
by_target false false = refl

module _ (w : World) (r : ℕ) (ks : List Key) (m : ℕ) where
  x : Node
  x = node_at w r

  pub unknown-fault : nat_lt m (length w.nodes) ≡ false → moving_fault w r ks m ≡ Some fault.UnknownNode
  unknown-fault unknown = ap (λ b. rows b (m == r) (list_any (is_present (node_at w r)) ks) (is_none (importing w m (first_slot ks))) (list_any (λ k. is_present (node_at w r) k && is_present (node_at w m) k) ks)) unknown

  pub same-fault : nat_lt m (length w.nodes) ≡ true → (m == r) ≡ true → moving_fault w r ks m ≡ Some fault.SameNode
  same-fault known same = λ i. rows (known i) (same i) (list_any (is_present (node_at w r)) ks) (is_none (importing w m (first_slot ks))) (list_any (λ k. is_present (node_at w r) k && is_present (node_at w m) k) ks)

  -- where some key is there, the target decides
  pub target-fault : nat_lt m (length w.nodes) ≡ true → (m == r) ≡ false → 0 < length (batch_of (node_at w r).held ks)
      → moving_fault w r ks m ≡ option_map told_as (batch_fault (node_at w m) (first_slot ks) (batch_of (node_at w r).held ks))
  target-fault known apart some =
      let here : list_any (is_present (node_at w r)) ks ≡ true = some_stands (node_at w r).held ks some in
      (λ i. rows (known i) (apart i) (here i) (is_none (importing w m (first_slot ks))) (sym (holds-batch (node_at w m) (node_at w r).held ks) i))
      ∙ by_target (is_none (importing w m (first_slot ks))) (holds_any (node_at w m) (batch_of (node_at w r).held ks))

  -- where none is, there is no refusal
  pub no_key-fault : nat_lt m (length w.nodes) ≡ true → (m == r) ≡ false → batch_of (node_at w r).held ks ≡ [] → moving_fault w r ks m ≡ None
  no_key-fault known apart none =
      let here : list_any (is_present (node_at w r)) ks ≡ false = none_stands (node_at w r).held ks none in
      let shared = sym (holds-batch (node_at w m) (node_at w r).held ks) ∙ ap (holds_any (node_at w m)) none in
      λ i. rows (known i) (apart i) (here i) (is_none (importing w m (first_slot ks))) (shared i)

  -- ---- the reply and the world

  -- the reply, and the world after it
  pub record Answered (reply : AdminReply) (next : World) : Type 0 where
    pub reply_is : reply ≡ admin_reply w r (Migrate ks m)
    pub world_is : next ≡ admin_after w r (Migrate ks m)

  pub refused : (f : AdminFault) → moving_fault w r ks m ≡ Some f → Answered (reply.Refused f) w
  unfolding admin_fault admin_reply admin_after
  refused f e = record {
    reply_is = sym (ap (λ o. reply_or o (reply_if_accepted (node_at w r) (Migrate ks m))) e);
    world_is = sym (ap (λ o. cond (is_some o) w (effect w r (Migrate ks m))) e);
  }

  granted-by : (b : Bool) → list_any (is_present (node_at w r)) ks ≡ b → reply_if_accepted (node_at w r) (Migrate ks m) ≡ cond b reply.Ok reply.NoKey
  unfolding reply_if_accepted
  granted-by b e = ap (λ b. cond b reply.Ok reply.NoKey) e

  done : (b : Bool) (next : World) → moving_fault w r ks m ≡ None → list_any (is_present (node_at w r)) ks ≡ b → next ≡ effect w r (Migrate ks m) → Answered (cond b reply.Ok reply.NoKey) next
  unfolding admin_fault admin_reply admin_after
  done b next none some is = record {
    reply_is = sym (ap (λ o. reply_or o (reply_if_accepted (node_at w r) (Migrate ks m))) none ∙ granted-by b some);
    world_is = is ∙ sym (ap (λ o. cond (is_some o) w (effect w r (Migrate ks m))) none);
  }

  -- none of the keys is there, and nothing moves
  effect-none : r < length w.nodes → m < length w.nodes → batch_of (node_at w r).held ks ≡ [] → w ≡ effect w r (Migrate ks m)
  unfolding effect node_if_accepted target_if_accepted
  effect-none there known none =
      let y : Node = node_at w m in
      let comes : with_entries y.held (batch_of (node_at w r).held ks) ≡ y.held = ap (with_entries y.held) none ∙ with_entries-nil y.held in
      let goes : without (node_at w r).held ks ≡ (node_at w r).held = without-absent (node_at w r).held ks (none_stands (node_at w r).held ks none) in
      sym ((λ i. change_node (change_node w m (record (node_at w m) { held = comes i })) r (record (node_at w r) { held = goes i }))
      ∙ ap (λ v. change_node v r (node_at w r)) (change-same w m known) ∙ change-same w r there)

  pub nothing : r < length w.nodes → m < length w.nodes → nat_lt m (length w.nodes) ≡ true → (m == r) ≡ false → batch_of (node_at w r).held ks ≡ [] → Answered reply.NoKey w
  nothing there below known apart none = done false w (no_key-fault known apart none) (none_stands (node_at w r).held ks none) (effect-none there below none)

  -- all of them move
  pub moved : (mid next : World) → nat_lt m (length w.nodes) ≡ true → (m == r) ≡ false → r ≢ m → 0 < length (batch_of (node_at w r).held ks)
      → batch_fault (node_at w m) (first_slot ks) (batch_of (node_at w r).held ks) ≡ None
      → mid ≡ change_node w m (record (node_at w m) { held = with_entries (node_at w m).held (batch_of (node_at w r).held ks) })
      → next ≡ change_node mid r (record (node_at mid r) { held = without (node_at mid r).held ks }) → Answered reply.Ok next
  unfolding effect node_if_accepted target_if_accepted
  moved mid next known apart other some none comes goes =
      done true next (target-fault known apart some ∙ ap (option_map told_as) none) (some_stands (node_at w r).held ks some)
      (goes ∙ ap (λ v. change_node v r (record (node_at v r) { held = without (node_at v r).held ks })) comes
      ∙ ap (λ z. change_node (change_node w m (record (node_at w m) { held = with_entries (node_at w m).held (batch_of (node_at w r).held ks) })) r (record z { held = without z.held ks })) (node_other w m _ r other))

  -- ---- as the target answers the frame

  -- a frame of the keys that are there, at the target
  pub record Sent (s : ℕ) (bytes : List ℕ) : Type 0 where
    pub known : nat_lt m (length w.nodes) ≡ true
    pub apart : (m == r) ≡ false
    pub frame_is : IsFrameOf (batch_of (node_at w r).held ks) bytes
    pub slot : s ≡ first_slot ks
    pub one_slot : All (λ k. slot_of k ≡ first_slot ks) ks

  seen_as : (s : ℕ) (bytes : List ℕ) → Sent s bytes → admit_fault (node_at w m) s bytes ≡ batch_fault (node_at w m) (first_slot ks) (batch_of (node_at w r).held ks)
  seen_as s bytes sent =
      ap (λ n. admit_fault (node_at w m) n bytes) sent.slot
      ∙ framed (node_at w m) (first_slot ks) bytes (batch_of (node_at w r).held ks) sent.frame_is.read (all_of_slot (node_at w r).held ks (first_slot ks) sent.one_slot)

  pub refused_by_target : (f : AdmitFault) (s : ℕ) (bytes : List ℕ) → Sent s bytes → admit_fault (node_at w m) s bytes ≡ Some f → Answered (reply.Refused (told_as f)) w
  refused_by_target f s bytes sent by = refused (told_as f) (target-fault sent.known sent.apart sent.frame_is.some ∙ ap (option_map told_as) (sym (seen_as s bytes sent) ∙ by))

  -- what the target tells of a frame is its refusal, but for out of memory
  told_is : (o : Option AdmitFault) (f : AdmitFault) → IsTold o f → f ≢ admitting.Memory → o ≡ Some f
  told_is o admitting.Memory told ne = absurd (ne refl)
  told_is o admitting.Busy told ne = told
  told_is o admitting.NotImporting told ne = told
  told_is o admitting.BadFrame told ne = told

  pub told_by_target : {E : Type 0} (f : AdmitFault) (s : ℕ) (bytes : List ℕ) (next : World) (result : Result AdminReply E) → Sent s bytes → IsTold (admit_fault (node_at w m) s bytes) f → next ≡ w
      → IfOk result (λ x. x ≡ reply.Refused (told_as f)) → OnOk result (f ≢ admitting.Memory)
      → IfOk result (λ x. x ≡ admin_reply w r (Migrate ks m)) × OnOk result (next ≡ admin_after w r (Migrate ks m))
  told_by_target f s bytes next (Ok x) sent told same is ne =
      let a = refused_by_target f s bytes sent (told_is _ f told ne) in
      (is ∙ a.reply_is, same ∙ a.world_is)
  told_by_target f s bytes next (Err e) sent told same is ne = (tt, tt)

  -- a frame is made where some key is there
  pub frame_made : nat_lt m (length w.nodes) ≡ true → (m == r) ≡ false → 0 < length (batch_of (node_at w r).held ks) → makes_frame w r ks m ≡ true
  frame_made known apart some =
      let here : list_any (is_present (node_at w r)) ks ≡ true = some_stands (node_at w r).held ks some in
      λ i. known i && not (apart i) && here i

  pub frame_sent : (s : ℕ) (bytes : List ℕ) → Sent s bytes → makes_frame w r ks m ≡ true
  frame_sent s bytes sent = frame_made sent.known sent.apart sent.frame_is.some

  pub is_no_bad_frame : (s : ℕ) (bytes : List ℕ) → Sent s bytes → admit_fault (node_at w m) s bytes ≡ Some admitting.BadFrame → ⊥
  is_no_bad_frame s bytes sent by =
      never_bad (is_none (importing w m (first_slot ks))) (holds_any (node_at w m) (batch_of (node_at w r).held ks)) (sym (seen_as s bytes sent) ∙ by)

  pub moved_to_target : (s : ℕ) (bytes : List ℕ) (mid next : World) → Sent s bytes → r ≢ m → admit_fault (node_at w m) s bytes ≡ None
      → mid ≡ change_node w m (record (node_at w m) { held = with_entries (node_at w m).held (frame_entries bytes) })
      → next ≡ change_node mid r (record (node_at mid r) { held = without (node_at mid r).held ks }) → Answered reply.Ok next
  moved_to_target s bytes mid next sent other by comes goes =
      moved mid next sent.known sent.apart other sent.frame_is.some (sym (seen_as s bytes sent) ∙ by)
      (comes ∙ ap (λ es. change_node w m (record (node_at w m) { held = with_entries (node_at w m).held es })) (ap entries_in sent.frame_is.read)) goes
