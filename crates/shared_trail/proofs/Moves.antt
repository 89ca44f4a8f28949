-- A MIGRATE between two nodes is that MIGRATE in every world in which they stand.
use Rattle.std.proofs.Common.{◌≡◌, ◌≢◌, ℕ, ◌<◌, true, false, nat_lt, ◌==◌, List, [], length, Option, None, Some, Result, Ok, Err, IfOk, OnOk, refl, sym, ap, ◌∙◌, subst, arith}
use Rattle.std.proofs.lemmas.Bool.{ne_eqb}
use Rattle.std.proofs.lemmas.Bool.Decides.{nat_tests}
use Rattle.std.specs.List.{All}
use Rattle.key_slots.specs.HashSlot.{slot_of}
use Rattle.store_commands.specs.Store.{Key}
use Rattle.store_commands.specs.Effects.{without}
use Rattle.slot_keyspace.specs.Batches.{batch_of, with_entries}
use Rattle.slot_marks.specs.Verdicts.{first_slot}
use Rattle.cluster_node.specs.Nodes.{Node}
use Rattle.cluster_node.specs.Exporting.{IsFrameOf}
use Rattle.cluster_admin.specs.Commands.{IsListing}
use Rattle.cluster_node.specs.Admitting.{IsTold, admit_fault, frame_entries}
use Rattle.cluster_node.specs.declared.admitting.AdmitFault.{AdmitFault}
use Rattle.cluster_node.specs.declared.admitting.AdmitFault.TheVariants as admitting
use Rattle.cluster_admin.specs.declared.admin.AdminCommand.TheVariants.{Migrate}
use Rattle.cluster_admin.specs.declared.admin.AdminFault.{AdminFault}
use Rattle.cluster_admin.specs.declared.admin.AdminReply.{AdminReply}
use Rattle.cluster_admin.specs.declared.admin.AdminReply.TheVariants as reply
use Rattle.cluster_world.specs.Worlds.{World, node_at, change_node}
use Rattle.cluster_world.specs.declared.event.Event.TheVariants.{Admin}
use Rattle.cluster_world.proofs.Setting.{change-same}
use Rattle.cluster_world.proofs.Viewing.{node_other}
use Rattle.cluster_node.specs.Admitting.{told_as}
use Rattle.cluster_world.proofs.Moving.{Sent, nothing, refused_by_target, moved_to_target, framed, never_bad, all_of_slot}
use Rattle.shared_trail.specs.Local.{IsOf, IsShared}

-- what the two nodes are, and the keys that go from a to b
pub record Between (a b : ℕ) (x y : Node) (ks : List Key) : Type 0 where
  pub apart : a ≢ b
  pub one_slot : All (λ k. slot_of k ≡ first_slot ks) ks

module _ (port count a b : ℕ) (x y : Node) (ks : List Key) (between : Between a b x y ks) where
  known : (w : World) → IsOf port count w → b < count → nat_lt b (length w.nodes) ≡ true
  known w of low = let same = of.count_is in grind (arith, nat_tests)

  differ : (b == a) ≡ false
  differ = ne_eqb b a (λ e. between.apart (sym e))

  -- nothing changes
  stays : (w : World) → a < length w.nodes → b < length w.nodes → node_at w a ≡ x → node_at w b ≡ y → w ≡ change_node (change_node w b y) a x
  stays w la lb at bt =
      sym ((λ i. change_node (change_node w b (sym bt i)) a (sym at i)) ∙ ap (λ v. change_node v a (node_at w a)) (change-same w b lb) ∙ change-same w a la)

  -- the source has none of the keys
  pub none_moved : batch_of x.held ks ≡ [] → IsShared port count a b x y (Admin a (Migrate ks b) reply.NoKey) x y
  none_moved none w of la lb at bt =
      let la' = subst (λ m. a < m) (sym of.count_is) la in
      let lb' = subst (λ m. b < m) (sym of.count_is) lb in
      let r = nothing w a ks b la' lb' (known w of lb) differ (ap (λ (z : Node). batch_of z.held ks) at ∙ none) in
      ((la', r.reply_is), sym r.world_is ∙ stays w la' lb' at bt)

  -- a frame of the keys that are there
  sent : (w : World) (s : ℕ) (bytes : List ℕ) → IsOf port count w → b < count → node_at w a ≡ x → IsFrameOf (batch_of x.held ks) bytes → s ≡ first_slot ks → Sent w a ks b s bytes
  sent w s bytes of lb at frame slot = record {
    known = known w of lb;
    apart = differ;
    frame_is = subst (λ (z : Node). IsFrameOf (batch_of z.held ks) bytes) (sym at) frame;
    slot = slot;
    one_slot = between.one_slot;
  }

  -- the target refuses it
  pub refused_moved : (f : AdmitFault) (s : ℕ) (bytes : List ℕ) → IsFrameOf (batch_of x.held ks) bytes → s ≡ first_slot ks → admit_fault y s bytes ≡ Some f
      → IsShared port count a b x y (Admin a (Migrate ks b) (reply.Refused (told_as f))) x y
  refused_moved f s bytes frame slot told w of la lb at bt =
      let la' = subst (λ m. a < m) (sym of.count_is) la in
      let lb' = subst (λ m. b < m) (sym of.count_is) lb in
      let r = refused_by_target w a ks b f s bytes (sent w s bytes of lb at frame slot) (ap (λ z. admit_fault z s bytes) bt ∙ told) in
      ((la', r.reply_is), sym r.world_is ∙ stays w la' lb' at bt)

  -- what the target tells of a frame is its refusal, but for out of memory
  told_is : (o : Option AdmitFault) (f : AdmitFault) → IsTold o f → f ≢ admitting.Memory → o ≡ Some f
  told_is o admitting.Memory told ne = absurd (ne refl)
  told_is o admitting.Busy told ne = told
  told_is o admitting.NotImporting told ne = told
  told_is o admitting.BadFrame told ne = told

  -- what is answered where the target did not take the frame
  pub refused_reply : {E : Type 0} (f : AdmitFault) (s : ℕ) (bytes : List ℕ) (y' : Node) (result : Result AdminReply E) → IsFrameOf (batch_of x.held ks) bytes → s ≡ first_slot ks
      → IsTold (admit_fault y s bytes) f → y' ≡ y → IfOk result (λ r. r ≡ reply.Refused (told_as f)) → OnOk result (f ≢ admitting.Memory)
      → IfOk result (λ r. IsShared port count a b x y (Admin a (Migrate ks b) r) x y')
  refused_reply f s bytes y' (Ok r) frame slot told same is ne =
      subst (λ (p : AdminReply × Node). IsShared port count a b x y (Admin a (Migrate ks b) p.0) x p.1) (λ i. (sym is i, sym same i)) (refused_moved f s bytes frame slot (told_is _ f told ne))
  refused_reply f s bytes y' (Err e) frame slot told same is ne = tt

  -- all of them move
  pub all_moved : (s : ℕ) (bytes : List ℕ) (x' y' : Node) → IsFrameOf (batch_of x.held ks) bytes → s ≡ first_slot ks → admit_fault y s bytes ≡ None
      → x' ≡ record x { held = without x.held ks } → y' ≡ record y { held = with_entries y.held (frame_entries bytes) }
      → IsShared port count a b x y (Admin a (Migrate ks b) reply.Ok) x' y'
  all_moved s bytes x' y' frame slot told goes comes w of la lb at bt =
      let la' = subst (λ m. a < m) (sym of.count_is) la in
      let mid : World = change_node w b (record (node_at w b) { held = with_entries (node_at w b).held (frame_entries bytes) }) in
      let next : World = change_node mid a (record (node_at mid a) { held = without (node_at mid a).held ks }) in
      let r = moved_to_target w a ks b s bytes mid next (sent w s bytes of lb at frame slot) between.apart (ap (λ z. admit_fault z s bytes) bt ∙ told) refl refl in
      let there : node_at mid a ≡ x = node_other w b _ a between.apart ∙ at in
      let is : next ≡ change_node (change_node w b y') a x' =
      (λ i. change_node mid a (record (there i) { held = without (there i).held ks }))
      ∙ (λ i. change_node (change_node w b (record (bt i) { held = with_entries (bt i).held (frame_entries bytes) })) a (sym goes i))
      ∙ ap (λ z. change_node (change_node w b z) a x') (sym comes) in
      ((la', r.reply_is), sym r.world_is ∙ is)

  -- the target reads the frame, and each key of it is of the slot
  pub no_bad_frame : (s : ℕ) (bytes : List ℕ) → IsFrameOf (batch_of x.held ks) bytes → s ≡ first_slot ks → admit_fault y s bytes ≡ Some admitting.BadFrame → ⊥
  no_bad_frame s bytes frame slot told =
      never_bad _ _ (sym (framed y (first_slot ks) bytes (batch_of x.held ks) frame.read (all_of_slot x.held ks (first_slot ks) between.one_slot)) ∙ ap (λ z. admit_fault y z bytes) (sym slot) ∙ told)

-- a refusal is no listing
pub refused_brief : {E : Type 0} (f : AdminFault) (result : Result AdminReply E) → IfOk result (λ r. r ≡ reply.Refused f) → IfOk result (λ r. IsListing r → ⊥)
refused_brief f (Ok r) is = subst (λ q. IsListing q → ⊥) (sym is) (λ u. u)
refused_brief f (Err e) is = tt
