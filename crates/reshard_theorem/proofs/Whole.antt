-- Whole runs: the invariant from the first world to the last.
use Rattle.std.proofs.Common.{◌≡◌, ◌≢◌, ℕ, ◌<◌, ◌≤◌, true, false, List, [], ◌∷◌, length, Option, Some, None, is_some, sym, refl, ap, ◌∙◌, subst, subst₂, inl, inr}
use Rattle.std.proofs.lemmas.Bool.{cases_eq, ne_eqb, eq-eqb, cond-true, cond-false}
use Rattle.std.proofs.lemmas.List.{get_or_past}
use Rattle.std.specs.FinMap.{get, get-empty}
use Rattle.std.specs.Ordering.{nat_cmp}
use Rattle.store_commands.specs.Store.{Key, Store, order}
use Rattle.key_slots.specs.HashSlot.{slot_of}
use Rattle.cluster_world.specs.Worlds.{World, migrating, importing, held}
use Rattle.cluster_node.specs.Nodes.{blank}
use Rattle.cluster_world.specs.declared.event.Event.{Event}
use Rattle.cluster_admin.specs.declared.admin.AdminCommand.{AdminCommand}
use Rattle.cluster_admin.specs.declared.admin.AdminCommand.TheVariants as command
use Rattle.cluster_admin.specs.declared.admin.AdminReply.{AdminReply}
use Rattle.cluster_world.specs.Commanding.{admin_fault, effect, admin_after}
use Rattle.plan_language.specs.declared.plan_command.PlanCommand.{PlanCommand}
use Rattle.plan_language.specs.declared.plan_command.PlanCommand.TheVariants as planned
use Rattle.std.proofs.Common.{◌++◌, length}
use Rattle.cluster_admin.specs.Phases.{AreTwo, AreOthers, IsPhase, HasPhase, Phases}
use Rattle.cluster_admin.specs.Phases as phase
use Rattle.cluster_world.specs.Worlds.{owner}
use Rattle.plan_semantics.specs.Plans.{IsPart, Closes, last_told, first_owner, Leg, Move, Try, legs_of, tell}
use Rattle.plan_semantics.specs.Driving.{remaining, called, Spells}
use Rattle.reshard_theorem.proofs.Phases.{Phase, Closed, Importing, Migrating, Drained, TargetTold, SourceTold, own_in, goes_in, comes_in, may_hold, Rest, leg_end}
use Rattle.reshard_theorem.proofs.Base.{Inv}
use Rattle.reshard_theorem.proofs.Admins.{AdminGood, calm_good, batch_good, import_step, send_step, list_none_step, list_some_step, migrate_step, tell_step, stable_step}
use Rattle.reshard_theorem.proofs.Slotwise.{IsClean}
use Rattle.cluster_world.specs.Servers.{MayReply}
use Rattle.reshard_theorem.proofs.Servers.{listing_keys}

module _ (n : ℕ) (goal : ℕ → ℕ) where
  -- equal commands and rests
  moved_over : (w : World) (past : List Event) (store : Store) (reply : AdminReply) (r r' : ℕ) (c c' : AdminCommand) (rest rest' : List PlanCommand) (listed listed' : Option (List Key))
      → r ≡ r' → c ≡ c' → rest ≡ rest' → listed ≡ listed' → AdminGood n goal w past r' c' reply rest' listed' store → AdminGood n goal w past r c reply rest listed store
  moved_over w past store reply r r' c c' rest rest' listed listed' p q t u h =
      subst (λ a. AdminGood n goal w past a c reply rest listed store) (sym p)
      (subst (λ a. AdminGood n goal w past r' a reply rest listed store) (sym q)
      (subst (λ a. AdminGood n goal w past r' c' reply a listed store) (sym t)
      (subst (λ a. AdminGood n goal w past r' c' reply rest' a store) (sym u) h)))

  pub spelled : (w : World) (past : List Event) (store : Store) (plan : List PlanCommand) (listed : Option (List Key)) (r : ℕ) (c : AdminCommand) (reply : AdminReply) (rest : List PlanCommand) (listed' : Option (List Key))
      → Inv n goal w past plan listed store → MayReply w r c reply → Spells (remaining plan listed) (called r c reply) (remaining rest listed') → AdminGood n goal w past r c reply rest listed' store
  spelled w past store [] listed r c reply rest listed' inv e h = absurd h
  spelled w past store (planned.Importing s m at ∷ plan) None r c reply rest listed' inv e h = moved_over w past store reply r at c (command.Importing s m) rest plan listed' None h.0 h.1 h.2 h.3 (calm_good n goal w past (planned.Importing s m at ∷ plan) plan None None store at (command.Importing s m) reply s false inv (subst₂ (λ x y. MayReply w x y reply) h.0 h.1 e) (import_step n goal w plan s m at inv.base))
  spelled w past store (planned.Importing s m at ∷ plan) (Some ks) r c reply rest listed' inv e h = absurd h
  spelled w past store (planned.Migrating s m at ∷ plan) None r c reply rest listed' inv e h = moved_over w past store reply r at c (command.Migrating s m) rest plan listed' None h.0 h.1 h.2 h.3 (calm_good n goal w past (planned.Migrating s m at ∷ plan) plan None None store at (command.Migrating s m) reply s false inv (subst₂ (λ x y. MayReply w x y reply) h.0 h.1 e) (send_step n goal w plan s m at inv.base))
  spelled w past store (planned.Migrating s m at ∷ plan) (Some ks) r c reply rest listed' inv e h = absurd h
  spelled w past store (planned.SetNode s m at ∷ plan) None r c reply rest listed' inv e h = moved_over w past store reply r at c (command.SetNode s m) rest plan listed' None h.0 h.1 h.2 h.3 (calm_good n goal w past (planned.SetNode s m at ∷ plan) plan None None store at (command.SetNode s m) reply s false inv (subst₂ (λ x y. MayReply w x y reply) h.0 h.1 e) (tell_step n goal w plan s m at inv.base))
  spelled w past store (planned.SetNode s m at ∷ plan) (Some ks) r c reply rest listed' inv e h = absurd h
  spelled w past store (planned.Stable s at ∷ plan) None r c reply rest listed' inv e h = moved_over w past store reply r at c (command.Stable s) rest plan listed' None h.0 h.1 h.2 h.3 (calm_good n goal w past (planned.Stable s at ∷ plan) plan None None store at (command.Stable s) reply s false inv (subst₂ (λ x y. MayReply w x y reply) h.0 h.1 e) (stable_step n goal w plan s at inv.base))
  spelled w past store (planned.Stable s at ∷ plan) (Some ks) r c reply rest listed' inv e h = absurd h
  spelled w past store (planned.Drain s m t b ∷ plan) None r c reply rest listed' inv e h = elim h.2 [
    | inl u ↦ moved_over w past store reply r m c (command.KeysIn s b) rest plan listed' None h.0 h.1 u.1 u.2
        (calm_good n goal w past (planned.Drain s m t b ∷ plan) plan None None store m (command.KeysIn s b) reply s true inv (subst₂ (λ x y. MayReply w x y reply) h.0 h.1 e) (list_none_step n goal w plan s m t b inv.base (listing_keys w r m s b c reply [] h.0 h.1 e u.0)))
    | inr u ↦ moved_over w past store reply r m c (command.KeysIn s b) rest (planned.Drain s m t b ∷ plan) listed' (Some (u.0 ∷ u.1)) h.0 h.1 u.3 u.4
        (calm_good n goal w past (planned.Drain s m t b ∷ plan) (planned.Drain s m t b ∷ plan) None (Some (u.0 ∷ u.1)) store m (command.KeysIn s b) reply s false inv (subst₂ (λ x y. MayReply w x y reply) h.0 h.1 e) (list_some_step n goal w plan s m t b u.0 u.1 inv.base (listing_keys w r m s b c reply (u.0 ∷ u.1) h.0 h.1 e u.2)))
  ]
  spelled w past store (planned.Drain s m t b ∷ plan) (Some ks) r c reply rest listed' inv e h = moved_over w past store reply r m c (command.Migrate ks t) rest (planned.Drain s m t b ∷ plan) listed' None h.0 h.1 h.2 h.3 (batch_good n goal w past plan store reply s m t b ks inv (migrate_step n goal w plan s m t b ks inv.base))

  pub after_admin : (w : World) (r : ℕ) (c : AdminCommand) → admin_fault w r c ≡ None → admin_after w r c ≡ effect w r c
  unfolding admin_after
  after_admin w r c f = cond-false _ _ _ (ap is_some f)

-- ---- the first world and the last

pub held_past : (w : World) (m : ℕ) (k : Key) → length w.nodes ≤ m → held w m k ≡ None
held_past w m k h = ap (λ x. get x.held k) (get_or_past w.nodes m blank h) ∙ get-empty order k

pub marks_past : (w : World) (m s : ℕ) → length w.nodes ≤ m → (migrating w m s ≡ None) × (importing w m s ≡ None)
marks_past w m s h = (ap (λ x. get x.migrating s) (get_or_past w.nodes m blank h) ∙ get-empty nat_cmp s, ap (λ x. get x.importing s) (get_or_past w.nodes m blank h) ∙ get-empty nat_cmp s)

-- the phase of the invariant in which an open slot begins
abbrev pub inner : phase.Phase → Phase
inner (phase.Closed o) = Closed o
inner (phase.Importing o t) = Importing o t
inner (phase.Migrating o t) = Migrating o t
inner (phase.TargetTold o t) = TargetTold o t
inner (phase.SourceTold o t left) = SourceTold o t left

-- ---- the owner in the end

told_append : (o : ℕ) (xs ys : List PlanCommand) → last_told o (xs ++ ys) ≡ last_told (last_told o xs) ys
told_append o [] ys = refl
told_append o (planned.Importing s m at ∷ xs) ys = told_append o xs ys
told_append o (planned.Migrating s m at ∷ xs) ys = told_append o xs ys
told_append o (planned.Drain s m t b ∷ xs) ys = told_append o xs ys
told_append o (planned.SetNode s m at ∷ xs) ys = told_append m xs ys
told_append o (planned.Stable s at ∷ xs) ys = told_append o xs ys

told_same : (s t : ℕ) (others : List ℕ) → last_told t (tell s t others) ≡ t
told_same s t [] = refl
told_same s t (m ∷ others) = told_same s t others

legs_told : (s o : ℕ) (legs : List Leg) → leg_end o legs ≡ last_told o (legs_of s o legs)
legs_told s o [] = refl
legs_told s o (Move t b others ∷ legs) = legs_told s t legs ∙ sym (told_append t (tell s t others) (legs_of s t legs) ∙ ap (λ x. last_told x (legs_of s t legs)) (told_same s t others))
legs_told s o (Try t ∷ legs) = legs_told s o legs

closing_told : (version n s : ℕ) (p : phase.Phase) (closing : List PlanCommand) (owner : ℕ) → Closes version n s p closing owner → last_told (first_owner p) closing ≡ owner
closing_told version n s (phase.Closed o) closing owner c = ap (last_told o) c.0 ∙ sym c.1
closing_told version n s (phase.Importing o t) closing owner (inl c) = ap (last_told o) c.1 ∙ sym c.2
closing_told version n s (phase.Importing o t) closing owner (inr c) = ap (last_told o) c.5 ∙ told_same s t c.1 ∙ sym c.4
closing_told version n s (phase.Migrating o t) closing owner c = ap (last_told t) c.5 ∙ told_same s t c.1 ∙ sym c.4
closing_told version n s (phase.TargetTold o t) closing owner c = ap (last_told t) c.3 ∙ told_same s t c.0 ∙ sym c.2
closing_told version n s (phase.SourceTold o t left) closing owner c = ap (last_told t) c.4 ∙ told_same s t c.0 ∙ sym c.3

pub part_end : (version n s : ℕ) (p : phase.Phase) (commands : List PlanCommand) (i : IsPart version n s p commands) → leg_end i.owner i.legs ≡ last_told (first_owner p) commands
part_end version n s p commands i = legs_told s i.owner i.legs ∙ ap (λ o. last_told o (legs_of s i.owner i.legs)) (sym (closing_told version n s p i.closing i.owner i.closes))
    ∙ sym (told_append (first_owner p) i.closing (legs_of s i.owner i.legs)) ∙ ap (last_told (first_owner p)) (sym i.is)

-- with nothing left of the plan, each slot is closed at its owner in the end
pub record AtEnd (n goal : ℕ) (phase : Phase) : Type 0 where
  pub own : (m : ℕ) → own_in phase m ≡ goal
  pub goes : (m : ℕ) → goes_in phase m ≡ None
  pub comes : (m : ℕ) → comes_in phase m ≡ None
  pub place : (m : ℕ) → m ≢ goal → may_hold phase m ≡ false
  pub below : goal < n

pub at_end : (n goal s : ℕ) (phase : Phase) → Rest n goal s phase [] → AtEnd n goal phase
at_end n goal s (Closed o) l = closed l.goes_on.legs l.goes_on.is l.goes_on.end
  where
    closed : (legs : List Leg) → [] ≡ legs_of s o legs → leg_end o legs ≡ goal → AtEnd n goal (Closed o)
    closed [] is e = record { own = λ m. e; goes = λ m. refl; comes = λ m. refl; place = λ m u. ne_eqb m o (λ v. u (v ∙ e)); below = subst (λ x. x < n) e l.owner_below }
    closed (Move t b others ∷ legs) is e = cc
    closed (Try t ∷ legs) is e = cc
at_end n goal s (Importing o t) (inl l) = cc (l.is)
at_end n goal s (Importing o t) (inr l) = cc (l.is)
at_end n goal s (Migrating o t) l = cc (l.is)
at_end n goal s (Drained o t) l = cc (l.is)
at_end n goal s (TargetTold o t) l = cc (l.is)
at_end n goal s (SourceTold o t []) l = absurd (l.some refl)
at_end n goal s (SourceTold o t (m ∷ left)) l = cc (l.is)

pub finished : (n : ℕ) (goal : ℕ → ℕ) (w : World) (past : List Event) (store : Store) → Inv n goal w past [] None store → IsClean w n goal store
finished n goal w past store inv = record {
  size = inv.base.size;
  bounded = λ s. (end s).below;
  owned = λ m s h. (inv.base.marks s).owners m h ∙ (end s).own m;
  widths = inv.base.widths;
  not_migrating = λ m s h. (inv.base.marks s).going m ∙ (end s).goes m;
  not_importing = λ m s h. (inv.base.marks s).coming m ∙ (end s).comes m;
  entries = λ m k h. elim (cases_eq (goal (slot_of k)) m) [
    | inl e ↦ subst (λ j. held w j k ≡ get store k) e (there k) ∙ sym (cond-true _ _ _ (eq-eqb (goal (slot_of k)) m e))
    | inr e ↦ away k m (λ u. e (sym u)) ∙ sym (cond-false _ _ _ (ne_eqb (goal (slot_of k)) m e))
  ];
}
  where
    end : (s : ℕ) → AtEnd n (goal s) (inv.base.marks s).phase
    end s = at_end n (goal s) s (inv.base.marks s).phase (inv.base.marks s).left

    away : (k : Key) (m : ℕ) → m ≢ goal (slot_of k) → held w m k ≡ None
    away k m e = (inv.lies (slot_of k)).place m k refl ((end (slot_of k)).place m e)

    there : (k : Key) → held w (goal (slot_of k)) k ≡ get store k
    there k = elim (cases_eq (goal (slot_of k)) (inv.split k).0) [
      | inl e ↦ ap (λ j. held w j k) e ∙ (inv.split k).1
      | inr e ↦ (inv.split k).2 _ e ∙ sym (away k (inv.split k).0 (λ u. e (sym u))) ∙ (inv.split k).1
    ]
