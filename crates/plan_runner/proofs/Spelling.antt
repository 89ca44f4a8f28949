-- A plan that ran to its end spelt its commands in order.
use Rattle.std.proofs.Common.{◌≡◌, ℕ, ◌+◌, Bool, true, false, cond, List, [], ◌∷◌, Option, Some, None, is_some, sym, refl, ap, subst, inl, inr}
use Rattle.plan_language.specs.declared.plan_command.PlanCommand.{PlanCommand}
use Rattle.plan_language.specs.declared.plan_command.PlanCommand.TheVariants as planned
use Rattle.cluster_admin.specs.declared.admin.AdminReply.{AdminReply}
use Rattle.cluster_admin.specs.declared.admin.AdminReply.TheVariants.{Ok, NoKey, Keys, Refused}
use Rattle.cluster_admin.specs.Keys.{Key}
use Rattle.plan_semantics.specs.Driving.{Spells, called, remaining, whole}
use Rattle.plan_runner.specs.ProgressView.{Progress, Waits, left_of}
use Rattle.plan_semantics.specs.Orders.{sending}
use Rattle.plan_runner.specs.PlanStates.{Left, when_moved, after, plan_with, plan_after}
use Rattle.plan_runner.specs.Advancing.{waits, runs_on, Goes, stopped_by}
use Rattle.plan_semantics.specs.Driving.{Spelled}
use Rattle.plan_runner.specs.Finishing.{IsOpen, DoneIsSpelled}
use Rattle.plan_semantics.specs.declared.order.Order.{Order}
use Rattle.plan_runner.specs.declared.plan_state.PlanState.{PlanState}
use Rattle.plan_runner.specs.declared.plan_state.PlanState.TheVariants.{Running, Done, Stopped}
use Rattle.plan_runner.specs.declared.stop_cause.StopCause.{StopCause}
use Rattle.plan_runner.specs.declared.stop_cause.StopCause.TheVariants as causes
use Rattle.plan_runner.proofs.Going.{run_at, running_left, no_left, left_is, fine_left}

pub some_is : {a b : Order} → Some a ≡ Some b → a ≡ b
some_is e = cc

moved_on : (reply : AdminReply) (l left : Left) → when_moved reply l ≡ Some left → l ≡ left
moved_on Ok l left e = left_is e
moved_on NoKey l left e = left_is e
moved_on (Keys ks) l left e = absurd (no_left e)
moved_on (Refused n) l left e = absurd (no_left e)

-- what is left after a reply that is not strange is what the call spells
pub spells_after : (rest : List PlanCommand) (listed : Option (List Key)) (s : Order) (reply : AdminReply) (left : Left) → IsOpen rest listed → sending rest listed ≡ Some s → after rest (is_some listed) reply ≡ Some left
    → Spells (remaining rest listed) (called s.node s.command reply) (remaining left.0 left.1) × IsOpen left.0 left.1
spells_after [] listed s reply left o e a = absurd (no_left a)
spells_after (planned.Importing s' m at ∷ rest) None s reply left o e a = let d = fine_left reply (rest, None) left a in let g = some_is e in
    ((ap (λ x. x.node) (sym g), ap (λ x. x.command) (sym g), ap (λ l. l.0) (sym d), ap (λ l. l.1) (sym d)), subst (λ l. IsOpen l.0 l.1) d tt)
spells_after (planned.Migrating s' m at ∷ rest) None s reply left o e a = let d = fine_left reply (rest, None) left a in let g = some_is e in
    ((ap (λ x. x.node) (sym g), ap (λ x. x.command) (sym g), ap (λ l. l.0) (sym d), ap (λ l. l.1) (sym d)), subst (λ l. IsOpen l.0 l.1) d tt)
spells_after (planned.SetNode s' m at ∷ rest) None s reply left o e a = let d = fine_left reply (rest, None) left a in let g = some_is e in
    ((ap (λ x. x.node) (sym g), ap (λ x. x.command) (sym g), ap (λ l. l.0) (sym d), ap (λ l. l.1) (sym d)), subst (λ l. IsOpen l.0 l.1) d tt)
spells_after (planned.Stable s' at ∷ rest) None s reply left o e a = let d = fine_left reply (rest, None) left a in let g = some_is e in
    ((ap (λ x. x.node) (sym g), ap (λ x. x.command) (sym g), ap (λ l. l.0) (sym d), ap (λ l. l.1) (sym d)), subst (λ l. IsOpen l.0 l.1) d tt)
spells_after (planned.Importing s' m at ∷ rest) (Some ks) s reply left o e a = absurd o
spells_after (planned.Stable s' at ∷ rest) (Some ks) s reply left o e a = absurd o
spells_after (planned.Migrating s' m at ∷ rest) (Some ks) s reply left o e a = absurd o
spells_after (planned.SetNode s' m at ∷ rest) (Some ks) s reply left o e a = absurd o
spells_after (planned.Drain s' m t b ∷ rest) (Some ks) s reply left o e a = let d = moved_on reply (planned.Drain s' m t b ∷ rest, None) left a in let g = some_is e in
    ((ap (λ x. x.node) (sym g), ap (λ x. x.command) (sym g), ap (λ l. l.0) (sym d), ap (λ l. l.1) (sym d)), subst (λ l. IsOpen l.0 l.1) d tt)
spells_after (planned.Drain s' m t b ∷ rest) None s Ok left o e a = absurd (no_left a)
spells_after (planned.Drain s' m t b ∷ rest) None s NoKey left o e a = absurd (no_left a)
spells_after (planned.Drain s' m t b ∷ rest) None s (Refused n) left o e a = absurd (no_left a)
spells_after (planned.Drain s' m t b ∷ rest) None s (Keys []) left o e a = let d = left_is a in let g = some_is e in
    ((ap (λ x. x.node) (sym g), ap (λ x. x.command) (sym g), inl (refl, ap (λ l. l.0) (sym d), ap (λ l. l.1) (sym d))), subst (λ l. IsOpen l.0 l.1) d tt)
spells_after (planned.Drain s' m t b ∷ rest) None s (Keys (k ∷ ks)) left o e a = let d = kept _ a in let g = some_is e in
    ((ap (λ x. x.node) (sym g), ap (λ x. x.command) (sym g), inr (k, ks, refl, ap (λ l. l.0) (sym d), ap (λ l. l.1) (sym d))), subst (λ l. IsOpen l.0 l.1) d tt)
  where
    kept : (c : Bool) → cond c (Some (let l : Left = (planned.Drain s' m t b ∷ rest, Some (k ∷ ks)) in l)) None ≡ Some left → (let l : Left = (planned.Drain s' m t b ∷ rest, Some (k ∷ ks)) in l) ≡ left
    kept true u = left_is u
    kept false u = absurd (no_left u)

-- ---- the end

pub stop_done : (c : StopCause) (m n : ℕ) → Stopped c m ≡ Done n → ⊥
stop_done c m n e = cc

done_at : (m : ℕ) (o : Option Left) (spent most n : ℕ) → plan_with m o spent most ≡ Done n → (left : Left) × (o ≡ Some left) × (left.0 ≡ [])
done_at m None spent most n e = absurd (stop_done causes.StrangeReply spent n e)
done_at m (Some ([], listed)) spent most n e = (([], listed), refl, refl)
done_at m (Some (o ∷ rest, listed)) spent most n e = absurd (by _ e)
  where
    by : (b : Bool) → cond b (Stopped causes.Limit spent) (Running (record { nodes = m; rest = o ∷ rest; listed = listed; spent = spent; most = most })) ≡ Done n → ⊥
    by true u = cc
    by false u = cc

done_left : (w : Waits) (reply : AdminReply) (n : ℕ) → plan_after w reply ≡ Done n → plan_with w.nodes (after w.rest w.open_still reply) (w.spent + 1) w.most ≡ Done n
done_left w Ok n e = e
done_left w NoKey n e = e
done_left w (Keys ks) n e = e
done_left w (Refused number) n e = absurd (stop_done (causes.Refused (w.spent + 1) number) (w.spent + 1) n e)

closed : (rest : List PlanCommand) (listed : Option (List Key)) → IsOpen rest listed → rest ≡ [] → listed ≡ None
closed rest None o e = refl
closed [] (Some ks) o e = absurd o
closed (x ∷ rest) (Some ks) o e = cc

pub done_spelt : DoneIsSpelled
done_spelt p [] n o (inl u) = (sym u.0, sym (closed p.rest p.listed o u.0))
done_spelt p [] n o (inr u) = absurd (stop_done (stopped_by u.0) p.spent n (sym u.2))
done_spelt p (c ∷ cs) n o g = by (plan_after (waits p) c.reply) refl (λ q. done_spelt q cs n) g.1
  where
    s : Order
    s = g.0.0

    over : (left : Left) → Spells (left_of p) (called s.node s.command c.reply) (remaining left.0 left.1) → Spells (left_of p) c (remaining left.0 left.1)
    over left h = subst (λ x. Spells (left_of p) (called x c.command c.reply) (remaining left.0 left.1)) (sym g.0.2)
        (subst (λ x. Spells (left_of p) (called s.node x c.reply) (remaining left.0 left.1)) (sym g.0.3) h)

    by : (j : PlanState) → plan_after (waits p) c.reply ≡ j → ((q : Progress) → IsOpen q.rest q.listed → Goes q cs (Done n) → Spelled (left_of q) cs (whole []))
        → runs_on j (λ q. Goes q cs (Done n)) (λ j. (cs ≡ []) × (Done n ≡ j)) → Spelled (left_of p) (c ∷ cs) (whole [])
    by (Running q) e more h =
        let r = run_at p.nodes (after p.rest (is_some p.listed) c.reply) (p.spent + 1) p.most q (running_left (waits p) c.reply q e) in
        let t = spells_after p.rest p.listed s c.reply r.0 o g.0.1 r.1 in
        (remaining r.0.0 r.0.1, over r.0 t.0, subst (λ (x : Progress). Spelled (left_of x) cs (whole [])) r.2 (more q (subst (λ (x : Progress). IsOpen x.rest x.listed) (sym r.2) t.1) h))
    by (Done m) e more h =
        let r = done_at p.nodes (after p.rest (is_some p.listed) c.reply) (p.spent + 1) p.most m (done_left (waits p) c.reply m e) in
        let t = spells_after p.rest p.listed s c.reply r.0 o g.0.1 r.1 in
        (remaining r.0.0 r.0.1, over r.0 t.0, subst (λ l. Spelled (remaining r.0.0 r.0.1) l (whole [])) (sym h.0) (sym r.2, sym (closed r.0.0 r.0.1 t.1 r.2)))
    by (Stopped cause m) e more h = absurd (stop_done cause m n (sym h.1))
