-- What holds of a world by a plan holds by each plan with the same parts.
use Rattle.std.proofs.Common.{◌≡◌, ℕ, List, [], ◌∷◌, ◌++◌, Option, Some, None, sym, ◌∙◌, subst}
use Rattle.store_commands.specs.Store.{Key, Store}
use Rattle.cluster_world.specs.Worlds.{World, owner, migrating, importing, held}
use Rattle.cluster_world.specs.declared.event.Event.{Event}
use Rattle.plan_language.specs.declared.plan_command.PlanCommand.{PlanCommand}
use Rattle.plan_language.specs.declared.plan_command.PlanCommand.TheVariants as planned
use Rattle.plan_semantics.specs.Plans.{part}
use Rattle.reshard_theorem.proofs.Phases.{Data, Emptied}
use Rattle.reshard_theorem.proofs.Base.{Base, Inv, ListedOk, MarksIn}
use Rattle.reshard_theorem.proofs.Admins.{marks_part}

module _ (n : ℕ) (goal : ℕ → ℕ) (w : World) (plan plan' : List PlanCommand) (listed listed' : Option (List Key))
    (same : (s : ℕ) → part plan s ≡ part plan' s) (fine : ListedOk plan' listed') where
  there : (b : Base n goal w plan listed) (s : ℕ) → (m : MarksIn n goal w plan' s) × (m.phase ≡ (b.marks s).phase)
  there b s = marks_part n (goal s) s (λ m. owner w m s) (λ m. migrating w m s) (λ m. importing w m s) (part plan s) (part plan' s) (same s) (b.marks s)

  pub base_by_parts : (b : Base n goal w plan listed)
      → (new : Base n goal w plan' listed') × ((s : ℕ) → (new.marks s).phase ≡ (b.marks s).phase)
  base_by_parts b = (
    record {
      size = b.size;
      widths = b.widths;
      marks = λ s. (there b s).0;
      emptied = λ s. subst (λ p. Emptied s p (held w)) (sym (there b s).1) (b.emptied s);
      listing = fine;
    },
    λ s. (there b s).1,
  )

  pub inv_by_parts : (past : List Event) (store : Store) → Inv n goal w past plan listed store → Inv n goal w past plan' listed' store
  inv_by_parts past store inv =
      let new = base_by_parts inv.base in
      record {
        base = new.0;
        lies = λ s. subst (λ p. Data w.base_port s p (held w) past) (sym (new.1 s)) (inv.lies s);
        split = inv.split;
      }

-- an open listing of what stands in front
pub listed_front : (xs ys : List PlanCommand) (listed : Option (List Key)) → ListedOk xs listed → ListedOk (xs ++ ys) listed
listed_front xs ys None h = tt
listed_front [] ys (Some ks) h = absurd h
listed_front (planned.Importing s m at ∷ xs) ys (Some ks) h = h
listed_front (planned.Migrating s m at ∷ xs) ys (Some ks) h = h
listed_front (planned.SetNode s m at ∷ xs) ys (Some ks) h = h
listed_front (planned.Stable s at ∷ xs) ys (Some ks) h = h
listed_front (planned.Drain s m t b ∷ xs) ys (Some ks) h = h

pub listed_in_front : (x : PlanCommand) (xs ys : List PlanCommand) (listed : Option (List Key))
    → ListedOk ((x ∷ xs) ++ ys) listed → ListedOk (x ∷ xs) listed
listed_in_front x xs ys None h = tt
listed_in_front (planned.Importing s m at) xs ys (Some ks) h = h
listed_in_front (planned.Migrating s m at) xs ys (Some ks) h = h
listed_in_front (planned.SetNode s m at) xs ys (Some ks) h = h
listed_in_front (planned.Stable s at) xs ys (Some ks) h = h
listed_in_front (planned.Drain s m t b) xs ys (Some ks) h = h
