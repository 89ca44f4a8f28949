-- What holds of a world at each moment of a run that a plan drives.
use Rattle.std.proofs.Common.{◌≡◌, ℕ, ◌<◌, true, List, [], ◌∷◌, length, Option, Some, None}
use Rattle.std.specs.FinMap.{get}
use Rattle.key_slots.specs.HashSlot.{slot_of}
use Rattle.store_commands.specs.Store.{Key, Store, is_named}
use Rattle.slot_marks.specs.Verdicts.{first_slot}
use Rattle.cluster_world.specs.Worlds.{World, node_at, owner, migrating, importing, held}
use Rattle.cluster_world.specs.declared.event.Event.{Event}
use Rattle.plan_language.specs.declared.plan_command.PlanCommand.{PlanCommand}
use Rattle.plan_language.specs.declared.plan_command.PlanCommand.TheVariants as planned
use Rattle.plan_semantics.specs.Plans.{part}
use Rattle.reshard_theorem.proofs.Split.{Splits}
use Rattle.reshard_theorem.proofs.Phases.{Marks, Emptied, Data}

-- the keys of an open listing are of the drain's slot
abbrev pub ListedOk : List PlanCommand → Option (List Key) → Type 0
ListedOk plan None = Unit {0}
ListedOk [] (Some ks) = ⊥
ListedOk (planned.Importing s m r ∷ plan) (Some ks) = ⊥
ListedOk (planned.Migrating s m r ∷ plan) (Some ks) = ⊥
ListedOk (planned.SetNode s m r ∷ plan) (Some ks) = ⊥
ListedOk (planned.Stable s r ∷ plan) (Some ks) = ⊥
ListedOk (planned.Drain s o t b ∷ plan) (Some ks) = (first_slot ks ≡ s) × ((q : Key) → is_named q ks ≡ true → slot_of q ≡ s)

abbrev pub MarksIn : (n : ℕ) (goal : ℕ → ℕ) (w : World) (plan : List PlanCommand) → ℕ → Type 0
MarksIn n goal w plan s = Marks n (goal s) s (λ m. owner w m s) (λ m. migrating w m s) (λ m. importing w m s) (part plan s)

-- What holds of a run that a plan drives, honest or not: of n nodes, the final owners, the world, what is left of the plan, an open listing
pub record Base (n : ℕ) (goal : ℕ → ℕ) (w : World) (plan : List PlanCommand) (listed : Option (List Key)) : Type 0 where
  pub size : length w.nodes ≡ n
  pub widths : (m : ℕ) → m < n → length (node_at w m).owners ≡ 16384
  pub marks : (s : ℕ) → MarksIn n goal w plan s
  pub emptied : (s : ℕ) → Emptied s (marks s).phase (held w)
  pub listing : ListedOk plan listed

-- THE INVARIANT of an honest run: also of the events so far (newest first) and the one undivided store
pub record Inv (n : ℕ) (goal : ℕ → ℕ) (w : World) (past : List Event) (plan : List PlanCommand) (listed : Option (List Key)) (store : Store) : Type 0 where
  pub base : Base n goal w plan listed
  pub lies : (s : ℕ) → Data w.base_port s (base.marks s).phase (held w) past
  pub split : Splits (held w) (get store)

-- the phases stay
abbrev pub Stays : (n : ℕ) (goal : ℕ → ℕ) (w next : World) (plan : List PlanCommand) (listed : Option (List Key)) → Base n goal w plan listed → Base n goal next plan listed → Type 0
Stays n goal w next plan listed b new = (s : ℕ) → (new.marks s).phase ≡ (b.marks s).phase
