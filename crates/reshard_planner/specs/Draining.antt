-- Drained nodes: how many slots each node is to hold once others have dealt out the slots of these among themselves.
use Rattle.std.specs.Prelude.{◌≡◌, ℕ, zero, suc, ◌+◌, ◌<◌, ◌≤◌, Bool, true, false, ◌==◌, cond, nat_lt, List, [], ◌∷◌}
use Rattle.std.specs.Prelude.{slice_index}
use Rattle.std.specs.List.{list_any}
use Rattle.cluster_admin.specs.Phases.{closed_by}
use Rattle.key_slots.specs.Owners.{Owners}
use Rattle.plan_language.specs.Lines.{plan_commands}
use Rattle.plan_language.specs.declared.line.Line.{Line}
use Rattle.plan_semantics.specs.Plans.{IsFinal, among}
use Rattle.reshard_planner.specs.Holding.{held}
use Rattle.reshard_planner.specs.Shares.{sources_hold}

-- the node that holds less, the one before where both hold the same
abbrev pub lesser : (holds : ℕ → ℕ) → (best node : ℕ) → ℕ
lesser holds best node = cond (nat_lt (holds node) (holds best)) node best

-- the node that holds least of one node and others, the first such one
unfoldable pub least : (holds : ℕ → ℕ) → (node : ℕ) → List ℕ → ℕ
least holds node [] = node
least holds node (other ∷ others) = least holds (lesser holds node other) others

-- one slot more at this node
abbrev pub with_one_at : (holds : ℕ → ℕ) → (node : ℕ) → ℕ → ℕ
with_one_at holds node other = holds other + cond (other == node) 1 0

-- so many slots are dealt out, each to the node that holds least by then
unfoldable pub filled : (holds : ℕ → ℕ) → (node : ℕ) → List ℕ → (count : ℕ) → ℕ → ℕ
filled holds node others zero = holds
filled holds node others (suc count) =
    with_one_at (filled holds node others count) (least (filled holds node others count) node others)

-- what each node holds, without the sources
abbrev pub emptied : (owners sources : List ℕ) → (node : ℕ) → ℕ
emptied owners sources node = cond (among node sources) 0 (held owners node)

-- how many slots each node is to hold: the targets deal out those of the sources
abbrev pub drain_quota : Owners → (sources targets : List ℕ) → (node : ℕ) → ℕ
drain_quota o sources [] = held o.owners
drain_quota o sources (target ∷ others) =
    filled (emptied o.owners sources) target others (sources_hold o.owners sources o.nodes)

-- a target is a source
abbrev pub are_mixed : (sources targets : List ℕ) → Bool
are_mixed sources targets = list_any (λ target. among target sources) targets

-- ---- what that amounts to

-- The sources own nothing in the end, and what was theirs is the targets'. Any other slot stays where it is. A target
-- that was given a slot holds one slot more than another target at most.
pub record IsDrained (o : Owners) (sources targets final : List ℕ) : Type 0 where
  pub empty : (node : ℕ) → node < o.nodes → among node sources ≡ true → held final node ≡ 0
  pub taken : (slot : ℕ) → slot < 16384 → among (slice_index o.owners slot) sources ≡ true
      → among (slice_index final slot) targets ≡ true
  pub kept : (slot : ℕ) → slot < 16384 → among (slice_index o.owners slot) sources ≡ false
      → slice_index final slot ≡ slice_index o.owners slot
  pub level : (node other : ℕ) → among node targets ≡ true → among other targets ≡ true
      → held o.owners node < held final node → held final node ≤ held final other + 1

-- whatever table the plan leaves
abbrev pub IsDrain : Owners → (sources targets : List ℕ) → List Line → Type 0
IsDrain o sources targets lines = (final : List ℕ)
    → IsFinal (plan_commands o.nodes lines) (closed_by o.owners) final → IsDrained o sources targets final
