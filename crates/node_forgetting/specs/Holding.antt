-- What a survey shows of a node for which the others still need it.
use Rattle.std.specs.Prelude.{ℕ, Bool, false, cond, ◌==◌, ◌||◌, ◌&&◌, Option, None, Some, length}
use Rattle.std.specs.Option.{option_map_or}
use Rattle.cluster_admin.specs.Surveys.{Survey, importing_at, migrating_at, owner_at}
use Rattle.cluster_views.specs.Numbers.{first_given, numbers_to}
use Rattle.cluster_views.specs.Surveying.{has_mark}
use Rattle.node_forgetting.specs.declared.hold.Hold.{Hold}
use Rattle.node_forgetting.specs.declared.hold.Hold.TheVariants.{Marked, Named, Owns}

-- the mark, if there is one, names the node
abbrev pub names : (node : ℕ) → Option ℕ → Bool
names n mark = option_map_or (λ m. m == n) mark false

-- a mark of the slot at this master names it
abbrev pub is_named : Survey → (node at slot : ℕ) → Bool
is_named v n at s = names n (migrating_at v at s) || names n (importing_at v at s)

-- the master is the node, and has a mark of the slot
abbrev pub is_own_mark : Survey → (node at slot : ℕ) → Bool
is_own_mark v n at s = at == n && has_mark v s at

-- what this master tells of the node by the slot
abbrev pub hold_at : Survey → (node at slot : ℕ) → Option Hold
hold_at v n at s =
    cond (owner_at v at s == n) (Some (Owns n at s))
    (cond (is_named v n at s) (Some (Named n at s))
    (cond (is_own_mark v n at s) (Some (Marked n s)) None))

-- the first of that, by the slots
abbrev pub hold_by : Survey → (node at : ℕ) → Option Hold
hold_by v n at = first_given (hold_at v n at) (numbers_to 16384)

-- and by the masters: where there is none, the node owns no slot in any master's table, no mark names it, and it has
-- none
abbrev pub hold : Survey → (node : ℕ) → Option Hold
hold v n = first_given (hold_by v n) (numbers_to (length v.rows))
