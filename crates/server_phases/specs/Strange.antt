-- What keeps a slot from being in any phase: of all that applies, the first.
use Rattle.std.specs.Prelude.{ℕ, cond, ◌==◌, ◌&&◌, not, length, Option, None, Some, option_map}
use Rattle.cluster_views.specs.Numbers.{first_given, numbers_to}
use Rattle.cluster_views.specs.Surveying.{dissenter}
use Rattle.cluster_admin.specs.Surveys.{Survey, importing_at, migrating_at, owner_at}
use Rattle.survey_texts.specs.Texts.{slots_of}
use Rattle.server_phases.specs.declared.strangeness.Strangeness.{Strangeness}
use Rattle.server_phases.specs.declared.strangeness.Strangeness.TheVariants as kind

-- ---- marks

-- the node and where the slot goes from it
abbrev pub going_at : Survey → (slot node : ℕ) → Option (ℕ × ℕ)
going_at v s n = option_map (λ m. (n, m)) (migrating_at v n s)

-- the node and where the slot comes from
abbrev pub coming_at : Survey → (slot node : ℕ) → Option (ℕ × ℕ)
coming_at v s n = option_map (λ m. (n, m)) (importing_at v n s)

-- the lowest node that migrates the slot, and the lowest that imports it, each with the node that its mark names
abbrev pub first_going : Survey → (slot : ℕ) → Option (ℕ × ℕ)
first_going v s = first_given (going_at v s) (numbers_to (length v.rows))

abbrev pub first_coming : Survey → (slot : ℕ) → Option (ℕ × ℕ)
first_coming v s = first_given (coming_at v s) (numbers_to (length v.rows))

-- the lowest one but this
abbrev pub next_going : Survey → (slot but : ℕ) → Option (ℕ × ℕ)
next_going v s m = first_given (λ n. cond (n == m) None (going_at v s n)) (numbers_to (length v.rows))

abbrev pub next_coming : Survey → (slot but : ℕ) → Option (ℕ × ℕ)
next_coming v s m = first_given (λ n. cond (n == m) None (coming_at v s n)) (numbers_to (length v.rows))

-- ---- kinds

abbrev pub TwoNodes : Type 0
TwoNodes = Option (ℕ × ℕ)

-- two nodes that have a mark, by the first and the next
abbrev pub two_by : (ℕ → TwoNodes) → TwoNodes → TwoNodes
two_by next None = None
two_by next (Some p) = option_map (λ q. (p.0, q.0)) (next p.0)

abbrev pub two_going : Survey → (slot : ℕ) → TwoNodes
two_going v s = two_by (next_going v s) (first_going v s)

abbrev pub two_coming : Survey → (slot : ℕ) → TwoNodes
two_coming v s = two_by (next_coming v s) (first_coming v s)

-- n0 and the lowest node that does not agree with it
abbrev pub two_owners : Survey → (slot : ℕ) → Option ℕ → Strangeness
two_owners v s None = kind.TwoOwners (owner_at v 0 s) 0 (owner_at v 0 s)
two_owners v s (Some n) = kind.TwoOwners (owner_at v 0 s) n (owner_at v n s)

-- only the source migrates the slot
abbrev pub stray_going : (owner : ℕ) → ℕ × ℕ → Strangeness
stray_going o p = cond (p.0 == o && not (p.1 == o)) (kind.NotImported p.0 p.1) (kind.StrayMigrating o p.0)

-- only the target imports it
abbrev pub stray_coming : (owner : ℕ) → ℕ × ℕ → Strangeness
stray_coming o p = cond (p.0 == o) (kind.OwnerImports o) (kind.OtherSource o p.1 p.0)

-- a node that has slots migrates the slot, whatever node imports it
abbrev pub with_slots : Survey → (slot : ℕ) → ℕ × ℕ → (coming : Option (ℕ × ℕ)) → Strangeness
with_slots v s p None = stray_going (owner_at v 0 s) p
with_slots v s p (Some q) = kind.Crossed (owner_at v 0 s) (record { source = p.0; target = p.1 }) q.0 q.1

-- the marks of a slot on whose owner all agree
abbrev pub stray : Survey → (slot : ℕ) → (going coming : Option (ℕ × ℕ)) → Strangeness
stray v s (Some p) coming =
    cond (slots_of v p.0 == 0) (kind.WithoutSlots (owner_at v 0 s) p.0) (with_slots v s p coming)
stray v s None None = two_owners v s None
stray v s None (Some q) = stray_coming (owner_at v 0 s) q

abbrev pub one_mark_each : Survey → (slot : ℕ) → Option ℕ → Strangeness
one_mark_each v s None = stray v s (first_going v s) (first_coming v s)
one_mark_each v s (Some n) = two_owners v s (Some n)

abbrev pub one_going : Survey → (slot : ℕ) → TwoNodes → Strangeness
one_going v s None = one_mark_each v s (dissenter v s)
one_going v s (Some p) = kind.TwoImport p.0 p.1

abbrev pub strange_by : Survey → (slot : ℕ) → TwoNodes → Strangeness
strange_by v s None = one_going v s (two_coming v s)
strange_by v s (Some p) = kind.TwoMigrate p.0 p.1

abbrev pub strangeness : Survey → (slot : ℕ) → Strangeness
strangeness v s = strange_by v s (two_going v s)
