-- What is there to be drawn.
use Rattle.std.specs.Prelude.{◌≡◌, ℕ, List, [], ◌∷◌, ◌++◌, length}
use Rattle.std.specs.List.{flat_map}
use Rattle.cluster_views.specs.Numbers.{numbers_to}
use Rattle.cluster_admin.specs.Surveys.{Survey, row_at}
use Rattle.plan_outlines.specs.Changes.{change_ranges}
use Rattle.plan_outlines.specs.Nodes.{changes_of_nodes}
use Rattle.plan_drawings.specs.Now.{now_text}
use Rattle.plan_drawings.specs.declared.open_slots.OpenSlot.{OpenSlot}
use Rattle.plan_previews.specs.declared.standing.Seen.{Seen}
use Rattle.server_phases.specs.Faults.{strange_text}
use Rattle.server_phases.specs.ServerPhases.{ServerPhases, ShowsPhases}
use Rattle.server_phases.specs.declared.server_phase.ServerPhase.{ServerPhase}
use Rattle.server_phases.specs.declared.server_phase.ServerPhase.TheVariants as shown

abbrev pub one_open : (slot source target : ℕ) → List OpenSlot
one_open s a b = record { slot = s; source = a; target = b } ∷ []

-- the slot, if it is open in this phase
abbrev pub open_at : (slot : ℕ) → ServerPhase → List OpenSlot
open_at s (shown.Closed o) = []
open_at s (shown.Importing a b) = one_open s a b
open_at s (shown.Migrating a b) = one_open s a b
open_at s (shown.Told a b) = one_open s a b
open_at s (shown.Strange k) = []

-- the line of a slot in no phase
abbrev pub strange_line : (slot : ℕ) → ServerPhase → List ℕ
strange_line s (shown.Strange k) = strange_text s k ++ 10 ∷ []
strange_line s p = []

-- the open slots, ascending, by the phases that the survey shows
abbrev pub AreOpenSlots : Survey → List OpenSlot → Type 0
AreOpenSlots v xs = (phases : ServerPhases) → ShowsPhases v phases
    → xs ≡ flat_map (λ s. open_at s (phases s)) (numbers_to 16384)

abbrev pub AreStrangeLines : Survey → List ℕ → Type 0
AreStrangeLines v text = (phases : ServerPhases) → ShowsPhases v phases
    → text ≡ flat_map (λ s. strange_line s (phases s)) (numbers_to 16384)

-- the owners that n0 tells
abbrev pub told_owners : Survey → List ℕ
told_owners v = (row_at v 0).owners

-- their picture, with the open slots
abbrev pub IsPictureOf : Survey → List ℕ → Type 0
IsPictureOf v text = (slots : List OpenSlot) × AreOpenSlots v slots
    × (text ≡ now_text (change_ranges (told_owners v) (told_owners v))
    (changes_of_nodes (length v.rows) (told_owners v) (told_owners v)) slots)

pub record IsSeenIn (v : Survey) (seen : Seen) : Type 0 where
  pub picture : IsPictureOf v seen.picture.items
  pub strange : AreStrangeLines v seen.strange.items
