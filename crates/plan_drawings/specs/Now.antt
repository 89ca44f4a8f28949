-- The picture of what is there, without a plan.
use Rattle.std.specs.Prelude.{ℕ, ◌+◌, ◌*◌, cond, ◌==◌, List, [], ◌∷◌, ◌++◌, codes, length, min}
use Rattle.std.specs.List.{flat_map}
use Rattle.plan_outlines.specs.declared.nodes.NodeChange.{NodeChange}
use Rattle.plan_outlines.specs.declared.ranges.RangeChange.{RangeChange}
use Rattle.plan_drawings.specs.Bars.{bar_of, bar_text}
use Rattle.plan_drawings.specs.Filling.{filled}
use Rattle.plan_drawings.specs.Frames.{bands_opening, colours, heading_opening, opening, scale}
use Rattle.plan_drawings.specs.Layouts.{row_count}
use Rattle.plan_drawings.specs.Rows.{band, half_word, upper_name}
use Rattle.plan_drawings.specs.declared.open_slots.OpenSlot.{OpenSlot}

-- how many slots stand open
abbrev pub open_count : List OpenSlot → ℕ
open_count os = min 16384 (length os)

-- how high the picture is
abbrev pub now_height : (rows count : ℕ) → ℕ
now_height n k = (28 * n + 22 * k) + 186

-- the place of a number of nodes
abbrev pub rows_form : (rows : ℕ) → List ℕ
rows_form n = cond (n == 1) (codes "The cluster has % node. ") (codes "The cluster has % nodes. ")

-- how many slots stand open
abbrev pub open_summary : (count : ℕ) → List ℕ
open_summary k =
    cond (k == 0) (codes "No slot stands open.") (filled (codes "Slots that stand open: %.") (k ∷ []))

-- how many nodes there are, and how many slots stand open
abbrev pub now_summary : (rows count : ℕ) → List ℕ
now_summary n k = filled (rows_form n) (n ∷ []) ++ open_summary k

-- the places of a node and of its slots
abbrev pub now_form : (slots : ℕ) → List ℕ
now_form k = cond (k == 1) (codes "n%: % slot. ") (codes "n%: % slots. ")

-- a node's slots
abbrev pub told_now : NodeChange → List ℕ
told_now c = filled (now_form c.before) (c.node ∷ c.before ∷ [])

-- `slot 24: from n0 to n1`
abbrev pub told_open : OpenSlot → List ℕ
told_open o = filled (codes "slot %: from n% to n%. ") (o.slot ∷ o.source ∷ o.target ∷ [])

-- what a screen reader reads out
abbrev pub now_description : List NodeChange → List OpenSlot → List ℕ
now_description ns os = flat_map told_now ns ++ flat_map told_open os

-- the picture's name, and what it shows
abbrev pub now_naming : (rows count : ℕ) → List NodeChange → List OpenSlot → List ℕ
now_naming n k ns os =
    codes "<title id=\"title\">" ++ (now_summary n k ++ (codes "</title>\n<desc id=\"desc\">" ++
    (now_description ns os ++ codes "</desc>\n")))

-- the paper, and the words above the bands
abbrev pub now_heading : (height rows count : ℕ) → List ℕ
now_heading h n k = heading_opening h ++ (now_summary n k ++ codes "</text>\n")

-- a range, in the band of its owner
abbrev pub now_bar : RangeChange → List ℕ
now_bar r = bar_text (codes "now") (bar_of r 0 r.before)

-- an open slot, as a hatched mark on the band of the node from which it goes
abbrev pub mark_text : (slot source target : ℕ) → List ℕ
mark_text s a b =
    filled (codes "<path class=\"open\" d=\"M% %v22\" data-slot=\"%\" data-source=\"n%\" data-target=\"n%\">")
    (s ∷ (28 * a) ∷ s ∷ a ∷ b ∷ []) ++
    filled (codes "<title>slot %: from n% to n%</title></path>\n") (s ∷ a ∷ b ∷ [])

abbrev pub open_mark : OpenSlot → List ℕ
open_mark o = mark_text o.slot o.source o.target

-- the bands, and the open slots over them
abbrev pub now_bands : (rows : ℕ) → List RangeChange → List NodeChange → List OpenSlot → List ℕ
now_bands n rs ns os =
    bands_opening (28 * n) ++ (flat_map (band 0) ns ++ (flat_map now_bar rs ++
    (flat_map open_mark os ++ codes "</svg>\n")))

-- what stands beside the bands
abbrev pub now_labels : (rows : ℕ) → List NodeChange → List ℕ
now_labels n ns = half_word 76 (codes "now") ++ (flat_map upper_name ns ++ scale (28 * n))

-- an open slot by name, after a square in the colour of the node from which it goes
abbrev pub open_text : (slot source target : ℕ) → List ℕ
open_text s a b =
    filled (codes "<tspan class=\"node-%\" x=\"90\" dy=\"22\">&#9632;</tspan>") (a ∷ []) ++
    filled (codes "<tspan x=\"110\">slot %: from n% to n%</tspan>\n") (s ∷ a ∷ b ∷ [])

abbrev pub open_line : OpenSlot → List ℕ
open_line o = open_text o.slot o.source o.target

-- what is to be done about open slots
abbrev pub advice : (count : ℕ) → List ℕ
advice k = cond (k == 0) [] (codes "<tspan x=\"90\" dy=\"22\">A plan to resume would finish these slots:</tspan>\n")

-- the open slots, below bands of this height
abbrev pub open_list : (height count : ℕ) → List OpenSlot → List ℕ
open_list h k os =
    filled (codes "<text class=\"legend\" y=\"%\">\n") ((h + 122) ∷ []) ++
    (advice k ++ (flat_map open_line os ++ codes "</text>\n"))

-- all that stands before the bands
abbrev pub now_front : (rows height count : ℕ) → List NodeChange → List OpenSlot → List ℕ
now_front n h k ns os = opening h ++ (now_naming n k ns os ++ (colours ns ++ now_heading h n k))

-- the parts, one after the other
unfoldable pub now_parts : (rows count : ℕ) → List RangeChange → List NodeChange → List OpenSlot → List ℕ
now_parts n k rs ns os =
    now_front n (now_height n k) k ns os ++ (now_bands n rs ns os ++ (now_labels n ns ++
    (open_list (28 * n) k os ++ codes "</svg>\n")))

-- the picture of what is there
abbrev pub now_text : List RangeChange → List NodeChange → List OpenSlot → List ℕ
now_text rs ns os = now_parts (row_count ns) (open_count os) rs ns os
