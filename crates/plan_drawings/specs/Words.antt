-- What is told in words.
use Rattle.std.specs.Prelude.{ℕ, cond, ◌==◌, List, [], ◌∷◌, ◌++◌, codes}
use Rattle.std.specs.List.{flat_map}
use Rattle.plan_outlines.specs.declared.nodes.NodeChange.{NodeChange}
use Rattle.plan_outlines.specs.declared.pairs.PairChange.{PairChange}
use Rattle.plan_drawings.specs.Filling.{filled}

-- the places of a number of slots, and of a number of nodes
abbrev pub summary_form : (moved : ℕ) → List ℕ
summary_form m =
    cond (m == 1) (codes "The plan moves % slot between % nodes.") (codes "The plan moves % slots between % nodes.")

-- how many slots move between how many nodes
abbrev pub summary : (moved rows : ℕ) → List ℕ
summary m n = cond (m == 0) (codes "The plan changes no owner.") (filled (summary_form m) (m ∷ n ∷ []))

-- the places of a node, and of its slots before and after
abbrev pub node_form : (before : ℕ) → List ℕ
node_form b = cond (b == 1) (codes "n%: % slot before, % after. ") (codes "n%: % slots before, % after. ")

-- a node's slots before and after
abbrev pub told_node : NodeChange → List ℕ
told_node c = filled (node_form c.before) (c.node ∷ c.before ∷ c.after ∷ [])

-- the places of two nodes, and of what moves between them
abbrev pub pair_form : (slots : ℕ) → List ℕ
pair_form k = cond (k == 1) (codes "n% to n%: % slot. ") (codes "n% to n%: % slots. ")

-- what a pair moves
abbrev pub told_pair : PairChange → List ℕ
told_pair p = filled (pair_form p.slots) (p.source ∷ p.target ∷ p.slots ∷ [])

-- what a screen reader reads out
abbrev pub description : List NodeChange → List PairChange → List ℕ
description ns ps = flat_map told_node ns ++ flat_map told_pair ps

-- the picture's name, and what it shows
abbrev pub naming : (moved rows : ℕ) → List NodeChange → List PairChange → List ℕ
naming m n ns ps =
    codes "<title id=\"title\">" ++ (summary m n ++ (codes "</title>\n<desc id=\"desc\">" ++
    (description ns ps ++ codes "</desc>\n")))
