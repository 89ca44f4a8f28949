-- The replies of an array, one by one.
use Rattle.std.proofs.Common.{◌≡◌, List, [], ◌∷◌, map, refl, ap}
use Rattle.resp2_wire.specs.Tree.{more, trees_of}
use Rattle.resp2_wire.specs.View.{tree, trees}
use Rattle.resp2_wire.specs.declared.reply.Reply.{Reply}

pub trees-map : (rs : List Reply) → trees rs ≡ trees_of (map tree rs)
trees-map [] = refl
trees-map (r ∷ rs) = ap (more (tree r)) (trees-map rs)
