-- Lines that are read one after the other.
use Rattle.std.proofs.Common.{◌≡◌, List, [], ◌∷◌, ◌++◌, ap, append_assoc, refl, sym}
use Rattle.std.specs.Prelude.{Option, None, Some, option_map}
use Rattle.listed_nodes.specs.declared.node_line.NodeLine.{NodeLine}

pub first_put : (rest : Option (List NodeLine)) → rest ≡ option_map (λ ls. [] ++ ls) rest
first_put None = refl
first_put (Some ls) = refl

pub next_put : (items : List NodeLine) (line : NodeLine) (rest : Option (List NodeLine))
    → option_map (λ ls. items ++ ls) (option_map (λ ls. line ∷ ls) rest)
    ≡ option_map (λ ls. (items ++ line ∷ []) ++ ls) rest
next_put items line None = refl
next_put items line (Some ls) = ap Some (sym (append_assoc items (line ∷ []) ls))
