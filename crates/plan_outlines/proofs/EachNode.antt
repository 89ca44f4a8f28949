-- The nodes' changes, one by one.
use Rattle.std.proofs.Common.{◌≡◌, ℕ, ◌+◌, ◌<◌, List, [], ◌∷◌, ◌++◌, length, get_or, map, ap, sym, ◌∙◌, arith}
use Rattle.std.proofs.lemmas.List.{get_or_default}
use Rattle.std.proofs.lemmas.List.FromFn.{map-range_with_len_more}
use Rattle.std.specs.List.{range_with_len}
use Rattle.plan_outlines.specs.declared.nodes.NodeChange.{NodeChange}
use Rattle.plan_outlines.specs.Nodes.{change_of_node, held}

abbrev node_change : ℕ → ℕ → ℕ → NodeChange
node_change m x y = record { node = m; before = x; after = y }

alike : (m k x v y w : ℕ) → m ≡ k → x ≡ v → y ≡ w → node_change m x y ≡ node_change k v w
alike m k x v y w e f g = λ i. node_change (e i) (f i) (g i)

read : (owners table : List ℕ) (n k j x : ℕ) → length table ≡ n → ((i : ℕ) → i < n → get_or table i 0 ≡ held owners i) → k < n → j ≡ k → x ≡ get_or table j x → x ≡ held owners k
read owners table n k j x width is lt at e =
    let within : k < length table = omega (arith, width, lt) in
    e ∙ ap (λ i. get_or table i x) at ∙ get_or_default table k x 0 within ∙ is k lt

pub node_more : (before after first second : List ℕ) (changes new : List NodeChange) (n k m i j x y : ℕ) → length first ≡ n → length second ≡ n → ((l : ℕ) → l < n → get_or first l 0 ≡ held before l) → ((l : ℕ) → l < n → get_or second l 0 ≡ held after l) → k < n → m ≡ k → i ≡ k → j ≡ k → x ≡ get_or first i x → y ≡ get_or second j y → changes ≡ map (change_of_node before after) (range_with_len 0 k) → new ≡ changes ++ record { node = m; before = x; after = y } ∷ [] → new ≡ map (change_of_node before after) (range_with_len 0 (k + 1))
node_more before after first second changes new n k m i j x y wf ws f s lt named at_i at_j ex ey so_far pushed =
    pushed ∙ ap (λ cs. cs ++ node_change m x y ∷ []) so_far
    ∙ ap (λ c. map (change_of_node before after) (range_with_len 0 k) ++ c ∷ [])
    (alike m k x (held before k) y (held after k) named (read before first n k i x wf f lt at_i ex) (read after second n k j y ws s lt at_j ey))
    ∙ sym (map-range_with_len_more (change_of_node before after) 0 k k (omega arith))
