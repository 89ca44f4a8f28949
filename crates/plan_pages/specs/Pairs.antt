-- The first section: what moves between which nodes.
use Rattle.std.specs.Prelude.{ℕ, Bool, List, [], ◌∷◌, ◌++◌, cond, codes, decimal}
use Rattle.std.specs.List.{flat_map}
use Rattle.plan_outlines.specs.declared.pairs.PairChange.{PairChange}
use Rattle.plan_pages.specs.Words.{key_word, left, or_none, pair_text, right, slots_column}

unfoldable pub pairs_heading : List ℕ
pairs_heading = codes "slots by pair of nodes\n"

-- `,       1234 keys`
unfoldable pub keys_column : (keys : ℕ) → List ℕ
keys_column k = codes ", " ++ (right 10 (decimal k) ++ key_word k)

-- the keys, where they are known
abbrev pub keys_part : (has_keys : Bool) → PairChange → List ℕ
keys_part has p = cond has (keys_column p.keys) []

-- `  n0 -> n2       683 slots,       1234 keys`
unfoldable pub pair_line : (has_keys : Bool) → PairChange → List ℕ
pair_line has p =
    codes "  " ++ (left 12 (pair_text p.source p.target) ++ (slots_column 12 p.slots ++ (keys_part has p ++ 10 ∷ [])))

abbrev pub pairs_section : (has_keys : Bool) → List PairChange → List ℕ
pairs_section has ps = pairs_heading ++ or_none (flat_map (pair_line has) ps)
