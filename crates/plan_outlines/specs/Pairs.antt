-- What moves from one node to another.
use Rattle.std.specs.Prelude.{ℕ, ◌+◌, ◌*◌, Bool, cond, not, ◌&&◌, ◌==◌, List, [], ◌∷◌, filter, map, slice_index}
use Rattle.std.specs.List.{flat_map, range_with_len}
use Rattle.std.specs.Ordering.{nat_cmp, ordering_then}
use Rattle.std.specs.declared.cmp.Ordering.{Ordering}
use Rattle.plan_outlines.specs.declared.pairs.PairChange.{PairChange}

-- how many slots are the source's before and the target's after
abbrev pub pair_slots : (before after : List ℕ) → (source target : ℕ) → ℕ
pair_slots [] after s t = 0
pair_slots (b ∷ before) [] s t = 0
pair_slots (b ∷ before) (a ∷ after) s t = cond (b == s && a == t) 1 0 + pair_slots before after s t

-- the keys of these slots, where the first owners are those of the slot `from`; a slot past the end of the keys has
-- none
abbrev pub keys_from : (from : ℕ) → (keys before after : List ℕ) → (source target : ℕ) → ℕ
keys_from from keys [] after s t = 0
keys_from from keys (b ∷ before) [] s t = 0
keys_from from keys (b ∷ before) (a ∷ after) s t =
    cond (b == s && a == t) (slice_index keys from) 0 + keys_from (from + 1) keys before after s t

abbrev pub pair_keys : (keys before after : List ℕ) → (source target : ℕ) → ℕ
pair_keys keys before after s t = keys_from 0 keys before after s t

abbrev pub pair_change : (before after keys : List ℕ) → (source target : ℕ) → PairChange
pair_change before after keys s t = record {
  source = s;
  target = t;
  slots = pair_slots before after s t;
  keys = pair_keys keys before after s t;
}

-- slots move between the two nodes
abbrev pub is_move : PairChange → Bool
is_move pair = not (pair.source == pair.target) && not (pair.slots == 0)

-- the pairs of these nodes between which slots move, where f tells what moves from a node to another
abbrev pub moving_from : (f : ℕ → PairChange) → (nodes : ℕ) → List PairChange
moving_from f nodes = filter is_move (map f (range_with_len 0 nodes))

abbrev pub moving : (f : ℕ → ℕ → PairChange) → (nodes : ℕ) → List PairChange
moving f nodes = flat_map (λ s. moving_from (f s) nodes) (range_with_len 0 nodes)

-- by source and then by target
abbrev pub moved_pairs : (nodes : ℕ) (before after keys : List ℕ) → List PairChange
moved_pairs nodes before after keys = moving (pair_change before after keys) nodes

-- those with most slots first, and equal ones by source and then by target
abbrev pub pair_cmp : PairChange → PairChange → Ordering
pair_cmp p q =
    ordering_then (ordering_then (nat_cmp q.slots p.slots) (nat_cmp p.source q.source)) (nat_cmp p.target q.target)

-- what a table of nodes times nodes places tells of a pair
abbrev pub pair_in : (nodes : ℕ) (slots keys : List ℕ) → (source target : ℕ) → PairChange
pair_in n slots keys s t = record {
  source = s;
  target = t;
  slots = slice_index slots (s * n + t);
  keys = slice_index keys (s * n + t);
}
