-- What a table of keys stands for.
use Rattle.std.specs.Prelude.{◌+◌, ◌*◌, cond, nat_lt, slice_index_or, None}
use Rattle.slot_key_counts.specs.Rounds.{Told}
use Rattle.slot_key_counts.specs.declared.key_table.KeyTable.{KeyTable}

-- the keys that the node told of the slot
abbrev pub told_in : KeyTable → Told
told_in t n s = cond (nat_lt s 16384) (slice_index_or t.keys.items (n * 16384 + s) None) None
