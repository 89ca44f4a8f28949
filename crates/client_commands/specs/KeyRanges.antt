-- Where the keys of a command stand among its words.
use Rattle.std.specs.Prelude.{ℤ, pos, negsuc}
use Rattle.client_commands.specs.declared.key_range.KeyRange.{KeyRange}

abbrev keys_at : (first last step : ℤ) → KeyRange
keys_at f l s = record { first = f; last = l; step = s }

abbrev pub one_key : KeyRange
one_key = keys_at (pos 1) (pos 1) (pos 1)

abbrev pub two_keys : KeyRange
two_keys = keys_at (pos 1) (pos 2) (pos 1)

-- up to the last word
abbrev pub all_keys : KeyRange
all_keys = keys_at (pos 1) (negsuc 0) (pos 1)

-- every other word up to the last one
abbrev pub every_other : KeyRange
every_other = keys_at (pos 1) (negsuc 0) (pos 2)
