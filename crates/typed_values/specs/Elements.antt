-- The elements of a list, from the front to the back. A missing list has none.
use Rattle.std.specs.Prelude.{ℕ, ◌+◌, ◌-◌, min, List, ◌∷◌, ◌++◌, fold, length, take, drop, slice_get, slice_range}
use Rattle.std.specs.Prelude.{Option, Result, ℤ, pos, negsuc}
use Rattle.typed_values.specs.Faults.{within}
use Rattle.typed_values.specs.declared.fault.ValueFault.{ValueFault}

abbrev pub Elements : Type 0
Elements = List (List ℕ)

-- RPUSH, https://redis.io/docs/latest/commands/rpush/
abbrev pub pushed_back : Elements → Elements → Result Elements ValueFault
pushed_back l xs = within (length (l ++ xs)) (l ++ xs)

-- LPUSH, https://redis.io/docs/latest/commands/lpush/: one after the other to the front, so that the last of xs is the
-- first then
abbrev pub pushed_each : Elements → Elements → Elements
pushed_each l xs = fold (λ now x. x ∷ now) l xs

abbrev pub pushed_front : Elements → Elements → Result Elements ValueFault
pushed_front l xs = within (length (pushed_each l xs)) (pushed_each l xs)

-- LPOP, https://redis.io/docs/latest/commands/lpop/: the element taken, and the rest
abbrev pub front : Elements → Option (List ℕ)
front l = slice_get l 0

abbrev pub popped_front : Elements → Elements
popped_front l = drop 1 l

-- RPOP, https://redis.io/docs/latest/commands/rpop/
abbrev pub back : Elements → Option (List ℕ)
back l = slice_get l (length l - 1)

abbrev pub popped_back : Elements → Elements
popped_back l = take (length l - 1) l

-- LRANGE, https://redis.io/docs/latest/commands/lrange/: -1 is the last of n elements, -2 the one before it.
-- A start before the first is the first, and a stop past the last is the last.
abbrev pub start_of : ℕ → ℤ → ℕ
start_of n (pos k) = k
start_of n (negsuc k) = n - (k + 1)

-- one past the stop
abbrev pub end_of : ℕ → ℤ → ℕ
end_of n (pos k) = min n (k + 1)
end_of n (negsuc k) = n - k

abbrev pub range : Elements → ℤ → ℤ → Elements
range l start stop = slice_range l (start_of (length l) start) (end_of (length l) stop)
