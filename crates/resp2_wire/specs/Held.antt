-- Lengths as the program holds them.
use Rattle.std.specs.Prelude.{ℕ, ◌+◌, ◌-◌, ◌^◌, min, zero, suc, length, decimal}
use Rattle.resp2_wire.specs.Encoding.{encoding, length_of, line}
use Rattle.resp2_wire.specs.Tree.{Tree, array, Trees, none, more}

-- the length n, or the largest number of 64 bits where n is larger
abbrev pub held : ℕ → ℕ
held n = min n (2 ^ 64 - 1)

-- so many replies from the front, or all where there are fewer
abbrev pub first_of : ℕ → Trees → Trees
first_of n none = none
first_of zero (more t ts) = none
first_of (suc n) (more t ts) = more t (first_of n ts)

-- the length of a reply's bytes, or of an array's line
abbrev pub own_length : Tree → ℕ
own_length (array ts) = length (line 42 (decimal (length_of ts)))
own_length t = length (encoding t)

abbrev pub own_lengths : Trees → ℕ
own_lengths none = 0
own_lengths (more t ts) = own_length t + own_lengths ts

-- the length of a reply's bytes, or of an array's line with those of its first 16 replies, of arrays among them their
-- lines alone
abbrev pub first_length : Tree → ℕ
first_length (array ts) = own_length (array ts) + own_lengths (first_of 16 ts)
first_length t = own_length t
