-- How long the text of a place is.
use Rattle.std.proofs.Common.{ℕ, ◌+◌, ◌<◌, ◌≤◌, length, arith, length-append, ◌++◌, ◌∷◌, lit<}
use Rattle.std.specs.Fmt.{decimal}
use Rattle.std.proofs.lemmas.Fmt.{length-decimal-le}
use Rattle.cluster_node.specs.Redirections.{ip, place}

-- a number below 100,000 has at most five digits
few_digits : (n : ℕ) → n < 100000 → length (decimal n) ≤ 5
few_digits n h = length-decimal-le 5 n (lit< tt) h (omega arith)

pub length-place : (port slot node : ℕ) → port ≤ 65528 → slot < 16384 → node < 255 → length (place port slot node) ≤ 1024
length-place port slot node p s n =
    let a : length (decimal slot) ≤ 5 = few_digits slot (omega arith) in
    let b : length (decimal (port + node)) ≤ 5 = few_digits (port + node) (omega arith) in
    omega (arith, length-append (32 ∷ decimal slot) (32 ∷ (ip ++ 58 ∷ decimal (port + node))), length-append ip (58 ∷ decimal (port + node)))
