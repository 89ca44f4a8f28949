-- The keys of one list that another has, or lacks.
use Rattle.std.proofs.Common.{◌≡◌, ℕ, ◌+◌, ◌≤◌, Bool, true, false, cond, not, List, [], ◌∷◌, ◌++◌, length, sym, ap}
use Rattle.std.proofs.Common.{append_assoc, append-nil, arith}
use Rattle.std.specs.Prelude.{filter}
use Rattle.server_settling.specs.Keys.{has, at_both, at_one_alone}

kept_le : {X : Type 0} (p : X → Bool) (xs : List X) → length (filter p xs) ≤ length xs
kept_le p [] = omega arith
kept_le p (x ∷ xs) = by (p x) (kept_le p xs)
  where
    by : (b : Bool) → length (filter p xs) ≤ length xs
        → length (cond b (x ∷ filter p xs) (filter p xs)) ≤ length (x ∷ xs)
    by true le = omega (arith, le)
    by false le = omega (arith, le)

pub both_le : (keys others : List (List ℕ)) → length (at_both keys others) ≤ length keys
both_le keys others = kept_le (λ k. has others k) keys

pub alone_le : (keys others : List (List ℕ)) → length (at_one_alone keys others) ≤ length keys
alone_le keys others = kept_le (λ k. not (has others k)) keys

pub one_more : (found : List (List ℕ)) (key : List ℕ) (keys others : List (List ℕ))
    → found ++ at_both (key ∷ keys) others ≡ (found ++ at_both (key ∷ []) others) ++ at_both keys others
one_more found key keys others = by (has others key)
  where
    by : (b : Bool) → found ++ cond b (key ∷ at_both keys others) (at_both keys others)
        ≡ (found ++ cond b (key ∷ []) []) ++ at_both keys others
    by true = sym (append_assoc found (key ∷ []) (at_both keys others))
    by false = ap (λ t. t ++ at_both keys others) (sym (append-nil found))

pub one_counted : (key : List ℕ) (keys others : List (List ℕ))
    → length (at_one_alone (key ∷ keys) others) ≡ cond (has others key) 0 1 + length (at_one_alone keys others)
one_counted key keys others = by (has others key)
  where
    by : (b : Bool) → length (cond (not b) (key ∷ at_one_alone keys others) (at_one_alone keys others))
        ≡ cond b 0 1 + length (at_one_alone keys others)
    by true = omega arith
    by false = omega arith

pub all_found : (found others : List (List ℕ)) → found ++ at_both [] others ≡ found
all_found found others = append-nil found

pub ruleset keys_found = (one_more, all_found)

pub ruleset keys_counted = (alone_le, one_counted)
