-- What the test of a reply's limits says.
use Rattle.std.proofs.Common.{◌≡◌, ◌≢◌, ℕ, suc, ◌-◌, ◌<◌, ◌≤◌, Bool, true, false, not, ◌&&◌, nat_lt, List, [], ◌∷◌, length, refl, ap, arith}
use Rattle.std.proofs.lemmas.Bool.{lt-ltb, le-ltb}
use Rattle.std.proofs.lemmas.Bool.Decides.{nat_tests}
use Rattle.std.specs.List.{list_all}
use Rattle.resp2_wire.specs.Tree.{Tree, simple, error, number, bulk, null, null_array, array, Trees, none, more}
use Rattle.resp2_wire.specs.View.{trees}
use Rattle.resp2_wire.specs.Encoding.{length_of}
use Rattle.resp2_wire.specs.Limits.{Within, AllWithin, NoLineEnd}
use Rattle.resp2_wire.specs.declared.reply.Reply.{Reply}
use Rattle.resp2_wire.specs.Limits.{ends_line, is_line, is_within, are_within}

pub length_of-trees : (rs : List Reply) → length_of (trees rs) ≡ length rs
length_of-trees [] = refl
length_of-trees (r ∷ rs) = ap suc (length_of-trees rs)

pub too_many : (depth : ℕ) (ts : Trees) → 0 < depth → 2097152 < length_of ts → is_within depth (array ts) ≡ false
too_many depth ts some many = rw (lt-ltb 0 depth some, lt-ltb 2097152 (length_of ts) many) refl

pub few : (depth : ℕ) (ts : Trees) → 0 < depth → length_of ts ≤ 2097152 → is_within depth (array ts) ≡ are_within (depth - 1) ts
few depth ts some le = rw (lt-ltb 0 depth some, le-ltb 2097152 (length_of ts) le) refl

and_left : (a b : Bool) → a && b ≡ true → a ≡ true
and_left true b h = refl
and_left false b h = absurd cc

and_right : (a b : Bool) → a && b ≡ true → b ≡ true
and_right true b h = h
and_right false b h = absurd cc

not_above : (m n : ℕ) → not (nat_lt m n) ≡ true → n ≤ m
not_above m n h = grind (arith, nat_tests)

above : (m n : ℕ) → nat_lt m n ≡ true → m < n
above m n h = grind (arith, nat_tests)

not_end : (b : ℕ) → not (ends_line b) ≡ true → (b ≢ 13) × (b ≢ 10)
not_end b h = (λ e. absurd (not_13 b h e), λ e. absurd (not_10 b h e))
  where
    not_13 : (n : ℕ) → not (ends_line n) ≡ true → n ≡ 13 → ⊥
    not_13 n h e = let k = rw e at h in absurd cc

    not_10 : (n : ℕ) → not (ends_line n) ≡ true → n ≡ 10 → ⊥
    not_10 n h e = let k = rw e at h in absurd cc

no_line_end : (t : List ℕ) → list_all (λ b. not (ends_line b)) t ≡ true → NoLineEnd t
no_line_end [] h = tt
no_line_end (b ∷ t) h =
    let e = not_end b (and_left (not (ends_line b)) (list_all (λ c. not (ends_line c)) t) h) in
    (e.0, e.1, no_line_end t (and_right (not (ends_line b)) (list_all (λ c. not (ends_line c)) t) h))

line : (t : List ℕ) → is_line t ≡ true → NoLineEnd t × (length t ≤ 1024)
line t h = (no_line_end t (and_right (not (nat_lt 1024 (length t))) _ h), not_above 1024 (length t) (and_left _ (list_all (λ c. not (ends_line c)) t) h))

mutual
  pub within : (depth : ℕ) (t : Tree) → is_within depth t ≡ true → Within depth t
  within depth (simple t) h = line t h
  within depth (error t) h = line t h
  within depth (number n) h = tt
  within depth (bulk t) h = tt
  within depth null h = tt
  within depth null_array h = above 0 depth h
  within depth (array ts) h =
      let rest = and_right (nat_lt 0 depth) _ h in
      (above 0 depth (and_left (nat_lt 0 depth) _ h), not_above 2097152 (length_of ts) (and_left (not (nat_lt 2097152 (length_of ts))) (are_within (depth - 1) ts) rest), all_within (depth - 1) ts (and_right (not (nat_lt 2097152 (length_of ts))) (are_within (depth - 1) ts) rest))

  pub all_within : (depth : ℕ) (ts : Trees) → are_within depth ts ≡ true → AllWithin depth ts
  all_within depth none h = tt
  all_within depth (more t ts) h =
      (within depth t (and_left (is_within depth t) (are_within depth ts) h), all_within depth ts (and_right (is_within depth t) (are_within depth ts) h))
