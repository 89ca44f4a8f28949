-- A table that counts: what it has at a place, with what is still to come there, is the whole.
use Rattle.std.proofs.Common.{◌≡◌, ◌≢◌, ℕ, ◌+◌, ◌<◌, ◌≤◌, ◌^◌, true, false, cond, inl, inr, List, [], ◌∷◌, length, get_or, set, drop, replicate, nat_eq, ap, sym, ◌∙◌, arith, get_or-set_same, get_or-set_other, length-set}
use Rattle.std.proofs.lemmas.Bool.{cases_eq}
use Rattle.std.proofs.lemmas.Bool.Decides.{nat_tests}
use Rattle.std.proofs.lemmas.List.{drop_more, drop_all, get_or-replicate, get_or_default, length-replicate}
use Rattle.plan_outlines.specs.Nodes.{held}

pub record Tallied (table : List ℕ) (n : ℕ) (rest whole : ℕ → ℕ) : Type 0 where
  pub width : length table ≡ n
  pub counts : (k : ℕ) → k < n → get_or table k 0 + rest k ≡ whole k

pub tally_none : (n : ℕ) (whole : ℕ → ℕ) → Tallied (replicate n 0) n whole whole
tally_none n whole = record {
  width = length-replicate {A = ℕ} n 0;
  counts = λ k lt. let h = get_or-replicate {A = ℕ} n k 0 0 lt in omega (arith, h);
}

at_place : (p k w : ℕ) → p ≡ k → cond (nat_eq p k) w 0 ≡ w
at_place p k w e = let h : nat_eq p k ≡ true = grind (arith, nat_tests) in ap (λ b. cond b w 0) h

elsewhere : (p k w : ℕ) → p ≢ k → cond (nat_eq p k) w 0 ≡ 0
elsewhere p k w e = let h : nat_eq p k ≡ false = grind (arith, nat_tests) in ap (λ b. cond b w 0) h

pub tally_more : (table : List ℕ) (n : ℕ) (rest next whole : ℕ → ℕ) (p v w : ℕ) → p < n → v ≡ get_or table p 0 + w → ((k : ℕ) → k < n → rest k ≡ cond (nat_eq p k) w 0 + next k) → Tallied table n rest whole → Tallied (set table p v) n next whole
tally_more table n rest next whole p v w within is step t = record {
  width = length-set table p v ∙ t.width;
  counts = λ k lt.
      let s = step k lt in
      let c = t.counts k lt in
      elim (cases_eq p k) [
        | inl e ↦
            let here = at_place p k w e in
            let place : p < length table = omega (arith, t.width) in
            let now : get_or (set table p v) k 0 ≡ v = ap (λ j. get_or (set table p v) j 0) (sym e) ∙ get_or-set_same table p v 0 place in
            let was : get_or table p 0 ≡ get_or table k 0 = ap (λ j. get_or table j 0) e in
            omega (arith, s, c, here, now, was, is)
        | inr ne ↦
            let here = elsewhere p k w ne in
            let other : k ≢ p = λ e. ne (sym e) in
            let now = get_or-set_other table p k v 0 other in
            omega (arith, s, c, here, now)
      ];
}

pub held_more : (owners : List ℕ) (i x : ℕ) → i < length owners → x ≡ get_or owners i x → (k : ℕ) → held (drop i owners) k ≡ cond (nat_eq x k) 1 0 + held (drop (i + 1) owners) k
held_more owners i x lt e k =
    ap (λ os. held os k) (drop_more owners i x lt) ∙ ap (λ o. cond (nat_eq o k) 1 0 + held (drop (i + 1) owners) k) (sym e)

pub held_within : (owners : List ℕ) (k : ℕ) → held owners k ≤ length owners
held_within [] k = omega arith
held_within (o ∷ os) k =
    let h = held_within os k in
    elim (nat_eq o k) as (λ b. cond b 1 0 + held os k ≤ length (o ∷ os)) [ true ↦ omega (arith, h) | false ↦ omega (arith, h) ]

-- one slot more fits, since no count is above the number of slots
pub one_more_fits : (owners table : List ℕ) (n i x j v : ℕ) → length owners ≡ 16384 → i < length owners → x ≡ get_or owners i x → x < n → j ≡ x → v ≡ get_or table j v → Tallied table n (held (drop i owners)) (held owners) → v + 1 < 2 ^ 32
one_more_fits owners table n i x j v long lt e within at is t =
    let c = t.counts x within in
    let w = held_within owners x in
    let inside : x < length table = omega (arith, t.width, within) in
    let same : v ≡ get_or table x 0 = is ∙ ap (λ k. get_or table k v) at ∙ get_or_default table x v 0 inside in
    omega (arith, c, w, long, same)

pub tally_all : (table : List ℕ) (n i : ℕ) (owners : List ℕ) → length owners ≤ i → Tallied table n (held (drop i owners)) (held owners) → (k : ℕ) → k < n → get_or table k 0 ≡ held owners k
tally_all table n i owners past t k lt =
    let none : held (drop i owners) k ≡ 0 = ap (λ os. held os k) (drop_all i owners past) in
    omega (arith, t.counts k lt, none)
