-- An even split, part by part.
use Rattle.std.proofs.Common.{◌≡◌, ℕ, [], ◌+◌, ◌-◌, ◌*◌, ◌/◌, ◌≤◌, ◌<◌, inl, inr, List, ◌++◌, length, get_or, replicate, length-append, arith, ap, refl, sym, subst, ◌∙◌}
use Rattle.std.proofs.lemmas.Nat.{div-mul-add, le-div}
use Rattle.std.proofs.Math.Nat.{div-mul-le_self, eq-or-lt_of_le, add-mul}
use Rattle.std.proofs.Math.ListN.{get_or-append}
use Rattle.std.proofs.lemmas.List.{get_or-append_right, get_or-replicate, length-replicate}
use Rattle.std.proofs.lemmas.List.Elements.{All-append, All-nil, All-replicate}
use Rattle.std.specs.List.{All}
use Rattle.key_slots.specs.Owners.{start}

half_below : (n : ℕ) → 1 ≤ n → n / 2 < n
half_below n h = omega arith

pub start-zero : (n : ℕ) → 1 ≤ n → start n 0 ≡ 0
unfolding start
start-zero n h =
    let none : 0 * n ≡ 0 = omega arith in
    ap (λ m. (m + n / 2) / n) (sym none) ∙ div-mul-add 0 n (n / 2) (half_below n h)

pub start-all : (n : ℕ) → 1 ≤ n → start n n ≡ 16384
unfolding start
start-all n h = div-mul-add 16384 n (n / 2) (half_below n h)

pub start-le : (n i j : ℕ) → 1 ≤ n → i ≤ j → start n i ≤ start n j
unfolding start
start-le n i j h le =
    let below : (16384 * i + n / 2) / n * n ≤ 16384 * i + n / 2 = div-mul-le_self _ n in
    le-div _ (16384 * j + n / 2) n h (omega arith)

add_one : (a n : ℕ) → (a + 1) * n ≡ a * n + n
add_one a n = let one : 1 * n ≡ n = omega arith in add-mul a 1 n ∙ ap (λ m. a * n + m) one

-- each node has slots
pub start-lt : (n i : ℕ) → 1 ≤ n → n ≤ 255 → start n i < start n (i + 1)
unfolding start
start-lt n i h top =
    let below : (16384 * i + n / 2) / n * n ≤ 16384 * i + n / 2 = div-mul-le_self _ n in
    let part : ((16384 * i + n / 2) / n + 1) * n ≡ (16384 * i + n / 2) / n * n + n = add_one ((16384 * i + n / 2) / n) n in
    let next : (16384 * i + n / 2) / n + 1 ≤ (16384 * (i + 1) + n / 2) / n = le-div _ (16384 * (i + 1) + n / 2) n h (omega arith) in
    omega arith

-- the slots of the first k of n nodes
pub record SharesBelow (n k : ℕ) (owners : List ℕ) : Type 0 where
  pub width : length owners ≡ start n k
  pub named : All (λ o. o < n) owners
  pub shares : (i s : ℕ) → i < k → start n i ≤ s → s < start n (i + 1) → get_or owners s 0 ≡ i

-- the slots of one node more
pub more : (n k : ℕ) (xs : List ℕ) (c : ℕ) → 1 ≤ n → k < n → SharesBelow n k xs → length xs + c ≡ start n (k + 1) → SharesBelow n (k + 1) (xs ++ replicate c k)
more n k xs c h lt below e = record {
  width = length-append xs (replicate c k) ∙ ap (λ m. length xs + m) (length-replicate c k) ∙ e;
  named = All-append (λ o. o < n) xs (replicate c k) below.named (All-replicate (λ o. o < n) c k lt);
  shares = λ i s within from to. elim (eq-or-lt_of_le {n = i} {m = k} (omega arith)) [
    | inl same ↦
        let starts : start n i ≡ start n k = ap (start n) same in
        let ends : start n (i + 1) ≡ start n (k + 1) = ap (λ j. start n (j + 1)) same in
        let w : length xs ≡ start n k = below.width in
        let high : length xs ≤ s = omega arith in
        get_or-append_right xs (replicate c k) (length xs) s 0 refl high
        ∙ get_or-replicate c (s - length xs) k 0 (omega arith)
        ∙ sym same
    | inr before ↦
        let w : length xs ≡ start n k = below.width in
        let le : start n (i + 1) ≤ start n k = start-le n (i + 1) k h (omega arith) in
        get_or-append xs (replicate c k) 0 s (omega arith) ∙ below.shares i s before from to
  ];
}

pub none : (n : ℕ) (xs : List ℕ) → 1 ≤ n → xs ≡ [] → SharesBelow n 0 xs
none n xs h e = record {
  width = ap length e ∙ sym (start-zero n h);
  named = subst (All (λ o. o < n)) (sym e) (All-nil (λ o. o < n));
  shares = λ i s lt. absurd (omega arith);
}

pub all : (n k : ℕ) (xs : List ℕ) → 1 ≤ n → k ≡ n → SharesBelow n k xs → length xs ≡ 16384
all n k xs h e below = below.width ∙ ap (start n) e ∙ start-all n h
