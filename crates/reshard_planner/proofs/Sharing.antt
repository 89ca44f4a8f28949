-- Shares of a total: none is larger than it may be, and together they are the total.
use Rattle.std.proofs.Common.{◌≡◌, ℕ, zero, suc, ◌+◌, ◌*◌, ◌/◌, ◌<◌, ◌≤◌, ap, ◌∙◌, arith}
use Rattle.std.proofs.Math.Nat.{add-mul-div_left, div-eq_of_lt, mul-add-div_right, mul-le-mul_left}
use Rattle.std.proofs.lemmas.Nat.{le-div}
use Rattle.reshard_planner.specs.Sums.{sum_below}
use Rattle.reshard_planner.specs.Shares.{share}

-- what lies along so much weight
abbrev pub along : (total half whole weight : ℕ) → ℕ
along total half whole weight = (total * weight + half) / whole

pub div_le : (a b w : ℕ) → 0 < w → a ≤ b → a / w ≤ b / w
div_le a b w some h = le-div (a / w) b w some (omega (arith, mul_div_le a w))
  where
    mul_div_le : (a w : ℕ) → a / w * w ≤ a
    mul_div_le a w = omega arith

pub along_le : (total half whole a b : ℕ) → 0 < whole → a ≤ b → along total half whole a ≤ along total half whole b
along_le total half whole a b some h = div_le (total * a + half) (total * b + half) whole some
    (omega (arith, mul-le-mul_left total h))

-- the shares of the first nodes lie along their weights
pub shares_along : (total half : ℕ) (weight : ℕ → ℕ) (n k : ℕ) → 0 < sum_below weight n → k ≤ n
    → along total half (sum_below weight n) 0 + sum_below (share total half weight n) k
    ≡ along total half (sum_below weight n) (sum_below weight k)
unfolding sum_below
shares_along total half weight n zero some h = omega arith
shares_along total half weight n (suc k) some h =
    let r : along total half (sum_below weight n) 0 + sum_below (share total half weight n) k
    ≡ along total half (sum_below weight n) (sum_below weight k)
    = shares_along total half weight n k some (omega arith) in
    let m : along total half (sum_below weight n) (sum_below weight k)
    ≤ along total half (sum_below weight n) (sum_below weight k + weight k)
    = along_le total half (sum_below weight n) (sum_below weight k) (sum_below weight k + weight k) some
    (omega arith) in
    omega arith

along_none : (total half whole : ℕ) → half < whole → along total half whole 0 ≡ 0
along_none total half whole h = ap (λ x. (x + half) / whole) (none total) ∙ small half whole h
  where
    none : (total : ℕ) → total * 0 ≡ 0
    none total = omega arith

    small : (half whole : ℕ) → half < whole → (0 + half) / whole ≡ 0
    small half whole h = ap (λ x. x / whole) (plain half) ∙ div-eq_of_lt h
      where
        plain : (half : ℕ) → 0 + half ≡ half
        plain half = omega arith

along_all : (total half whole : ℕ) → half < whole → along total half whole whole ≡ total
along_all total half whole h = mul-add-div_right {m = whole} (omega arith) total half ∙ small total half whole h
  where
    small : (total half whole : ℕ) → half < whole → total + half / whole ≡ total
    small total half whole h = let e : half / whole ≡ 0 = none half whole h in omega arith
      where
        none : (half whole : ℕ) → half < whole → half / whole ≡ 0
        none half whole h = div-eq_of_lt h

-- together they are the total
pub shares_are_total : (total half : ℕ) (weight : ℕ → ℕ) (n : ℕ) → half < sum_below weight n
    → sum_below (share total half weight n) n ≡ total
shares_are_total total half weight n h =
    let e = shares_along total half weight n n (omega arith) (omega arith) in
    let f = along_none total half (sum_below weight n) h in
    let g = along_all total half (sum_below weight n) h in omega arith

-- rounded down alone, none is above its weight where the total is not above all weights
pub share_le : (total : ℕ) (weight : ℕ → ℕ) (n i : ℕ) → 0 < sum_below weight n → total ≤ sum_below weight n
    → share total 0 weight n i ≤ weight i
share_le total weight n i some h =
    let e : (total * sum_below weight i + 0 + sum_below weight n * weight i) / sum_below weight n
    ≡ (total * sum_below weight i + 0) / sum_below weight n + weight i
    = add-mul-div_left (total * sum_below weight i + 0) (weight i) some in
    let l : (total * (sum_below weight i + weight i) + 0) / sum_below weight n
    ≤ (total * sum_below weight i + 0 + sum_below weight n * weight i) / sum_below weight n
    = div_le _ _ (sum_below weight n) some
    (grown total (sum_below weight n) (sum_below weight i) (weight i) h) in
    omega arith
  where
    grown : (t w p h : ℕ) → t ≤ w → t * (p + h) + 0 ≤ t * p + 0 + w * h
    grown t w p h l = let m : t * h ≤ w * h = times_le t w h l in omega arith
      where
        times_le : (t w h : ℕ) → t ≤ w → t * h ≤ w * h
        times_le t w h l = let m : h * t ≤ h * w = mul-le-mul_left h l in omega arith

-- a node without weight has none
pub share_weightless : (total half : ℕ) (weight : ℕ → ℕ) (n i : ℕ) → weight i ≡ 0 → share total half weight n i ≡ 0
share_weightless total half weight n i e =
    let f : (total * (sum_below weight i + weight i) + half) / sum_below weight n
    ≡ (total * sum_below weight i + half) / sum_below weight n
    = ap (λ x. (total * x + half) / sum_below weight n) (same (sum_below weight i) (weight i) e) in omega arith
  where
    same : (p w : ℕ) → w ≡ 0 → p + w ≡ p
    same p w e = omega arith

-- and nobody has a share of nothing
pub share_nothing : (weight : ℕ → ℕ) (n i : ℕ) → share 0 0 weight n i ≡ 0
share_nothing weight n i =
    let e : (0 * (sum_below weight i + weight i) + 0) / sum_below weight n
    ≡ (0 * sum_below weight i + 0) / sum_below weight n
    = ap (λ x. (x + 0) / sum_below weight n) (same (sum_below weight i + weight i) (sum_below weight i)) in omega arith
  where
    same : (a b : ℕ) → 0 * a ≡ 0 * b
    same a b = omega arith
