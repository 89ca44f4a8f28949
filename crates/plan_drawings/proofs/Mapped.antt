-- The text of bars, by the ranges that they are.
use Rattle.std.proofs.Common.{◌≡◌, ℕ, List, [], ◌∷◌, ◌++◌, map, ap, refl}
use Rattle.std.specs.List.{flat_map}
use Rattle.plan_outlines.specs.declared.ranges.RangeChange.{RangeChange}
use Rattle.plan_drawings.specs.declared.bars.Bar.{Bar}

pub texts_of_bars : (text : Bar → List ℕ) (bar : RangeChange → Bar) (rs : List RangeChange)
    → flat_map (λ r. text (bar r)) rs ≡ flat_map text (map bar rs)
texts_of_bars text bar [] = refl
texts_of_bars text bar (r ∷ rs) = ap (λ (t : List ℕ). text (bar r) ++ t) (texts_of_bars text bar rs)
