-- The bars of ranges that cover all slots show the owners.
use Rattle.std.proofs.Common.{◌≡◌, ℕ, ◌+◌, ◌-◌, ◌*◌, ◌<◌, ◌≤◌, List, [], ◌∷◌, length, map, sum, All, get_or}
use Rattle.std.proofs.Common.{refl, sym, subst, ap, ◌∙◌, arith}
use Rattle.std.proofs.lemmas.List.Elements.{All-map, All-weaker}
use Rattle.std.proofs.lemmas.List.Sums.{sum_by-cons}
use Rattle.plan_outlines.specs.declared.ranges.RangeChange.{RangeChange}
use Rattle.plan_outlines.specs.Changes.{CoverAllSlots, Follow, IsOwned, change_ranges}
use Rattle.plan_outlines.proofs.Covering.{ranges_cover}
use Rattle.plan_drawings.specs.Bars.{bar_of, bar_width}
use Rattle.plan_drawings.specs.Tiling.{Adjoin, BarsShowOwners, IsInRow, IsOfOwner, ShowOwners}
use Rattle.plan_drawings.specs.declared.bars.Bar.{Bar}

-- a bar is as wide as what lies between its first slot and the next bar's
pub widths_of : (from end : ℕ) (bs : List Bar) → Adjoin from end bs → from + sum (map bar_width bs) ≡ end
widths_of from end [] h = omega (arith, h)
widths_of from end (b ∷ bs) h =
    let rest : (b.first + b.width) + sum (map bar_width bs) ≡ end = widths_of (b.first + b.width) end bs h.2 in
    let whole : sum (map bar_width (b ∷ bs)) ≡ b.width + sum (map bar_width bs) =
    sum_by-cons (λ x. x) b.width (map bar_width bs) in
    omega (arith, h.0, rest, whole)

module _ (top : ℕ) (owner : RangeChange → ℕ) where
  adjoins : (from end : ℕ) (rs : List RangeChange) → Follow from end rs
      → Adjoin from end (map (λ r. bar_of r top (owner r)) rs)
  adjoins from end [] h = h
  adjoins from end (r ∷ rs) h =
      let some : r.first ≤ r.last = h.1 in (
        h.0,
        omega (arith, some),
        subst (λ k. Adjoin k end (map (λ q. bar_of q top (owner q)) rs)) (next r.first r.last some)
            (adjoins (r.last + 1) end rs h.3),
      )
    where
      next : (first last : ℕ) → first ≤ last → last + 1 ≡ first + ((last + 1) - first)
      next first last le = omega arith

  within : (first last s : ℕ) → first ≤ s → s < first + ((last + 1) - first) → s ≤ last
  within first last s low high = omega arith

  shown : (owners : List ℕ) (rs : List RangeChange) → Follow 0 16384 rs
      → All (λ r. (s : ℕ) → r.first ≤ s → s ≤ r.last → get_or owners s 0 ≡ owner r) rs
      → ShowOwners owners top (map (λ r. bar_of r top (owner r)) rs)
  shown owners rs follow owned =
      let order : Adjoin 0 16384 (map (λ r. bar_of r top (owner r)) rs) = adjoins 0 16384 rs follow in
      record {
        order = order;
        widths = zero_add (sum (map bar_width (map (λ r. bar_of r top (owner r)) rs)))
            ∙ widths_of 0 16384 (map (λ r. bar_of r top (owner r)) rs) order;
        owned = All-map (IsOfOwner owners) (λ r. bar_of r top (owner r)) rs (All-weaker
            (λ r. (s : ℕ) → r.first ≤ s → s ≤ r.last → get_or owners s 0 ≡ owner r)
            (λ r. IsOfOwner owners (bar_of r top (owner r)))
            (λ r h s low high. h s low (within r.first r.last s low high)) rs owned);
        placed = All-map (IsInRow top) (λ r. bar_of r top (owner r)) rs (λ k d lt. refl);
      }
    where
      zero_add : (n : ℕ) → n ≡ 0 + n
      zero_add n = omega arith

pub bars_show_owners : BarsShowOwners
bars_show_owners before after rows long same =
    let rs : List RangeChange = change_ranges before after in
    let cover : CoverAllSlots before after (change_ranges before after) = ranges_cover before after (long ∙ sym same) in
    let follow : Follow 0 16384 (change_ranges before after) =
    subst (λ end. Follow 0 end (change_ranges before after)) long cover.follow in (
      shown 0 (λ r. r.before) before rs follow (All-weaker (IsOwned before after)
          (λ r. (s : ℕ) → r.first ≤ s → s ≤ r.last → get_or before s 0 ≡ r.before)
          (λ r h s low high. (h s low high).0) rs cover.owned),
      shown (28 * rows + 150) (λ r. r.after) after rs follow (All-weaker (IsOwned before after)
          (λ r. (s : ℕ) → r.first ≤ s → s ≤ r.last → get_or after s 0 ≡ r.after)
          (λ r h s low high. (h s low high).1) rs cover.owned),
    )
