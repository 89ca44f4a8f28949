-- The ranges, from the last slot down.
use Rattle.std.proofs.Common.{◌≡◌, ℕ, ◌+◌, ◌≤◌, List, [], ◌∷◌, ◌++◌, length, get_or, drop, reverse, ap, sym, ◌∙◌, arith}
use Rattle.std.proofs.lemmas.List.{drop_more, drop_all, reverse-append}
use Rattle.plan_outlines.specs.declared.ranges.RangeChange.{RangeChange}
use Rattle.plan_outlines.specs.Changes.{alone, change_ranges, changes_from}

pub last_alone : (before after : List ℕ) (n : ℕ) (first : RangeChange) (later : List RangeChange) → length before ≡ n + 1 → length after ≡ n + 1 → later ≡ [] → first ≡ alone n (get_or before n 0) (get_or after n 0) → first ∷ reverse later ≡ changes_from n (drop n before) (drop n after)
last_alone before after n first later lb la none is =
    let b : drop n before ≡ get_or before n 0 ∷ [] = drop_more before n 0 (omega arith) ∙ ap (λ xs. get_or before n 0 ∷ xs) (drop_all (n + 1) before (omega arith)) in
    let a : drop n after ≡ get_or after n 0 ∷ [] = drop_more after n 0 (omega arith) ∙ ap (λ xs. get_or after n 0 ∷ xs) (drop_all (n + 1) after (omega arith)) in
    ap (λ xs. first ∷ reverse xs) none ∙ ap (λ r. r ∷ []) is
    ∙ sym (ap (λ xs. changes_from n xs (drop n after)) b ∙ ap (λ xs. changes_from n (get_or before n 0 ∷ []) xs) a)

pub all_ranges : (before after : List ℕ) (n : ℕ) (first : RangeChange) (later pushed result : List RangeChange) → n ≤ 0 → first ∷ reverse later ≡ changes_from n (drop n before) (drop n after) → pushed ≡ later ++ first ∷ [] → result ≡ reverse pushed → result ≡ change_ranges before after
unfolding change_ranges
all_ranges before after n first later pushed result none is p r =
    let zero_now : n ≡ 0 = omega arith in
    r ∙ ap reverse p ∙ reverse-append later (first ∷ []) ∙ is ∙ ap (λ k. changes_from k (drop k before) (drop k after)) zero_now
