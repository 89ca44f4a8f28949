-- How many slots stand open after one command more.
use Rattle.std.proofs.Common.{◌≡◌, ℕ, zero, suc, ◌+◌, ◌<◌, ◌≤◌, cond, not, inl, inr, ◌⊎◌, List, eqb, get_or, length}
use Rattle.std.proofs.Common.{max, replicate, take, ap, refl, sym, subst, ◌∙◌, arith, length-set}
use Rattle.std.proofs.lemmas.Bool.{cases_lt}
use Rattle.std.proofs.lemmas.List.{length-replicate}
use Rattle.std.proofs.lemmas.List.Sums.{sum_by-cons}
use Rattle.plan_language.specs.declared.plan_command.PlanCommand.{PlanCommand}
use Rattle.plan_changes.specs.Opening.{IsMost, IsMostCounted, counted_at, left_after, lefts_after, lefts_of, no_lefts}
use Rattle.plan_changes.specs.Opening.{open_in}
use Rattle.plan_semantics.specs.Plans.{slot_named}
use Rattle.plan_changes.proofs.Walks.{walk_more}

-- one where commands are left
abbrev pub opens : ℕ → ℕ
opens k = cond (not (eqb k 0)) 1 0

most_more : (n : ℕ) (cs : List PlanCommand) (i most opened new : ℕ) → opened ≡ counted_at n cs (i + 1)
    → new ≡ max most opened → IsMost (counted_at n cs) i most → IsMost (counted_at n cs) (i + 1) new
most_more n cs i most opened new is e h =
    (λ place le. above place le (cases_lt i place), reached (cases_lt most opened))
  where
    above : (place : ℕ) → place ≤ i + 1 → (i < place) ⊎ (place ≤ i) → counted_at n cs place ≤ new
    above place le (inl high) =
        let at : place ≡ i + 1 = omega (arith, le, high) in
        let same : counted_at n cs place ≡ counted_at n cs (i + 1) = ap (counted_at n cs) at in
        omega (arith, same, is, e)
    above place le (inr low) = let b = h.0 place low in omega (arith, b, e)

    reached : (most < opened) ⊎ (opened ≤ most) → (place : ℕ) × (place ≤ i + 1) × (new ≡ counted_at n cs place)
    reached (inl high) = let r : new ≡ opened = omega (arith, e, high) in (i + 1, omega arith, r ∙ is)
    reached (inr low) = let r : new ≡ most = omega (arith, e, low) in (h.1.0, omega (arith, h.1.1), r ∙ h.1.2)

none_open : (k : ℕ) → open_in (replicate k 0) ≡ 0
none_open zero = refl
none_open (suc k) =
    let first : open_in (replicate (suc k) 0) ≡ opens 0 + open_in (replicate k 0) =
    sum_by-cons opens 0 (replicate k 0) in
    let none : opens 0 ≡ 0 = refl in
    omega (arith, first, none, none_open k)

pub none_is : no_lefts ≡ replicate 16384 0
unfolding no_lefts
none_is = refl

none_open_at : open_in no_lefts ≡ 0
none_open_at = ap open_in none_is ∙ none_open 16384

pub none_wide : length no_lefts ≡ 16384
none_wide = ap length none_is ∙ length-replicate {A = ℕ} 16384 0

-- after the first i commands the table stands so
pub record Standing (n : ℕ) (cs : List PlanCommand) (i : ℕ) (lefts : List ℕ) (opened most : ℕ) : Type 0 where
  pub wide : length lefts ≡ 16384
  pub are : lefts ≡ lefts_of n (take i cs)
  pub stands : opened ≡ open_in lefts
  pub greatest : IsMost (counted_at n cs) i most

pub standing_none : (n : ℕ) (cs : List PlanCommand) (lefts : List ℕ) → lefts ≡ replicate 16384 0
    → Standing n cs 0 lefts 0 0
standing_none n cs lefts is =
    let same : lefts ≡ no_lefts = is ∙ sym none_is in
    record {
      wide = ap length same ∙ none_wide;
      are = same;
      stands = sym (ap open_in same ∙ none_open_at);
      greatest = (λ place le. at place le, (0, omega arith, sym none_open_at));
    }
  where
    at : (place : ℕ) → place ≤ 0 → counted_at n cs place ≤ 0
    at place le =
        let first : place ≡ 0 = omega (arith, le) in
        let same : counted_at n cs place ≡ 0 = ap (counted_at n cs) first ∙ none_open_at in
        omega (arith, same)

pub standing_more : (n : ℕ) (cs : List PlanCommand) (i : ℕ) (c : PlanCommand) (lefts new : List ℕ)
    (opened most result greater : ℕ)
    → i < length cs → c ≡ get_or cs i c → new ≡ lefts_after n lefts c → result ≡ open_in new
    → greater ≡ max most result → Standing n cs i lefts opened most → Standing n cs (i + 1) new result greater
standing_more n cs i c lefts new opened most result greater lt at is r g h =
    let now : new ≡ lefts_of n (take (i + 1) cs) = walk_more (lefts_after n) no_lefts cs i c lefts new lt at h.are is in
    record {
      wide = ap length is ∙ length-set lefts (slot_named c) (left_after n (get_or lefts (slot_named c) 0) c) ∙ h.wide;
      are = now;
      stands = r;
      greatest = most_more n cs i most result greater (r ∙ ap open_in now) g h.greatest;
    }

pub standing_all : (n : ℕ) (cs : List PlanCommand) (i : ℕ) (lefts : List ℕ) (opened most : ℕ) → i ≡ length cs
    → Standing n cs i lefts opened most → IsMostCounted n cs most
standing_all n cs i lefts opened most past h = subst (λ k. IsMost (counted_at n cs) k most) past h.greatest
