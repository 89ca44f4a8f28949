-- The ranges of a list of owners are the longest.
use Rattle.std.proofs.Common.{◌≡◌, ◌≢◌, ℕ, suc, ◌+◌, ◌<◌, ◌≤◌, inl, inr, true, false, cond, List, [], ◌∷◌, length, get_or, nat_eq, ap, refl, sym, subst, ◌∙◌, arith}
use Rattle.std.proofs.lemmas.Bool.Decides.{nat_tests}
use Rattle.std.proofs.lemmas.List.Elements.{All-from_recursion}
use Rattle.std.specs.List.{AllByRecursion}
use Rattle.std.proofs.lemmas.Bool.{cases_lt}
use Rattle.key_slots.specs.declared.slot_range.SlotRange.{SlotRange}
use Rattle.key_slots.specs.Ranges.{BeginsOther, Follow, IsOwned, RangesAreLongest, in_front, owner_ranges, ranges_from}

same_owner : (a b : ℕ) → nat_eq a b ≡ true → a ≡ b
same_owner a b e = grind (arith, nat_tests)

other_owner : (a b : ℕ) → nat_eq a b ≡ false → a ≢ b
other_owner a b e = grind (arith, nat_tests)

begins_other : (a b : ℕ) (rs : List SlotRange) → a ≡ b → BeginsOther b rs → BeginsOther a rs
begins_other a b rs e h = subst (λ c. BeginsOther c rs) (sym e) h

front_follows : (r : SlotRange) (from end : ℕ) (rs : List SlotRange) → r.first ≡ from → r.first ≤ r.last → Follow (r.last + 1) end rs → Follow from end (in_front r rs)
front_follows r from end [] at le h = (at, le, tt, h)
front_follows r from end (q ∷ rs) at le h =
    elim (nat_eq r.owner q.owner) as (λ b. nat_eq r.owner q.owner ≡ b → Follow from end (cond b (record r { last = q.last } ∷ rs) (r ∷ (q ∷ rs)))) [
      | true ↦ λ e. (at, longer h.0 h.1, begins_other r.owner q.owner rs (same_owner _ _ e) h.2, h.3)
      | false ↦ λ e. (at, le, other_owner _ _ e, h)
    ] refl
  where
    longer : q.first ≡ r.last + 1 → q.first ≤ q.last → r.first ≤ q.last
    longer a b = omega arith

follows : (from : ℕ) (owners : List ℕ) → Follow from (from + length owners) (ranges_from from owners)
follows from [] = omega arith
follows from (n ∷ ns) =
    let same : (from + 1) + length ns ≡ from + length (n ∷ ns) = omega arith in
    front_follows (record { first = from; last = from; owner = n }) from (from + length (n ∷ ns)) (ranges_from (from + 1) ns) refl (omega arith)
    (subst (λ end. Follow (from + 1) end (ranges_from (from + 1) ns)) same (follows (from + 1) ns))

-- all slots of the range have its owner, where w gives the owner of a slot
abbrev Owned : (ℕ → ℕ) → SlotRange → Type 0
Owned w r = (s : ℕ) → r.first ≤ s → s ≤ r.last → w s ≡ r.owner

joined : (w : ℕ → ℕ) (r q : SlotRange) → r.owner ≡ q.owner → q.first ≡ r.last + 1 → Owned w r → Owned w q → Owned w (record r { last = q.last })
joined w r q e next mine its s from to =
    elim (cases_lt r.last s) [
      | inl high ↦ let first : q.first ≤ s = omega arith in its s first to ∙ sym e
      | inr low ↦ mine s from low
    ]

front_owned : (w : ℕ → ℕ) (r : SlotRange) (end : ℕ) (rs : List SlotRange) → Owned w r → Follow (r.last + 1) end rs → AllByRecursion (Owned w) rs → AllByRecursion (Owned w) (in_front r rs)
front_owned w r end [] mine h all = (mine, tt)
front_owned w r end (q ∷ rs) mine h all =
    elim (nat_eq r.owner q.owner) as (λ b. nat_eq r.owner q.owner ≡ b → AllByRecursion (Owned w) (cond b (record r { last = q.last } ∷ rs) (r ∷ (q ∷ rs)))) [
      | true ↦ λ e. (joined w r q (same_owner _ _ e) h.0 mine all.0, all.1)
      | false ↦ λ e. (mine, all)
    ] refl

owned : (w : ℕ → ℕ) (from : ℕ) (owners : List ℕ) → ((i : ℕ) → i < length owners → w (from + i) ≡ get_or owners i 0) → AllByRecursion (Owned w) (ranges_from from owners)
owned w from [] is = tt
owned w from (n ∷ ns) is =
    front_owned w (record { first = from; last = from; owner = n }) ((from + 1) + length ns) (ranges_from (from + 1) ns) alone (follows (from + 1) ns) (owned w (from + 1) ns later)
  where
    alone : Owned w (record { first = from; last = from; owner = n })
    alone s low high =
        let at : s ≡ from + 0 = omega arith in
        ap w at ∙ is 0 (omega arith)

    later : (i : ℕ) → i < length ns → w ((from + 1) + i) ≡ get_or ns i 0
    later i lt =
        let at : (from + 1) + i ≡ from + suc i = omega arith in
        ap w at ∙ is (suc i) (omega arith)

zero_add : (i : ℕ) → 0 + i ≡ i
zero_add i = omega arith

pub ranges_are_longest : RangesAreLongest
unfolding owner_ranges
ranges_are_longest owners = record {
  follow = subst (λ end. Follow 0 end (ranges_from 0 owners)) (zero_add (length owners)) (follows 0 owners);
  owned = All-from_recursion (IsOwned owners) (ranges_from 0 owners) (owned (λ s. get_or owners s 0) 0 owners (λ i lt. ap (λ s. get_or owners s 0) (zero_add i)));
}
