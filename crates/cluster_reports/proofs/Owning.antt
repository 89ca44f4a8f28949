-- A node owns a slot where one of the ranges is its own.
use Rattle.std.proofs.Common.{◌≡◌, ℕ, ◌+◌, Bool, true, false, cond, ◌||◌, ◌==◌, List, [], ◌∷◌, map, nat_eq}
use Rattle.std.proofs.Common.{add-one}
use Rattle.std.proofs.Common.{refl, sym, ap, ◌∙◌, arith}
use Rattle.std.proofs.lemmas.Bool.Decides.{nat_tests}
use Rattle.std.specs.List.{list_any}
use Rattle.key_slots.specs.declared.slot_range.SlotRange.{SlotRange}
use Rattle.key_slots.specs.Ranges.{in_front, owner_ranges, ranges_from, start_of, starts_of}
use Rattle.cluster_reports.specs.StateLines.{owners_below, owns}

abbrev pub is_of : ℕ → (ℕ × ℕ) → Bool
is_of n s = s.1 == n

same_owner : (a b : ℕ) → nat_eq a b ≡ true → a ≡ b
same_owner a b e = grind (arith, nat_tests)

twice : (b x : Bool) → (b || x) ≡ (b || (b || x))
twice true x = refl
twice false x = refl

any_front : (n : ℕ) (r : SlotRange) (rs : List SlotRange)
    → list_any (is_of n) (map start_of (in_front r rs)) ≡ ((r.owner == n) || list_any (is_of n) (map start_of rs))
any_front n r [] = refl
any_front n r (q ∷ rs) =
    let rest = list_any (is_of n) (map start_of rs) in
    elim (nat_eq r.owner q.owner) as (λ b. nat_eq r.owner q.owner ≡ b
    → list_any (is_of n) (map start_of (cond b (record r { last = q.last } ∷ rs) (r ∷ (q ∷ rs))))
    ≡ ((r.owner == n) || ((q.owner == n) || rest))) [
      | true ↦ λ e. twice (r.owner == n) rest
          ∙ ap (λ o. (r.owner == n) || ((o == n) || rest)) (same_owner r.owner q.owner e)
      | false ↦ λ e. refl
    ] refl

any_ranges : (n from : ℕ) (owners : List ℕ)
    → list_any (is_of n) (map start_of (ranges_from from owners)) ≡ owns owners n
any_ranges n from [] = refl
any_ranges n from (o ∷ os) =
    any_front n (record { first = from; last = from; owner = o }) (ranges_from (from + 1) os)
    ∙ ap (λ b. (o == n) || b) (any_ranges n (from + 1) os)

pub any_start : (n : ℕ) (owners : List ℕ) → list_any (is_of n) (starts_of owners) ≡ owns owners n
unfolding owner_ranges
any_start n owners = any_ranges n 0 owners

-- one node more
pub one_owner : (owners : List ℕ) (i m count one : ℕ) (b : Bool) → m ≡ i → count ≡ owners_below owners i
    → one ≡ cond b 1 0 → b ≡ list_any (is_of m) (starts_of owners) → count + one ≡ owners_below owners (i + 1)
one_owner owners i m count one b same before is test =
    let own : b ≡ owns owners i = test ∙ any_start m owners ∙ ap (owns owners) same in
    ap (λ k. k + one) before
    ∙ ap (λ k. owners_below owners i + k) (is ∙ ap (λ t. cond t 1 0) own)
    ∙ sym (ap (owners_below owners) (add-one i))
