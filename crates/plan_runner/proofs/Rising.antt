-- Keys that rise.
use Rattle.std.proofs.Common.{◌≡◌, ℕ, zero, suc, ◌+◌, ◌-◌, ◌<◌, ◌≤◌, true, false, ◌&&◌, List, [], ◌∷◌, length, drop, slice_index_or, sym, refl, ap, subst, ◌∙◌, arith}
use Rattle.std.specs.Ordering.{is_lt}
use Rattle.cluster_admin.specs.Keys.{Key, order}
use Rattle.plan_runner.specs.Listings.{is_rising}

pub rising_end : (ks : List Key) (i : ℕ) → length ks ≤ suc i → is_rising (drop i ks) ≡ true
unfolding is_rising
rising_end [] zero h = refl
rising_end [] (suc i) h = refl
rising_end (k ∷ []) zero h = refl
rising_end (k ∷ (q ∷ ks)) zero h = absurd (many (length ks) h)
  where
    many : (n : ℕ) → suc (suc n) ≤ 1 → ⊥
    many n g = omega arith
rising_end (k ∷ ks) (suc i) h = rising_end ks i (less (length ks) i h)
  where
    less : (n i : ℕ) → suc n ≤ suc (suc i) → n ≤ suc i
    less n i g = omega arith

pub rising_whole : (ks : List Key) (i : ℕ) → 1 ≤ i → length ks ≤ i → is_rising (drop (i - 1) ks) ≡ true
rising_whole ks i some h = rising_end ks (i - 1) (omega arith)

rising_at : (ks : List Key) (d e : Key) (i : ℕ) → suc i < length ks → is_rising (drop i ks) ≡ (is_lt (order (slice_index_or ks i d) (slice_index_or ks (suc i) e)) && is_rising (drop (suc i) ks))
unfolding is_rising
rising_at [] d e i h = absurd (none i h)
  where
    none : (i : ℕ) → suc i < 0 → ⊥
    none i g = omega arith
rising_at (k ∷ []) d e zero h = absurd (one h)
  where
    one : 1 < 1 → ⊥
    one g = omega arith
rising_at (k ∷ (q ∷ ks)) d e zero h = refl
rising_at (k ∷ ks) d e (suc i) h = rising_at ks d e i (less (length ks) i h)
  where
    less : (n i : ℕ) → suc (suc i) < suc n → suc i < n
    less n i g = omega arith

before : (i : ℕ) → 1 ≤ i → suc (i - 1) ≡ i
before i h = omega arith

rising_before : (ks : List Key) (d e : Key) (i : ℕ) → 1 ≤ i → i < length ks → is_rising (drop (i - 1) ks) ≡ (is_lt (order (slice_index_or ks (i - 1) d) (slice_index_or ks i e)) && is_rising (drop i ks))
rising_before ks d e i some h = subst (λ j. is_rising (drop (i - 1) ks) ≡ (is_lt (order (slice_index_or ks (i - 1) d) (slice_index_or ks j e)) && is_rising (drop j ks))) (before i some)
    (rising_at ks d e (i - 1) (subst (λ j. j < length ks) (sym (before i some)) h))

pub rising_on : (ks : List Key) (d e : Key) (i : ℕ) → 1 ≤ i → i < length ks → is_lt (order (slice_index_or ks (i - 1) d) (slice_index_or ks i e)) ≡ true → is_rising (drop (i - 1) ks) ≡ is_rising (drop (i + 1 - 1) ks)
rising_on ks d e i some h f = rising_before ks d e i some h ∙ ap (λ b. b && is_rising (drop i ks)) f ∙ ap (λ j. is_rising (drop j ks)) (same i)
  where
    same : (i : ℕ) → i ≡ i + 1 - 1
    same i = omega arith

pub rising_not : (ks : List Key) (d e : Key) (i : ℕ) → 1 ≤ i → i < length ks → is_lt (order (slice_index_or ks (i - 1) d) (slice_index_or ks i e)) ≡ false → is_rising (drop (i - 1) ks) ≡ false
rising_not ks d e i some h f = rising_before ks d e i some h ∙ ap (λ b. b && is_rising (drop i ks)) f
