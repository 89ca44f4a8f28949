-- How many bytes pass a test before the first that does not, where 16 are looked at together.
use Rattle.std.proofs.Common.{◌≡◌, ℕ, ◌+◌, ◌-◌, ◌%◌, ◌^◌, ◌<◌, ◌≤◌, Bool, true, false, not, cond, nat_eq, nat_lt}
use Rattle.std.proofs.Common.{List, [], ◌∷◌, length, get_or, map, Fits, w8, refl, sym, ap, ap₂, subst, ◌∙◌, arith}
use Rattle.std.proofs.lemmas.Bool.{agree_below, agree_below_at}
use Rattle.std.proofs.lemmas.Bool.Decides.{nat_tests}
use Rattle.std.proofs.lemmas.List.{length-map}
use Rattle.std.proofs.lemmas.List.Sums.{prefix_len-le-length, prefix_len_is, prefix_len_passes, prefix_len_stops}
use Rattle.std.proofs.lemmas.Simd.{length-chunk, get_or-chunk, map-map, mask_l-mod}
use Rattle.std.specs.List.{prefix_len}
use lib.Lanes.{Each1, chunk, mask_l, top}

-- ---- from 16 bytes to all

-- the first n bytes pass
abbrev pub FirstPass : (p : ℕ → Bool) → ℕ → List ℕ → Type 0
FirstPass p n t = (k : ℕ) → k < n → p (get_or t k 0) ≡ true

passed : (p : ℕ → Bool) (t : List ℕ) (i r : ℕ) → i + 16 ≤ length t → r ≡ prefix_len p (chunk i 16 t) → FirstPass p i t
    → FirstPass p (i + r) t
passed p t i r room counted before k h = by (nat_lt k i) refl
  where
    by : (yes : Bool) → nat_lt k i ≡ yes → p (get_or t k 0) ≡ true
    by true e = before k (grind (arith, nat_tests))
    by false e =
        let from : i ≤ k = grind (arith, nat_tests) in
        let few : prefix_len p (chunk i 16 t) ≤ length (chunk i 16 t) = prefix_len-le-length p (chunk i 16 t) in
        let long : length (chunk i 16 t) ≡ 16 = length-chunk i 16 t room in
        let back : i + (k - i) ≡ k = omega arith in
        subst (λ x. p x ≡ true) (get_or-chunk i 16 t (k - i) 0 (omega arith) ∙ ap (λ j. get_or t j 0) back)
        (prefix_len_passes p (chunk i 16 t) (k - i) 0 (omega arith))

pub passed_all : (p : ℕ → Bool) (t : List ℕ) (i r : ℕ) → i + 16 ≤ length t → r ≡ prefix_len p (chunk i 16 t)
    → FirstPass p i t → 16 ≤ r → FirstPass p (i + 16) t
passed_all p t i r room counted before all k h = passed p t i r room counted before k (omega arith)

pub stopped : (p : ℕ → Bool) (t : List ℕ) (i r : ℕ) → i + 16 ≤ length t → r ≡ prefix_len p (chunk i 16 t)
    → FirstPass p i t → r < 16 → i + r ≡ prefix_len p t
stopped p t i r room counted before short =
    let long : length (chunk i 16 t) ≡ 16 = length-chunk i 16 t room in
    let there : get_or (chunk i 16 t) (prefix_len p (chunk i 16 t)) 0 ≡ get_or t (i + r) 0 =
    ap (λ j. get_or (chunk i 16 t) j 0) (sym counted) ∙ get_or-chunk i 16 t r 0 short in
    sym (prefix_len_is p t (i + r) 0 (omega arith) (passed p t i r room counted before)
    (λ h. subst (λ x. p x ≡ false) there (prefix_len_stops p (chunk i 16 t) 0 (omega arith))))

-- ---- from the mask of 16 bytes to their number

pub not_escaped : (p : ℕ → Bool) (t : List ℕ) → prefix_len (λ b. not (not (p b))) t ≡ prefix_len p t
not_escaped p [] = refl
not_escaped p (b ∷ t) = by (p b) (not_escaped p t)
  where
    by : (yes : Bool) → prefix_len (λ x. not (not (p x))) t ≡ prefix_len p t
        → cond (not (not yes)) (1 + prefix_len (λ x. not (not (p x))) t) 0 ≡ cond yes (1 + prefix_len p t) 0
    by true e = ap (λ n. 1 + n) e
    by false e = refl

-- what a comparison gives for a lane
abbrev pub lane_below : ℕ → ℕ → ℕ
lane_below a b = cond (nat_lt a b) 255 0

abbrev pub lane_equal : ℕ → ℕ → ℕ
lane_equal a b = cond (nat_eq a b) 255 0

each_byte : (f p : ℕ → Bool) → agree_below f p 256 ≡ true → (v : List ℕ) → Each1 (Fits w8) v → map f v ≡ map p v
each_byte f p all [] fits = refl
each_byte f p all (b ∷ v) fits =
    ap₂ (λ a r. a ∷ r) (agree_below_at f p 256 b all fits.0.fits) (each_byte f p all v fits.1)

-- the mask z that was computed byte by byte has the bits of those that pass, where it does at each of the 256 bytes
pub masked : (p : ℕ → Bool) (f : ℕ → ℕ) (v z : List ℕ) → length v ≡ 16 → Each1 (Fits w8) v → z ≡ map f v
    → agree_below (λ b. top 7 (f b)) p 256 ≡ true → mask_l (map (top 7) z) % 2 ^ 64 ≡ mask_l (map p v)
masked p f v z long fits computed all =
    let tops : map (top 7) z ≡ map p v =
    ap (map (top 7)) computed ∙ map-map (top 7) f v ∙ each_byte (λ b. top 7 (f b)) p all v fits in
    ap (λ l. mask_l l % 2 ^ 64) tops ∙ mask_l-mod (map p v) 64 (omega (arith, length-map v p))
