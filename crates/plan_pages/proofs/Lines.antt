-- Texts whose lines are narrow, part by part.
use Rattle.std.proofs.Common.{◌≡◌, ℕ, suc, ◌+◌, ◌<◌, ◌≤◌, Bool, true, false, cond, ◌||◌, eqb, List, [], ◌∷◌, ◌++◌}
use Rattle.std.proofs.Common.{length}
use Rattle.std.proofs.Common.{append_assoc, All, get_or, sym, refl, ap, ◌∙◌, subst, arith}
use Rattle.std.specs.List.{flat_map, list_any}
use Rattle.std.proofs.lemmas.Bool.{cases_Bool, or_parts}
use Rattle.std.proofs.lemmas.List.Elements.{All-head, All-tail}
use Rattle.plan_pages.specs.Widths.{IsNarrow, is_break}

module _ (w : ℕ) where
  -- the text stands after so many columns of a line, and no line is wider than w
  abbrev pub Fits : (column : ℕ) → List ℕ → Type 0
  Fits k [] = k ≤ w
  Fits k (c ∷ t) = (k ≤ w) × Fits (cond (is_break c) 0 (k + 1)) t

  within : (k : ℕ) (t : List ℕ) → Fits k t → k ≤ w
  within k [] h = h
  within k (c ∷ t) h = h.0

  fewer : (k j : ℕ) (t : List ℕ) → j ≤ k → Fits k t → Fits j t
  fewer k j [] le h = omega (arith, h)
  fewer k j (c ∷ t) le h =
      (omega (arith, h.0), by (is_break c) (λ f. fewer (k + 1) (j + 1) t (omega arith) f) h.1)
    where
      by : (b : Bool) → (Fits (k + 1) t → Fits (j + 1) t) → Fits (cond b 0 (k + 1)) t → Fits (cond b 0 (j + 1)) t
      by true f h = h
      by false f h = f h

  pub over : (p : List ℕ) (k : ℕ) (t : List ℕ) → Fits (k + length p) t → Fits k (p ++ t)
  over [] k t h = subst (λ j. Fits j t) (plus_none k) h
    where
      plus_none : (k : ℕ) → k + 0 ≡ k
      plus_none k = omega arith
  over (c ∷ p) k t h =
      let low : k + length (c ∷ p) ≤ w = within (k + length (c ∷ p)) t h in (
        omega arith,
        over p (cond (is_break c) 0 (k + 1)) t
            (fewer (k + length (c ∷ p)) (cond (is_break c) 0 (k + 1) + length p) t (less (is_break c)) h),
      )
    where
      less : (b : Bool) → cond b 0 (k + 1) + length p ≤ k + length (c ∷ p)
      less true = omega arith
      less false = omega arith

  -- ---- what that says of stretches

  behind : (p : List ℕ) (k : ℕ) (t : List ℕ) → Fits k (p ++ t) → (j : ℕ) × Fits j t
  behind [] k t h = (k, h)
  behind (c ∷ p) k t h = behind p (cond (is_break c) 0 (k + 1)) t h.1

  stretch : (line : List ℕ) (k : ℕ) (t : List ℕ) → Fits k (line ++ t) → list_any is_break line ≡ false
      → k + length line ≤ w
  stretch [] k t h none = let low : k ≤ w = within k t h in omega (arith, low)
  stretch (c ∷ line) k t h none =
      let p = or_parts (is_break c) (list_any is_break line) none in
      let rest : (k + 1) + length line ≤ w =
      stretch line (k + 1) t (subst (λ b. Fits (cond b 0 (k + 1)) (line ++ t)) p.0 h.1) p.1 in
      omega (arith, rest)

  pub are_narrow : (t : List ℕ) → Fits 0 t → IsNarrow w t
  are_narrow t h before line after is none =
      let p = behind before 0 (line ++ after) (subst (Fits 0) is h) in
      let all : p.0 + length line ≤ w = stretch line p.0 after p.1 none in
      omega (arith, all)

  -- ---- lines

  -- whole lines, none of which is wider
  pub record AreLines (t : List ℕ) : Type 0 where
    pub on : (rest : List ℕ) → Fits 0 rest → Fits 0 (t ++ rest)

  -- the rest of a line, of so many columns at most, and whole lines after it
  pub record Ends (columns : ℕ) (t : List ℕ) : Type 0 where
    pub on : (k : ℕ) (rest : List ℕ) → k + columns ≤ w → Fits 0 rest → Fits k (t ++ rest)

  pub no_lines : AreLines []
  no_lines = record { on = λ rest h. h }

  pub then_lines : {a b : List ℕ} → AreLines a → AreLines b → AreLines (a ++ b)
  then_lines {a} {b} f g = record {
    on = λ rest h. subst (Fits 0) (sym (append_assoc a b rest)) (f.on (b ++ rest) (g.on rest h));
  }

  pub each_line : {X : Type 0} (f : X → List ℕ) (xs : List X) → All (λ x. AreLines (f x)) xs → AreLines (flat_map f xs)
  each_line f [] all = no_lines
  each_line f (x ∷ xs) all =
      then_lines (All-head (λ y. AreLines (f y)) x xs all)
      (each_line f xs (All-tail (λ y. AreLines (f y)) x xs all))

  pub broken : {t : List ℕ} → AreLines t → Ends 0 (10 ∷ t)
  broken f = record { on = λ k rest le h. (omega (arith, le), f.on rest h) }

  pub blank : {t : List ℕ} → AreLines t → AreLines (10 ∷ t)
  blank f = record { on = λ rest h. (omega arith, f.on rest h) }

  pub put_before : (a : List ℕ) (m : ℕ) {n : ℕ} {t : List ℕ} → length a ≤ m → Ends n t → Ends (m + n) (a ++ t)
  put_before a m {n} {t} le f = record {
    on = λ k rest room h.
        subst (Fits k) (sym (append_assoc a t rest))
        (over a k (t ++ rest) (f.on (k + length a) rest (omega (arith, le, room)) h));
  }

  pub one_line : {n : ℕ} {t : List ℕ} → Ends n t → n ≤ w → AreLines t
  one_line f le = record { on = λ rest h. f.on 0 rest (omega (arith, le)) h }
