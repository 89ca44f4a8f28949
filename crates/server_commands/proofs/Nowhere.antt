-- A password that has no star stands nowhere in a text whose passwords are hidden.
use Rattle.std.proofs.Common.{◌≡◌, ◌∙◌, ℕ, zero, suc, ◌-◌, ◌==◌, Bool, true, false, cond, not, ◌&&◌, List, [], ◌∷◌, ◌++◌}
use Rattle.std.proofs.Common.{length, codes, refl, sym, ap, subst, arith, ne_eqb}
use Rattle.std.proofs.lemmas.Bool.Decides.{Decides-eqb}
use Rattle.server_commands.specs.NamedErrors.{starts}
use Rattle.server_commands.specs.Telling.{HidesPasswords, has_no_star, hide}

first_same : (a b : ℕ) (s t : List ℕ) → a ∷ s ≡ b ∷ t → a ≡ b
first_same a b s t e = cc

rest_same : (a b : ℕ) (s t : List ℕ) → a ∷ s ≡ b ∷ t → s ≡ t
rest_same a b s t e = cc

not_both : (b : Bool) → b ≡ true → b ≡ false → ⊥
not_both b is other = cc

both : (a b : Bool) → (a && b) ≡ true → (a ≡ true) × (b ≡ true)
both true b e = (refl, e)
both false b e = absurd (not_both false e refl)

joined : (a b : Bool) → a ≡ true → b ≡ true → (a && b) ≡ true
joined true b is e = e
joined false b is e = absurd (not_both false is refl)

none_star : (x : ℕ) (p : List ℕ) → has_no_star (x ∷ p) ≡ true → 42 ≡ x → ⊥
none_star x p free is =
    let apart : not (x == 42) ≡ true = (both (not (x == 42)) (has_no_star p) free).0 in
    let same : (x == 42) ≡ true = (Decides-eqb x 42).1 (sym is) in
    not_both (not (x == 42)) apart (ap not same)

-- a text begins with itself
begins_with : (p back : List ℕ) → starts p (p ++ back) ≡ true
begins_with [] back = refl
begins_with (x ∷ p) back = joined (x == x) (starts p (p ++ back)) ((Decides-eqb x x).1 refl) (begins_with p back)

-- what has no star, and begins what is left of a text, begins the text
seen_before : (p q t : List ℕ) → has_no_star q ≡ true → starts q (hide p 0 t) ≡ true → starts q t ≡ true
seen_before p [] t free begins = refl
seen_before p (x ∷ q) [] free begins = begins
seen_before p (x ∷ q) (b ∷ t) free begins =
    by_test (starts p (b ∷ t)) begins (seen_before p q t (both (not (x == 42)) (has_no_star q) free).1)
  where
    by_test : (is : Bool) → starts (x ∷ q) (cond is (codes "***" ++ hide p (length p - 1) t) (b ∷ hide p 0 t)) ≡ true
        → (starts q (hide p 0 t) ≡ true → starts q t ≡ true) → starts (x ∷ q) (b ∷ t) ≡ true
    by_test true begun later =
        absurd (none_star x q free ((Decides-eqb 42 x).0
        (both (42 == x) (starts q (42 ∷ 42 ∷ hide p (length p - 1) t)) begun).0))
    by_test false begun later =
        let parts = both (b == x) (starts q (hide p 0 t)) begun in
        joined (b == x) (starts q t) parts.0 (later parts.1)

-- behind stars
behind_stars : (x : ℕ) (p rest front back : List ℕ) → has_no_star (x ∷ p) ≡ true
    → ((front : List ℕ) → rest ≡ front ++ ((x ∷ p) ++ back) → ⊥)
    → codes "***" ++ rest ≡ front ++ ((x ∷ p) ++ back) → ⊥
behind_stars x p rest [] back free later e = none_star x p free (first_same 42 x (42 ∷ 42 ∷ rest) (p ++ back) e)
behind_stars x p rest (a ∷ []) back free later e =
    none_star x p free (first_same 42 x (42 ∷ rest) (p ++ back) (rest_same 42 a (42 ∷ 42 ∷ rest) ((x ∷ p) ++ back) e))
behind_stars x p rest (a ∷ (b ∷ [])) back free later e =
    none_star x p free (first_same 42 x rest (p ++ back)
    (rest_same 42 b (42 ∷ rest) ((x ∷ p) ++ back) (rest_same 42 a (42 ∷ 42 ∷ rest) (b ∷ ((x ∷ p) ++ back)) e)))
behind_stars x p rest (a ∷ (b ∷ (c ∷ front))) back free later e =
    later front (rest_same 42 c rest (front ++ ((x ∷ p) ++ back))
    (rest_same 42 b (42 ∷ rest) (c ∷ (front ++ ((x ∷ p) ++ back)))
    (rest_same 42 a (42 ∷ 42 ∷ rest) (b ∷ (c ∷ (front ++ ((x ∷ p) ++ back)))) e)))

-- at a byte where it does not stand
at_another : (x b : ℕ) (p t front back : List ℕ) → has_no_star (x ∷ p) ≡ true → starts (x ∷ p) (b ∷ t) ≡ false
    → ((front : List ℕ) → hide (x ∷ p) 0 t ≡ front ++ ((x ∷ p) ++ back) → ⊥)
    → b ∷ hide (x ∷ p) 0 t ≡ front ++ ((x ∷ p) ++ back) → ⊥
at_another x b p t [] back free not_here later e =
    let same : b ≡ x = first_same b x (hide (x ∷ p) 0 t) (p ++ back) e in
    let rest : hide (x ∷ p) 0 t ≡ p ++ back = rest_same b x (hide (x ∷ p) 0 t) (p ++ back) e in
    let begun : starts p (hide (x ∷ p) 0 t) ≡ true = subst (λ (s : List ℕ). starts p s ≡ true) (sym rest) (begins_with p back) in
    let seen : starts p t ≡ true = seen_before (x ∷ p) p t (both (not (x == 42)) (has_no_star p) free).1 begun in
    not_both (starts (x ∷ p) (b ∷ t)) (joined (b == x) (starts p t) ((Decides-eqb b x).1 same) seen) not_here
at_another x b p t (a ∷ front) back free not_here later e =
    later front (rest_same b a (hide (x ∷ p) 0 t) (front ++ ((x ∷ p) ++ back)) e)

no_room : (x : ℕ) (p front back : List ℕ) → [] ≡ front ++ ((x ∷ p) ++ back) → ⊥
no_room x p [] back e = cc
no_room x p (a ∷ front) back e = cc

nowhere : (x : ℕ) (p : List ℕ) (k : ℕ) (t front back : List ℕ) → has_no_star (x ∷ p) ≡ true
    → hide (x ∷ p) k t ≡ front ++ ((x ∷ p) ++ back) → ⊥
nowhere x p k [] front back free e = no_room x p front back e
nowhere x p (suc k) (b ∷ t) front back free e = nowhere x p k t front back free e
nowhere x p zero (b ∷ t) front back free e =
    by_test (starts (x ∷ p) (b ∷ t)) refl e (λ before same. nowhere x p (length (x ∷ p) - 1) t before back free same)
    (λ before same. nowhere x p 0 t before back free same)
  where
    by_test : (is : Bool) → starts (x ∷ p) (b ∷ t) ≡ is
        → cond is (codes "***" ++ hide (x ∷ p) (length (x ∷ p) - 1) t) (b ∷ hide (x ∷ p) 0 t) ≡ front ++ ((x ∷ p) ++ back)
        → ((before : List ℕ) → hide (x ∷ p) (length (x ∷ p) - 1) t ≡ before ++ ((x ∷ p) ++ back) → ⊥)
        → ((before : List ℕ) → hide (x ∷ p) 0 t ≡ before ++ ((x ∷ p) ++ back) → ⊥) → ⊥
    by_test true is same behind beside = behind_stars x p (hide (x ∷ p) (length (x ∷ p) - 1) t) front back free behind same
    by_test false is same behind beside = at_another x b p t front back free is beside same

pub hides_passwords : HidesPasswords
hides_passwords [] t some free front back e = absurd (omega arith)
hides_passwords (x ∷ p) t some free front back e =
    let none_lacks : (length (x ∷ p) == 0) ≡ false = ne_eqb (length (x ∷ p)) 0 (λ empty. absurd (omega arith)) in
    nowhere x p 0 t front back free (sym (ap (λ b. cond b t (hide (x ∷ p) 0 t)) none_lacks) ∙ e)
