-- The forms of lines.
use Rattle.std.proofs.Common.{◌≡◌, ◌<◌, ◌≤◌, ℕ, suc, Bool, true, false, List, [], ◌∷◌, ◌++◌, length, map, get_or, ap, ◌∙◌, Result, Ok, Err, refl, arith, Bor}
use Rattle.script_lines.specs.declared.fault.ScriptFault.TheVariants as fault
use Rattle.std.specs.Prelude.{codes, nat_lt}
use Rattle.std.proofs.lemmas.Bool.{true≢false}
use Rattle.script_lines.specs.declared.fault.ScriptFault.{ScriptFault}
use Rattle.script_lines.specs.declared.fault.Halt.{Halt}
use Rattle.script_lines.specs.Faults.{after, IsHaltOf}
use Rattle.script_lines.specs.Words.{stands_for}
use Rattle.script_lines.specs.Forms.{setting_form, setting_command, stable_form, stable_command, getkeysinslot_form, listing_command, texts, cluster_form}
use Rattle.script_lines.proofs.Halting.{halts_after}

abbrev pub nows : List (Bor (List ℕ)) → List (List ℕ)
nows ws = map (λ w. w.now) ws

abbrev pub Joined : (all rest : List (Bor (List ℕ))) → (done : List (List ℕ)) → Type 0
Joined all rest done = after (texts (nows rest)) (λ ts. Ok (done ++ ts)) ≡ texts (nows all)

pub setting_short : (nodes : ℕ) (ws : List (Bor (List ℕ))) → nat_lt (length ws) 5 ≡ true → setting_form nodes (nows ws) ≡ Err fault.Verb
setting_short nodes [] h = refl
setting_short nodes (a ∷ []) h = refl
setting_short nodes (a ∷ b ∷ []) h = refl
setting_short nodes (a ∷ b ∷ c ∷ []) h = refl
setting_short nodes (a ∷ b ∷ c ∷ d ∷ []) h = refl
setting_short nodes (a ∷ b ∷ c ∷ d ∷ e ∷ ws) h = absurd (none (length ws) h)
  where
    none : (n : ℕ) → nat_lt (suc (suc (suc (suc (suc n))))) 5 ≡ true → ⊥
    none n g = grind arith

pub setting_long : (nodes : ℕ) (ws : List (Bor (List ℕ))) → nat_lt (length ws) 6 ≡ false → setting_form nodes (nows ws) ≡ Err fault.Verb
setting_long nodes [] h = refl
setting_long nodes (a ∷ []) h = refl
setting_long nodes (a ∷ b ∷ []) h = refl
setting_long nodes (a ∷ b ∷ c ∷ []) h = refl
setting_long nodes (a ∷ b ∷ c ∷ d ∷ []) h = refl
setting_long nodes (a ∷ b ∷ c ∷ d ∷ e ∷ []) h = absurd (true≢false h)
setting_long nodes (a ∷ b ∷ c ∷ d ∷ e ∷ f ∷ ws) h = refl

same : (b c : Bool) → ◌≡◌ {A = Result Bool ScriptFault} (Ok b) (Ok c) → c ≡ true → b ≡ true
same b c e f = ap of e ∙ f
  where
    of : Result Bool ScriptFault → Bool
    of (Ok x) = x
    of (Err g) = b

pub listing_halts : (nodes : ℕ) (ws : List (Bor (List ℕ))) (d : Bor (List ℕ)) (h : Halt) (c : Bool) → 4 ≤ length ws → length ws < 5
    → ◌≡◌ {A = Result Bool ScriptFault} (Ok (stands_for (codes "at") (get_or ws 2 d).now)) (Ok c) → c ≡ true
    → IsHaltOf (listing_command (get_or ws 0 d).now (get_or ws 1 d).now) h → IsHaltOf (getkeysinslot_form nodes (nows ws)) h
listing_halts nodes [] d h c m l e f g = absurd (none m)
  where
    none : 4 ≤ 0 → ⊥
    none g = omega arith
listing_halts nodes (x ∷ []) d h c m l e f g = absurd (none m)
  where
    none : 4 ≤ 1 → ⊥
    none g = omega arith
listing_halts nodes (x ∷ y ∷ []) d h c m l e f g = absurd (none m)
  where
    none : 4 ≤ 2 → ⊥
    none g = omega arith
listing_halts nodes (x ∷ y ∷ z ∷ []) d h c m l e f g = absurd (none m)
  where
    none : 4 ≤ 3 → ⊥
    none g = omega arith
listing_halts nodes (x ∷ y ∷ z ∷ v ∷ []) d h c m l e f g = rw (same _ c e f) (halts_after (listing_command x.now y.now) _ h g)
listing_halts nodes (x ∷ y ∷ z ∷ v ∷ u ∷ ws) d h c m l e f g = absurd (none (length ws) l)
  where
    none : (n : ℕ) → suc (suc (suc (suc (suc n)))) < 5 → ⊥
    none n g = omega arith

pub stable_short : (nodes : ℕ) (ws : List (Bor (List ℕ))) → nat_lt (length ws) 4 ≡ true → stable_form nodes (nows ws) ≡ Err fault.Verb
stable_short nodes [] h = refl
stable_short nodes (a ∷ []) h = refl
stable_short nodes (a ∷ b ∷ []) h = refl
stable_short nodes (a ∷ b ∷ c ∷ []) h = refl
stable_short nodes (a ∷ b ∷ c ∷ d ∷ ws) h = absurd (none (length ws) h)
  where
    none : (n : ℕ) → nat_lt (suc (suc (suc (suc n)))) 4 ≡ true → ⊥
    none n g = grind arith

pub stable_long : (nodes : ℕ) (ws : List (Bor (List ℕ))) → nat_lt (length ws) 5 ≡ false → stable_form nodes (nows ws) ≡ Err fault.Verb
stable_long nodes [] h = refl
stable_long nodes (a ∷ []) h = refl
stable_long nodes (a ∷ b ∷ []) h = refl
stable_long nodes (a ∷ b ∷ c ∷ []) h = refl
stable_long nodes (a ∷ b ∷ c ∷ d ∷ []) h = absurd (true≢false h)
stable_long nodes (a ∷ b ∷ c ∷ d ∷ e ∷ ws) h = refl

pub stable_halts : (nodes : ℕ) (ws : List (Bor (List ℕ))) (d : Bor (List ℕ)) (h : Halt) → 4 ≤ length ws → length ws < 5
    → IsHaltOf (stable_command (get_or ws 0 d).now (get_or ws 1 d).now (get_or ws 2 d).now) h → IsHaltOf (stable_form nodes (nows ws)) h
stable_halts nodes [] d h m l g = absurd (none m)
  where
    none : 4 ≤ 0 → ⊥
    none g = omega arith
stable_halts nodes (x ∷ []) d h m l g = absurd (none m)
  where
    none : 4 ≤ 1 → ⊥
    none g = omega arith
stable_halts nodes (x ∷ y ∷ []) d h m l g = absurd (none m)
  where
    none : 4 ≤ 2 → ⊥
    none g = omega arith
stable_halts nodes (x ∷ y ∷ z ∷ []) d h m l g = absurd (none m)
  where
    none : 4 ≤ 3 → ⊥
    none g = omega arith
stable_halts nodes (x ∷ y ∷ z ∷ v ∷ []) d h m l g = halts_after (stable_command x.now y.now z.now) _ h g
stable_halts nodes (x ∷ y ∷ z ∷ v ∷ u ∷ ws) d h m l g = absurd (none (length ws) l)
  where
    none : (n : ℕ) → suc (suc (suc (suc (suc n)))) < 5 → ⊥
    none n g = omega arith

pub setting_halts : (nodes : ℕ) (ws : List (Bor (List ℕ))) (d : Bor (List ℕ)) (h : Halt) → 5 ≤ length ws → length ws < 6
    → IsHaltOf (setting_command (get_or ws 0 d).now (get_or ws 1 d).now (get_or ws 2 d).now (get_or ws 3 d).now) h → IsHaltOf (setting_form nodes (nows ws)) h
setting_halts nodes [] d h m l g = absurd (none m)
  where
    none : 5 ≤ 0 → ⊥
    none g = omega arith
setting_halts nodes (x ∷ []) d h m l g = absurd (none m)
  where
    none : 5 ≤ 1 → ⊥
    none g = omega arith
setting_halts nodes (x ∷ y ∷ []) d h m l g = absurd (none m)
  where
    none : 5 ≤ 2 → ⊥
    none g = omega arith
setting_halts nodes (x ∷ y ∷ z ∷ []) d h m l g = absurd (none m)
  where
    none : 5 ≤ 3 → ⊥
    none g = omega arith
setting_halts nodes (x ∷ y ∷ z ∷ v ∷ []) d h m l g = absurd (none m)
  where
    none : 5 ≤ 4 → ⊥
    none g = omega arith
setting_halts nodes (x ∷ y ∷ z ∷ v ∷ u ∷ []) d h m l g = halts_after (setting_command x.now y.now z.now v.now) _ h g
setting_halts nodes (x ∷ y ∷ z ∷ v ∷ u ∷ t ∷ ws) d h m l g = absurd (none (length ws) l)
  where
    none : (n : ℕ) → suc (suc (suc (suc (suc (suc n))))) < 6 → ⊥
    none n g = omega arith

-- a first line has two words or four
pub opening_short : (ws : List (Bor (List ℕ))) → length ws < 2 → cluster_form (nows ws) ≡ Err fault.NoCluster
opening_short [] h = refl
opening_short (x ∷ []) h = refl
opening_short (x ∷ y ∷ ws) h = absurd (none (length ws) h)
  where
    none : (n : ℕ) → suc (suc n) < 2 → ⊥
    none n g = omega arith

pub opening_odd : (ws : List (Bor (List ℕ))) → 3 ≤ length ws → length ws < 4 → cluster_form (nows ws) ≡ Err fault.NoCluster
opening_odd [] h k = refl
opening_odd (x ∷ []) h k = refl
opening_odd (x ∷ y ∷ []) h k = absurd (none h)
  where
    none : 3 ≤ 2 → ⊥
    none g = omega arith
opening_odd (x ∷ y ∷ z ∷ []) h k = refl
opening_odd (x ∷ y ∷ z ∷ v ∷ ws) h k = absurd (none (length ws) k)
  where
    none : (n : ℕ) → suc (suc (suc (suc n))) < 4 → ⊥
    none n g = omega arith

pub opening_long : (ws : List (Bor (List ℕ))) → 5 ≤ length ws → cluster_form (nows ws) ≡ Err fault.NoCluster
opening_long [] h = refl
opening_long (x ∷ []) h = refl
opening_long (x ∷ y ∷ []) h = absurd (none h)
  where
    none : 5 ≤ 2 → ⊥
    none g = omega arith
opening_long (x ∷ y ∷ z ∷ []) h = refl
opening_long (x ∷ y ∷ z ∷ v ∷ []) h = absurd (none h)
  where
    none : 5 ≤ 4 → ⊥
    none g = omega arith
opening_long (x ∷ y ∷ z ∷ v ∷ u ∷ ws) h = refl

pub ruleset opening_forms = (opening_short, opening_odd, opening_long)
