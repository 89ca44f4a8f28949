-- Arguments of an even number, one at least, are pairs.
use Rattle.std.proofs.Common.{◌≡◌, ◌≢◌, ℕ, suc, ◌%◌, ◌==◌, false, List, [], ◌∷◌, length, Option, Some, None, option_map, Err, refl, ap, arith}
use Rattle.typed_values.specs.Fields.{Fields}
use Rattle.byte_texts.specs.Outcomes.{IsAnswered}
use Rattle.client_commands.specs.declared.fault.CommandFault.TheVariants.{ArgumentCount}
use Rattle.client_commands.specs.Commands.{Words, paired, of_paired, of_pairs}

pub less_two : (n : ℕ) → suc (suc n) % 2 ≡ 0 → n % 2 ≡ 0
less_two n h = omega (arith, h)

pub paired_even : (ws : Words) → length ws % 2 ≡ 0 → (ps : Fields) × (paired ws ≡ Some ps)
paired_even [] h = ([], refl)
paired_even (a ∷ []) h = absurd (omega (arith, h))
paired_even (a ∷ b ∷ rest) h =
    let r = paired_even rest (less_two (length rest) h) in
    ((a, b) ∷ r.0, ap (option_map (λ ps. (a, b) ∷ ps)) r.1)

answered : (o : Option Fields) (p : List ℕ × List ℕ) (ps : Fields) → o ≡ Some (p ∷ ps) → IsAnswered (of_paired (λ qs. qs) o)
answered (Some (q ∷ qs)) p ps e = tt
answered (Some []) p ps e = cc
answered None p ps e = cc

some_first : (a b : List ℕ) (o : Option Fields) (qs : Fields) → o ≡ Some qs → option_map (λ ps. (a, b) ∷ ps) o ≡ Some ((a, b) ∷ qs)
some_first a b o qs e = ap (option_map (λ ps. (a, b) ∷ ps)) e

pub pairs_answered : (ws : Words) → (length ws == 0) ≡ false → length ws % 2 ≡ 0 → IsAnswered (of_pairs (λ ps. ps) ws)
pairs_answered [] some h = absurd cc
pairs_answered (a ∷ []) some h = absurd (omega (arith, h))
pairs_answered (a ∷ b ∷ rest) some h =
    let r = paired_even rest (less_two (length rest) h) in
    answered (paired (a ∷ b ∷ rest)) (a, b) r.0 (some_first a b (paired rest) r.0 r.1)

pub odd_refused : (ws : Words) → length ws % 2 ≢ 0 → of_pairs (λ ps. ps) ws ≡ Err ArgumentCount
odd_refused ws h = ap (of_paired (λ ps. ps)) (odd ws h)
  where
    odd : (xs : Words) → length xs % 2 ≢ 0 → paired xs ≡ None
    odd [] k = absurd (k refl)
    odd (a ∷ []) k = refl
    odd (a ∷ b ∷ rest) k = ap (option_map (λ ps. (a, b) ∷ ps)) (odd rest (λ e. k (omega (arith, e))))
