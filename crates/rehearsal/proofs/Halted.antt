-- Texts that are written one after the other.
use Rattle.std.proofs.Common.{◌≡◌, ℕ, ◌+◌, List, ◌++◌, length, take, drop, Result, Ok, Err, sym, ap, subst, append_assoc, ◌∙◌}
use Rattle.std.specs.Prelude.{MatchResult}
use Rattle.std.proofs.Math.Seq.{take-append_seam, take-append-add}
use Rattle.std.proofs.lemmas.List.{take-append-drop}
use Rattle.script_lines.specs.declared.fault.Halt.{Halt}
use Rattle.rehearsal.specs.Writing.{IsCut, output}

-- a prefix of the first text is one of both
prefix_of_both : (t s : List ℕ) (n : ℕ) → take (length (take n t)) (t ++ s) ≡ take n t
prefix_of_both t s n =
    let same : t ++ s ≡ take n t ++ (drop n t ++ s) = ap (λ (x : List ℕ). x ++ s) (sym (take-append-drop n t)) ∙ append_assoc (take n t) (drop n t) s in
    ap (λ (x : List ℕ). take (length (take n t)) x) same ∙ take-append_seam (take n t) (drop n t ++ s)

module _ (W : Type 0) (took : W → List ℕ → W → Type 0) (failures : W → ℕ) where
  pub cut_before : (old new : W) (text tail : List ℕ) (h : Halt) → IsCut (output took failures old new) text h → IsCut (output took failures old new) (text ++ tail) h
  cut_before old new text tail h c = (c.0, length (take c.1 text), subst (λ (t : List ℕ). took old t new) (sym (prefix_of_both text tail c.1)) c.2, c.3)

  pub both_written : ((x y z : W) (a b : List ℕ) → took x a y → took y b z → took x (a ++ b) z) → (old mid new : W) (text tail : List ℕ) (r : Result (Unit {0}) Halt) → took old text mid → failures mid ≡ failures old
      → MatchResult r (λ _. took mid tail new) (IsCut (output took failures mid new) tail) → MatchResult r (λ _. took old (text ++ tail) new) (IsCut (output took failures old new) (text ++ tail))
  both_written then old mid new text tail (Ok u) a e b = then old mid new text tail a b
  both_written then old mid new text tail (Err h) a e b =
      (b.0, length text + b.1, subst (λ (t : List ℕ). took old t new) (sym (take-append-add text tail b.1)) (then old mid new text (take b.1 tail) a b.2), λ same. b.3 (same ∙ sym e))
