-- A text whose fingerprint none of the texts has is none of these.
use Rattle.std.proofs.Common.{◌≡◌, ℕ, ◌<◌, Bool, true, false, List, [], ◌∷◌, nat_eq, slice_index_or, refl, sym, ap, ◌∙◌}
use Rattle.std.proofs.lemmas.Bool.{eq-eqb, or_from, or_parts}
use Rattle.typed_values.specs.Fingerprints.{fingerprint, has_fingerprint, AreFingerprints}
use Rattle.typed_values.specs.Fields.{same_bytes}
use Rattle.typed_values.specs.Members.{has}
use Rattle.typed_values.proofs.Spellings.{same-true}

no-fingerprint : (ts : List (List ℕ)) (t : List ℕ) → has_fingerprint ts (fingerprint t) ≡ false → has ts t ≡ false
no-fingerprint [] t h = refl
no-fingerprint (x ∷ ts) t h =
    let parts = or_parts _ _ h in
    or_from (same_bytes t x) (has ts t) (apart parts.0 (same_bytes t x) refl) (no-fingerprint ts t parts.1)
  where
    apart : nat_eq (fingerprint x) (fingerprint t) ≡ false → (b : Bool) → same_bytes t x ≡ b → b ≡ false
    apart other false e = refl
    apart other true e = let alike = eq-eqb (fingerprint x) (fingerprint t) (sym (ap fingerprint (same-true t x e))) in cc

-- what a false at the text's fingerprint tells
pub absent : (ts : List (List ℕ)) (es : List Bool) (t : List ℕ) (n : ℕ) → AreFingerprints ts es → n ≡ fingerprint t → n < 256 → slice_index_or es n false ≡ false → has ts t ≡ false
absent ts es t n are same within told =
    no-fingerprint ts t (ap (has_fingerprint ts) (sym same) ∙ sym (are.1 n within) ∙ told)
