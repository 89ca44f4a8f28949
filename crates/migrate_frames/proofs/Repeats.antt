-- What is repeated.
use Rattle.std.proofs.Common.{◌≡◌, ℕ, true, false, cond, ◌||◌, List, [], ◌∷◌, is_some, Some, refl}
use Rattle.std.specs.List.{list_any}
use Rattle.std.specs.Map.{keys_of}
use Rattle.typed_values.specs.Fields.{same_bytes, Fields, field}
use Rattle.typed_values.specs.Members.{has}

-- a field is repeated where it is one of the names
pub has_field : (es : Fields) (f : List ℕ) → is_some (field es f) ≡ has (keys_of es) f
has_field [] f = refl
has_field (e ∷ es) f =
    elim (same_bytes f e.0) as (λ b. is_some (cond b (Some e.1) (field es f)) ≡ (b || has (keys_of es) f))
    [ true ↦ refl | false ↦ has_field es f ]
