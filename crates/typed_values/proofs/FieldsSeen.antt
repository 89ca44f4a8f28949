-- The names of the fields are the members of a set, so what a set gains and loses a hash does too.
use Rattle.std.proofs.Common.{◌≡◌, ℕ, ◌+◌, ◌<◌, Bool, true, false, cond, not, ◌||◌, ◌&&◌, List, [], ◌∷◌, ◌++◌, length, take, get_or, is_some, Some, refl, sym, ap, ◌∙◌}
use Rattle.std.specs.List.{list_any}
use Rattle.std.specs.Map.{keys_of}
use Rattle.std.proofs.lemmas.List.{length-map}
use Rattle.std.proofs.lemmas.List.Sums.{fold_more}
use Rattle.indexmap.proofs.CallerLemmas.{keys-shift_remove_entry}
use Rattle.typed_values.specs.Fields.{same_bytes, Fields, field, put, fields_with, without, fields_without, HasDistinctFields}
use Rattle.typed_values.specs.Members.{has, with_member, members_with, members_without}
use Rattle.typed_values.proofs.Counting.{from_more, from_less, length-with_member, has-members_with, length-without_member, has-members_without}

-- an element in front of a list that may grow at its end
in_front : (b : Bool) (x : List ℕ) (ks : List (List ℕ)) (m : List ℕ) → (x ∷ cond b ks (ks ++ m ∷ [])) ≡ cond b (x ∷ ks) ((x ∷ ks) ++ m ∷ [])
in_front true x ks m = refl
in_front false x ks m = refl

pub keys-put : (es : Fields) (f v : List ℕ) → keys_of (put es f v) ≡ with_member (keys_of es) f
keys-put [] f v = refl
keys-put (e ∷ es) f v =
    elim (same_bytes f e.0) as (λ b. keys_of (cond b ((e.0, v) ∷ es) (e ∷ put es f v)) ≡ cond (b || has (keys_of es) f) (e.0 ∷ keys_of es) ((e.0 ∷ keys_of es) ++ f ∷ []))
    [ true ↦ refl | false ↦ ap (λ ks. e.0 ∷ ks) (keys-put es f v) ∙ in_front (has (keys_of es) f) e.0 (keys_of es) f ]

pub keys-fields_with : (es ps : Fields) → keys_of (fields_with es ps) ≡ members_with (keys_of es) (keys_of ps)
keys-fields_with es [] = refl
keys-fields_with es (p ∷ ps) = keys-fields_with (put es p.0 p.1) ps ∙ ap (λ ks. members_with ks (keys_of ps)) (keys-put es p.0 p.1)

keys-fields_without : (es : Fields) (fs : List (List ℕ)) → keys_of (fields_without es fs) ≡ members_without (keys_of es) fs
keys-fields_without es [] = refl
keys-fields_without es (f ∷ fs) =
    keys-fields_without (without es f) fs ∙ ap (λ ks. members_without ks fs) (keys-shift_remove_entry (same_bytes f) es)

count : (es : Fields) → length es ≡ length (keys_of es)
count es = sym (length-map es (λ e. e.0))

pub has-keys : (es : Fields) (f : List ℕ) → is_some (field es f) ≡ has (keys_of es) f
has-keys [] f = refl
has-keys (e ∷ es) f =
    elim (same_bytes f e.0) as (λ b. is_some (cond b (Some e.1) (field es f)) ≡ (b || has (keys_of es) f))
    [ true ↦ refl | false ↦ has-keys es f ]

pub named-keys : (ps : Fields) (f : List ℕ) → list_any (λ p. same_bytes f p.0) ps ≡ has (keys_of ps) f
named-keys [] f = refl
named-keys (p ∷ ps) f = ap (λ b. same_bytes f p.0 || b) (named-keys ps f)

pub length-put : (es : Fields) (f v : List ℕ) → length (put es f v) ≡ length es + cond (has (keys_of es) f) 0 1
length-put es f v =
    count (put es f v) ∙ ap length (keys-put es f v) ∙ length-with_member (keys_of es) f
    ∙ ap (λ n. n + cond (has (keys_of es) f) 0 1) (sym (count es))

pub length-without : (es : Fields) (f : List ℕ) → length (without es f) + cond (has (keys_of es) f) 1 0 ≡ length es
length-without es f =
    ap (λ n. n + cond (has (keys_of es) f) 1 0) (count (without es f) ∙ ap length (keys-shift_remove_entry (same_bytes f) es))
    ∙ length-without_member (keys_of es) f ∙ sym (count es)

-- one pair more: its field is new where neither the hash nor the pairs before it have it
pub one_field_more : (es ps : Fields) (i : ℕ) (d : List ℕ × List ℕ) → i < length ps → length (fields_with es (take (i + 1) ps)) ≡ length (fields_with es (take i ps)) + cond (is_some (field es (get_or ps i d).0) || list_any (λ p. same_bytes (get_or ps i d).0 p.0) (take i ps)) 0 1
one_field_more es ps i d h =
    ap length (fold_more (λ now p. put now p.0 p.1) es ps i d h)
    ∙ length-put now x.0 x.1
    ∙ ap (λ b. length now + cond b 0 1)
    (ap (λ ks. has ks x.0) (keys-fields_with es (take i ps))
    ∙ has-members_with (keys_of es) (keys_of (take i ps)) x.0
    ∙ (λ j. sym (has-keys es x.0) j || sym (named-keys (take i ps) x.0) j))
  where
    x : List ℕ × List ℕ
    x = get_or ps i d

    now : Fields
    now = fields_with es (take i ps)

-- one name more: its field goes where the hash has it and the names before it have not
pub one_field_less : (es : Fields) (fs : List (List ℕ)) (i : ℕ) (d : List ℕ) → HasDistinctFields es → i < length fs → length (fields_without es (take (i + 1) fs)) + cond (is_some (field es (get_or fs i d)) && not (has (take i fs) (get_or fs i d))) 1 0 ≡ length (fields_without es (take i fs))
one_field_less es fs i d distinct h =
    ap (λ n. n + cond b 1 0) (ap length (fold_more without es fs i d h))
    ∙ ap (λ c. length (without now x) + cond c 1 0)
    (ap (λ c. c && not (has (take i fs) x)) (has-keys es x)
    ∙ sym (has-members_without (keys_of es) (take i fs) x distinct)
    ∙ ap (λ ks. has ks x) (sym (keys-fields_without es (take i fs))))
    ∙ length-without now x
  where
    x : List ℕ
    x = get_or fs i d

    now : Fields
    now = fields_without es (take i fs)

    b : Bool
    b = is_some (field es x) && not (has (take i fs) x)

-- a new field goes last
pub put-new : (es : Fields) (f v : List ℕ) → is_some (field es f) ≡ false → put es f v ≡ es ++ (f, v) ∷ []
put-new [] f v h = refl
put-new (e ∷ es) f v h = chosen (put-new es f v) (same_bytes f e.0) refl
  where
    chosen : (is_some (field es f) ≡ false → put es f v ≡ es ++ (f, v) ∷ []) → (b : Bool) → same_bytes f e.0 ≡ b → put (e ∷ es) f v ≡ e ∷ (es ++ (f, v) ∷ [])
    chosen rest true s = let held : true ≡ false = ap (λ b. is_some (cond b (Some e.1) (field es f))) (sym s) ∙ h in cc
    chosen rest false s =
        ap (λ b. cond b ((e.0, v) ∷ es) (e ∷ put es f v)) s
        ∙ ap (λ r. e ∷ r) (rest (ap (λ b. is_some (cond b (Some e.1) (field es f))) (sym s) ∙ h))

pub counted_fields_more : (es ps : Fields) (i n : ℕ) → i < length ps → n + length es ≡ length (fields_with es (take i ps)) → n + cond (not (is_some (field es (get_or ps i ([], [])).0) || list_any (λ p. same_bytes (get_or ps i ([], [])).0 p.0) (take i ps))) 1 0 + length es ≡ length (fields_with es (take (i + 1) ps))
counted_fields_more es ps i n h e = from_more n (length es) _ _ (is_some (field es (get_or ps i ([], [])).0) || list_any (λ p. same_bytes (get_or ps i ([], [])).0 p.0) (take i ps)) e (one_field_more es ps i ([], []) h)

pub counted_fields_less : (es : Fields) (fs : List (List ℕ)) (i n : ℕ) → HasDistinctFields es → i < length fs → n + length (fields_without es (take i fs)) ≡ length es → n + cond (is_some (field es (get_or fs i [])) && not (has (take i fs) (get_or fs i []))) 1 0 + length (fields_without es (take (i + 1) fs)) ≡ length es
counted_fields_less es fs i n distinct h e = from_less n (length es) _ _ (cond (is_some (field es (get_or fs i [])) && not (has (take i fs) (get_or fs i []))) 1 0) e (one_field_less es fs i [] distinct h)
