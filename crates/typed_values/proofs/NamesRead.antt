-- Names that were read so far.
use Rattle.std.proofs.Common.{◌≡◌, ℕ, ◌+◌, ◌<◌, ◌≤◌, Bool, true, false, cond, not, ◌||◌, ◌&&◌, List, [], ◌∷◌, ◌++◌, length, map, take, get_or, is_some, Bor, refl, sym, ap, subst, ◌∙◌}
use Rattle.std.specs.List.{list_any}
use Rattle.std.specs.Map.{keys_of}
use Rattle.std.proofs.lemmas.List.Sums.{fold_more}
use Rattle.indexmap.specs.IndexSet.{insert_key}
use Rattle.typed_values.specs.Fields.{same_bytes, Fields, field, put, fields_with, fields_without, HasDistinctFields}
use Rattle.typed_values.specs.Members.{has, with_member, members_with, members_without, HasDistinctMembers}
use Rattle.typed_values.proofs.Counting.{has-members_with, from_more, from_less, one_more, one_less, at_most_one}
use Rattle.typed_values.proofs.FieldsSeen.{keys-put, keys-fields_with, named-keys, one_field_more, one_field_less}

pub twice_not : (b : Bool) → not (not b) ≡ b
twice_not true = refl
twice_not false = refl

-- names that stand elsewhere
pub has_borrowed : (k : List ℕ) (ks : List (Bor (List ℕ))) → list_any (λ q. same_bytes k q.now) ks ≡ has (map (λ q. q.now) ks) k
has_borrowed k [] = refl
has_borrowed k (q ∷ ks) = ap (λ b. same_bytes k q.now || b) (has_borrowed k ks)

last_borrowed : (ks : List (Bor (List ℕ))) (k : Bor (List ℕ)) → map (λ q. q.now) (ks ++ k ∷ []) ≡ map (λ q. q.now) ks ++ k.now ∷ []
last_borrowed [] k = refl
last_borrowed (q ∷ ks) k = ap (λ r. q.now ∷ r) (last_borrowed ks k)

choice : (b : Bool) (ks : List (Bor (List ℕ))) (k : Bor (List ℕ)) → map (λ q. q.now) (cond b ks (ks ++ k ∷ [])) ≡ cond b (map (λ q. q.now) ks) (map (λ q. q.now) ks ++ k.now ∷ [])
choice true ks k = refl
choice false ks k = last_borrowed ks k

pub with_borrowed : (ks : List (Bor (List ℕ))) (k : Bor (List ℕ)) → map (λ q. q.now) (insert_key (λ x y. same_bytes x.now y.now) ks k) ≡ with_member (map (λ q. q.now) ks) k.now
with_borrowed ks k =
    choice (list_any (λ q. same_bytes k.now q.now) ks) ks k
    ∙ ap (λ b. cond b (map (λ q. q.now) ks) (map (λ q. q.now) ks ++ k.now ∷ [])) (has_borrowed k.now ks)

-- ---- texts

one_text_read : (seen xs : List (List ℕ)) (i : ℕ) (x : List ℕ) → i < length xs → x ≡ get_or xs i x → seen ≡ members_with [] (take i xs) → with_member seen x ≡ members_with [] (take (i + 1) xs)
one_text_read seen xs i x h is e =
    (λ j. with_member (e j) (is j))
    ∙ sym (fold_more with_member [] xs i x h)

text_read : (seen xs : List (List ℕ)) (i : ℕ) (q : List ℕ) → seen ≡ members_with [] (take i xs) → has seen q ≡ has (take i xs) q
text_read seen xs i q e = ap (λ ks. has ks q) e ∙ has-members_with [] (take i xs) q

pub text_added : (ms seen xs : List (List ℕ)) (i n m : ℕ) (x : List ℕ) → i < length xs → x ≡ get_or xs i x → m ≡ cond (not (has ms x || has seen x)) 1 0
    → (n + length ms ≡ length (members_with ms (take i xs))) × (n ≤ i) × (seen ≡ members_with [] (take i xs))
    → (n + m + length ms ≡ length (members_with ms (take (i + 1) xs))) × (n + m ≤ i + 1) × (with_member seen x ≡ members_with [] (take (i + 1) xs))
text_added ms seen xs i n m x h is one inv = (
  ap (λ m. n + m + length ms) counted ∙ from_more n (length ms) _ _ known inv.0 more,
  subst (λ m. n + m ≤ i + 1) (sym one) (at_most_one n i _ inv.1),
  one_text_read seen xs i x h is inv.2,
)
  where
    known : Bool
    known = has ms x || has (take i xs) x

    counted : m ≡ cond (not known) 1 0
    counted = one ∙ ap (λ (b : Bool). cond {A = ℕ} (not (has ms x || b)) 1 0) (text_read seen xs i x inv.2)

    more : length (members_with ms (take (i + 1) xs)) ≡ length (members_with ms (take i xs)) + cond known 0 1
    more = one_more ms xs i x h ∙ ap (λ y. length (members_with ms (take i xs)) + cond (has ms y || has (take i xs) y) 0 1) (sym is)

pub text_removed : (ms seen xs : List (List ℕ)) (i n m : ℕ) (x : List ℕ) → HasDistinctMembers ms → i < length xs → x ≡ get_or xs i x → m ≡ cond (has ms x && not (has seen x)) 1 0
    → (n + length (members_without ms (take i xs)) ≡ length ms) × (n ≤ i) × (seen ≡ members_with [] (take i xs))
    → (n + m + length (members_without ms (take (i + 1) xs)) ≡ length ms) × (n + m ≤ i + 1) × (with_member seen x ≡ members_with [] (take (i + 1) xs))
text_removed ms seen xs i n m x distinct h is one inv = (
  ap (λ m. n + m + length (members_without ms (take (i + 1) xs))) counted ∙ from_less n (length ms) _ _ (cond gone 1 0) inv.0 less,
  subst (λ m. n + m ≤ i + 1) (sym one) (at_most_one n i _ inv.1),
  one_text_read seen xs i x h is inv.2,
)
  where
    gone : Bool
    gone = has ms x && not (has (take i xs) x)

    counted : m ≡ cond gone 1 0
    counted = one ∙ ap (λ (b : Bool). cond {A = ℕ} (has ms x && not b) 1 0) (text_read seen xs i x inv.2)

    less : length (members_without ms (take (i + 1) xs)) + cond gone 1 0 ≡ length (members_without ms (take i xs))
    less = ap (λ y. length (members_without ms (take (i + 1) xs)) + cond (has ms y && not (has (take i xs) y)) 1 0) is ∙ one_less ms xs i x distinct h

-- ---- the names of pairs

pub pair_added : (es : Fields) (seen : List (List ℕ)) (ps : Fields) (i n m : ℕ) (x : List ℕ × List ℕ) → i < length ps → x ≡ get_or ps i x → m ≡ cond (not (is_some (field es x.0) || has seen x.0)) 1 0
    → (n + length es ≡ length (fields_with es (take i ps))) × (n ≤ i) × (seen ≡ keys_of (fields_with [] (take i ps)))
    → (n + m + length es ≡ length (fields_with es (take (i + 1) ps))) × (n + m ≤ i + 1) × (with_member seen x.0 ≡ keys_of (fields_with [] (take (i + 1) ps)))
pair_added es seen ps i n m x h is one inv = (
  ap (λ m. n + m + length es) counted ∙ from_more n (length es) _ _ known inv.0 more,
  subst (λ m. n + m ≤ i + 1) (sym one) (at_most_one n i _ inv.1),
  read,
)
  where
    known : Bool
    known = is_some (field es x.0) || list_any (λ p. same_bytes x.0 p.0) (take i ps)

    before : has seen x.0 ≡ list_any (λ p. same_bytes x.0 p.0) (take i ps)
    before =
        ap (λ ks. has ks x.0) (inv.2 ∙ keys-fields_with [] (take i ps))
        ∙ has-members_with [] (keys_of (take i ps)) x.0
        ∙ sym (named-keys (take i ps) x.0)

    counted : m ≡ cond (not known) 1 0
    counted = one ∙ ap (λ (b : Bool). cond {A = ℕ} (not (is_some (field es x.0) || b)) 1 0) before

    more : length (fields_with es (take (i + 1) ps)) ≡ length (fields_with es (take i ps)) + cond known 0 1
    more = one_field_more es ps i x h ∙ ap (λ y. length (fields_with es (take i ps)) + cond (is_some (field es y.0) || list_any (λ p. same_bytes y.0 p.0) (take i ps)) 0 1) (sym is)

    read : with_member seen x.0 ≡ keys_of (fields_with [] (take (i + 1) ps))
    read =
        ap (λ ks. with_member ks x.0) inv.2
        ∙ sym (keys-put (fields_with [] (take i ps)) x.0 x.1)
        ∙ ap (λ y. keys_of (put (fields_with [] (take i ps)) y.0 y.1)) is
        ∙ ap keys_of (sym (fold_more (λ now p. put now p.0 p.1) [] ps i x h))

pub name_removed : (es : Fields) (seen fs : List (List ℕ)) (i n m : ℕ) (x : List ℕ) → HasDistinctFields es → i < length fs → x ≡ get_or fs i x → m ≡ cond (is_some (field es x) && not (has seen x)) 1 0
    → (n + length (fields_without es (take i fs)) ≡ length es) × (n ≤ i) × (seen ≡ members_with [] (take i fs))
    → (n + m + length (fields_without es (take (i + 1) fs)) ≡ length es) × (n + m ≤ i + 1) × (with_member seen x ≡ members_with [] (take (i + 1) fs))
name_removed es seen fs i n m x distinct h is one inv = (
  ap (λ m. n + m + length (fields_without es (take (i + 1) fs))) counted ∙ from_less n (length es) _ _ (cond gone 1 0) inv.0 less,
  subst (λ m. n + m ≤ i + 1) (sym one) (at_most_one n i _ inv.1),
  one_text_read seen fs i x h is inv.2,
)
  where
    gone : Bool
    gone = is_some (field es x) && not (has (take i fs) x)

    counted : m ≡ cond gone 1 0
    counted = one ∙ ap (λ (b : Bool). cond {A = ℕ} (is_some (field es x) && not b) 1 0) (text_read seen fs i x inv.2)

    less : length (fields_without es (take (i + 1) fs)) + cond gone 1 0 ≡ length (fields_without es (take i fs))
    less = ap (λ y. length (fields_without es (take (i + 1) fs)) + cond (is_some (field es y) && not (has (take i fs) y)) 1 0) is ∙ one_field_less es fs i x distinct h
