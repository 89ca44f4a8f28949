-- Writing replies one after the other.
use Rattle.std.proofs.Common.{◌≡◌, ℕ, zero, suc, ◌+◌, ◌<◌, arith, List, [], ◌∷◌, ◌++◌, length, get_or, take, refl, sym, ap, subst, ◌∙◌, append_assoc, decimal}
use Rattle.std.proofs.lemmas.List.{append-nil, take_more}
use Rattle.resp2_wire.specs.declared.reply.Reply.{Reply}
use Rattle.resp2_wire.specs.Tree.{count, counts, array, Trees, none, more}
use Rattle.resp2_wire.specs.View.{tree, trees}
use Rattle.resp2_wire.specs.Encoding.{length_of, encoding, spellings, line}
use Rattle.resp2_wire.specs.Limits.{Typed, AllTyped}

spellings-push : (xs : List Reply) (x : Reply) → spellings (trees (xs ++ x ∷ [])) ≡ spellings (trees xs) ++ encoding (tree x)
spellings-push [] x = append-nil (encoding (tree x))
spellings-push (y ∷ xs) x = ap (λ (t : List ℕ). encoding (tree y) ++ t) (spellings-push xs x) ∙ sym (append_assoc (encoding (tree y)) (spellings (trees xs)) (encoding (tree x)))

AllTyped-push : (xs : List Reply) (x : Reply) → AllTyped (trees xs) → Typed (tree x) → AllTyped (trees (xs ++ x ∷ []))
AllTyped-push [] x h k = (k, tt)
AllTyped-push (y ∷ xs) x h k = (h.0, AllTyped-push xs x h.1 k)

pub one_longer : (xs : List Reply) (i : ℕ) (x : Reply) → i < length xs → x ≡ get_or xs i x → take (i + 1) xs ≡ take i xs ++ x ∷ []
one_longer xs i x lt is = take_more xs i x lt ∙ ap (λ (y : Reply). take i xs ++ y ∷ []) (sym is)

pub one_written : (xs : List Reply) (i : ℕ) (x : Reply) (old mid new : List ℕ) → i < length xs → x ≡ get_or xs i x → mid ≡ old ++ spellings (trees (take i xs)) → new ≡ mid ++ encoding (tree x) → new ≡ old ++ spellings (trees (take (i + 1) xs))
one_written xs i x old mid new lt is before after =
    rw (one_longer xs i x lt is, spellings-push (take i xs) x, after, before) (append_assoc old (spellings (trees (take i xs))) (encoding (tree x)))

pub one_typed : (xs : List Reply) (i : ℕ) (x : Reply) → i < length xs → x ≡ get_or xs i x → AllTyped (trees (take i xs)) → Typed (tree x) → AllTyped (trees (take (i + 1) xs))
one_typed xs i x lt is before this = rw (one_longer xs i x lt is) (AllTyped-push (take i xs) x before this)

pub length_of-trees : (xs : List Reply) → length_of (trees xs) ≡ length xs
length_of-trees [] = refl
length_of-trees (x ∷ xs) = ap suc (length_of-trees xs)

pub an_array : (ts : Trees) (xs : List Reply) (old mid new : List ℕ) → trees xs ≡ ts → mid ≡ old ++ line 42 (decimal (length xs)) → new ≡ mid ++ spellings (trees xs) → new ≡ old ++ encoding (array ts)
an_array ts xs old mid new is header rest =
    let one : new ≡ old ++ encoding (array (trees xs)) = rw (length_of-trees xs, rest, header) (append_assoc old (line 42 (decimal (length xs))) (spellings (trees xs))) in
    subst (λ (us : Trees). new ≡ old ++ encoding (array us)) is one

-- ---- an element is smaller than its list

counts_positive : (ts : Trees) → 0 < counts ts
counts_positive none = omega arith
counts_positive (more t ts) = omega (arith, counts_positive ts)

element_smaller : (xs : List Reply) (i : ℕ) (x : Reply) → i < length xs → count (tree (get_or xs i x)) < counts (trees xs)
element_smaller [] i x lt = absurd (omega arith)
element_smaller (y ∷ xs) zero x lt = omega (arith, counts_positive (trees xs))
element_smaller (y ∷ xs) (suc i) x lt = omega (arith, element_smaller xs i x (omega arith))

pub smaller : (xs : List Reply) (i : ℕ) (x : Reply) → i < length xs → x ≡ get_or xs i x → count (tree x) < counts (trees xs)
smaller xs i x lt is = let one : count (tree x) ≡ count (tree (get_or xs i x)) = ap (λ (y : Reply). count (tree y)) is in omega (arith, element_smaller xs i x lt)

pub array_larger : (ts : Trees) (xs : List Reply) → trees xs ≡ ts → counts (trees xs) < count (array ts)
array_larger ts xs is = omega (arith, ap counts is)
