-- Printing one item after the other.
use Rattle.std.proofs.Common.{◌≡◌, ℕ, suc, ◌+◌, ◌<◌, Bool, true, false, cond, List, [], ◌∷◌, ◌++◌, length}
use Rattle.std.proofs.Common.{get_or, take, drop, refl, sym, ap, subst, ◌∙◌, append_assoc, decimal, arith}
use Rattle.std.specs.List.{prefix_len}
use Rattle.std.proofs.lemmas.List.{append-nil, take_more, take-append-drop}
use Rattle.resp2_wire.specs.declared.reply.Reply.{Reply}
use Rattle.resp2_wire.specs.Tree.{array, Trees}
use Rattle.resp2_wire.specs.View.{tree, trees}
use Rattle.resp2_wire.proofs.Written.{length_of-trees}
use Rattle.hex.specs.Hex.{encode_lower}
use Rattle.transcripts.specs.Printing.{line, shown_byte, shown_bytes, shown, all_shown, stands_for_itself}

-- The text of all items is that of one after the others'.
abbrev pub Grows : {X : Type 0} → (X → List ℕ) → (List X → List ℕ) → Type 0
Grows {X} item all = (xs : List X) (x : X) → all (xs ++ x ∷ []) ≡ all xs ++ item x

pub one_printed : {X : Type 0} (item : X → List ℕ) (all : List X → List ℕ) → Grows item all
    → (xs : List X) (i : ℕ) (d x : X) (old mid new : List ℕ) → i < length xs → x ≡ get_or xs i d
    → mid ≡ old ++ all (take i xs) → new ≡ mid ++ item x → new ≡ old ++ all (take (i + 1) xs)
one_printed {X} item all grows xs i d x old mid new lt is before after =
    let longer : take (i + 1) xs ≡ take i xs ++ x ∷ [] = take_more xs i d lt
    ∙ ap (λ (y : X). take i xs ++ y ∷ []) (sym is) in
    rw (longer, grows (take i xs) x, after, before) (append_assoc old (all (take i xs)) (item x))

pub shown_bytes-grows : Grows shown_byte shown_bytes
shown_bytes-grows [] b = append-nil (shown_byte b)
shown_bytes-grows (c ∷ t) b = ap (λ (u : List ℕ). shown_byte c ++ u) (shown_bytes-grows t b)
    ∙ sym (append_assoc (shown_byte c) (shown_bytes t) (shown_byte b))

shown_bytes-append : (s t : List ℕ) → shown_bytes (s ++ t) ≡ shown_bytes s ++ shown_bytes t
shown_bytes-append [] t = refl
shown_bytes-append (b ∷ s) t =
    ap (λ (u : List ℕ). shown_byte b ++ u) (shown_bytes-append s t)
    ∙ sym (append_assoc (shown_byte b) (shown_bytes s) (shown_bytes t))

pub group_printed : (count : ℕ) (left old mid whole : List ℕ) → mid ≡ old ++ shown_bytes (take count left)
    → old ++ shown_bytes left ≡ whole → mid ++ shown_bytes (drop count left) ≡ whole
group_printed count left old mid whole after before =
    let cut : shown_bytes (take count left) ++ shown_bytes (drop count left) ≡ shown_bytes left =
    sym (shown_bytes-append (take count left) (drop count left)) ∙ ap shown_bytes (take-append-drop count left) in
    ap (λ (m : List ℕ). m ++ shown_bytes (drop count left)) after
    ∙ append_assoc old (shown_bytes (take count left)) (shown_bytes (drop count left))
    ∙ ap (λ (u : List ℕ). old ++ u) cut ∙ before

-- the bytes at the front that stand for themselves, and what is shown of the others
run_shown : (t : List ℕ) → shown_bytes t ≡ take (prefix_len stands_for_itself t) t ++ shown_bytes
    (drop (prefix_len stands_for_itself t) t)
run_shown [] = refl
run_shown (b ∷ t) = by (stands_for_itself b) refl (prefix_len stands_for_itself t) (run_shown t)
  where
    by : (yes : Bool) → stands_for_itself b ≡ yes → (n : ℕ) → shown_bytes t ≡ take n t ++ shown_bytes (drop n t)
        → shown_bytes (b ∷ t) ≡ take (cond yes (1 + n) 0) (b ∷ t) ++ shown_bytes (drop (cond yes (1 + n) 0) (b ∷ t))
    by false e n h = refl
    by true e n h =
        let s : 1 + n ≡ suc n = omega arith in
        let one : shown_byte b ≡ b ∷ [] = ap (λ (c : Bool). cond c (b ∷ []) (92 ∷ 120 ∷ encode_lower (b ∷ []))) e in
        rw s (ap (λ (u : List ℕ). u ++ shown_bytes t) one ∙ ap (λ (u : List ℕ). b ∷ u) h)

pub run_printed : (left old mid whole : List ℕ) (count : ℕ) → count ≡ prefix_len stands_for_itself left
    → mid ≡ old ++ take count left → old ++ shown_bytes left ≡ whole → mid ++ shown_bytes (drop count left) ≡ whole
run_printed left old mid whole count is after before =
    let cut : shown_bytes left ≡ take count left ++ shown_bytes (drop count left) =
    subst (λ (n : ℕ). shown_bytes left ≡ take n left ++ shown_bytes (drop n left)) (sym is) (run_shown left) in
    ap (λ (m : List ℕ). m ++ shown_bytes (drop count left)) after
    ∙ append_assoc old (take count left) (shown_bytes (drop count left)) ∙ ap (λ (u : List ℕ). old ++ u) (sym cut)
    ∙ before

pub all_shown-grows : (indent : ℕ) → Grows (λ r. shown indent (tree r)) (λ rs. all_shown indent (trees rs))
all_shown-grows indent [] r = append-nil (shown indent (tree r))
all_shown-grows indent (q ∷ rs) r = ap (λ (u : List ℕ). shown indent (tree q) ++ u) (all_shown-grows indent rs r)
    ∙ sym (append_assoc (shown indent (tree q)) (all_shown indent (trees rs)) (shown indent (tree r)))

pub array_shown : (indent inner : ℕ) (ts : Trees) (rs : List Reply) (old mid new : List ℕ) → inner ≡ indent + 2
    → trees rs ≡ ts → mid ≡ old ++ line indent 42 (decimal (length rs)) → new ≡ mid ++ all_shown inner (trees rs)
    → new ≡ old ++ shown indent (array ts)
array_shown indent inner ts rs old mid new two is header rest =
    let one : new ≡ old ++ shown indent (array (trees rs)) =
    rw (length_of-trees rs, rest, two, header) (append_assoc old (line indent 42 (decimal (length rs)))
    (all_shown (indent + 2) (trees rs))) in
    subst (λ (us : Trees). new ≡ old ++ shown indent (array us)) is one
