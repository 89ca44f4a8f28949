-- Keys with their values that go from one store to another.
use Rattle.std.proofs.Common.{◌≡◌, List, [], ◌∷◌, ◌++◌, map, Result, Ok, Err, OnErr, arith, Option, Some, None, refl, ap, sym, subst, ◌∙◌, append_assoc, append-nil, nat_eq, ℕ, ◌+◌, ◌<◌, ◌≤◌, length, drop, drop-cons, add-one, get_or, option_map}
use Rattle.std.proofs.lemmas.List.{drop_all, length-append}
use Rattle.std.specs.Cmp.Lexicographic.{pointwise}
use Rattle.std.specs.List.{IsDistinct}
use Rattle.std.specs.FinMap.{get, insert}
use Rattle.typed_values.specs.declared.value.Value.{Value}
use Rattle.store_commands.specs.Store.{Store, Key, Write, after_writes, HasDistinctKeys}
use Rattle.slot_keyspace.specs.Batches.{Entry, found_with, batch_of, with_entries, HasEachKeyOnce}

-- a batch as writes
abbrev pub writes_of : List Entry → List Write
writes_of es = map (λ e. (e.0, Some e.1)) es

pub written-writes_of : (s : Store) (es : List Entry) → after_writes s (writes_of es) ≡ with_entries s es
unfolding with_entries
written-writes_of s [] = refl
written-writes_of s (e ∷ es) = written-writes_of (insert s e.0 e.1) es

keys_kept : (es : List Entry) → map (λ e. e.0) es ≡ map (λ w. w.0) (writes_of es)
keys_kept [] = refl
keys_kept (e ∷ es) = ap (λ ks. e.0 ∷ ks) (keys_kept es)

pub distinct-writes_of : (es : List Entry) → HasEachKeyOnce es → HasDistinctKeys (writes_of es)
distinct-writes_of es h = subst (IsDistinct (pointwise nat_eq)) (keys_kept es) h

pub batch_of-more : (s : Store) (k : Key) (ks : List Key) → batch_of s (k ∷ ks) ≡ found_with k (get s k) (batch_of s ks)
unfolding batch_of
batch_of-more s k ks = refl

pub batch_of-nil : (s : Store) → batch_of s [] ≡ []
unfolding batch_of
batch_of-nil s = refl

-- ---- one more key of a batch

next_key : (s : Store) (ks : List Key) (i : ℕ) (k : Key) → i < length ks → k ≡ get_or ks i k → batch_of s (drop i ks) ≡ found_with k (get s k) (batch_of s (drop (i + 1) ks))
next_key s ks i k lt is =
    ap (batch_of s) (drop-cons ks i k lt) ∙ ap (λ n. batch_of s (get_or ks i k ∷ drop n ks)) (sym (add-one i))
    ∙ ap (λ q. batch_of s (q ∷ drop (i + 1) ks)) (sym is) ∙ batch_of-more s k (drop (i + 1) ks)

found-some : (k : Key) (e : Entry) (o : Option Value) (es : List Entry) → Some e ≡ option_map (λ v. (k, v)) o → found_with k o es ≡ e ∷ es
found-some k e None es is = cc
found-some k e (Some v) es is = let same : e ≡ (k, v) = cc in ap (λ x. x ∷ es) (sym same)

found-none : (k : Key) (o : Option Value) (es : List Entry) → ◌≡◌ {A = Option Entry} None (option_map (λ v. (k, v)) o) → found_with k o es ≡ es
found-none k None es is = refl
found-none k (Some v) es is = cc

pub batch_of-found : (s : Store) (ks : List Key) (i : ℕ) (k : Key) (e : Entry) (before whole : List Entry) → i < length ks → k ≡ get_or ks i k → Some e ≡ option_map (λ v. (k, v)) (get s k)
    → before ++ batch_of s (drop i ks) ≡ whole → (before ++ e ∷ []) ++ batch_of s (drop (i + 1) ks) ≡ whole
batch_of-found s ks i k e before whole lt is found so_far =
    append_assoc before (e ∷ []) _ ∙ ap (λ es. before ++ es) (sym (next_key s ks i k lt is ∙ found-some k e (get s k) _ found)) ∙ so_far

pub batch_of-missing : (s : Store) (ks : List Key) (i : ℕ) (k : Key) (before whole : List Entry) → i < length ks → k ≡ get_or ks i k → ◌≡◌ {A = Option Entry} None (option_map (λ v. (k, v)) (get s k))
    → before ++ batch_of s (drop i ks) ≡ whole → before ++ batch_of s (drop (i + 1) ks) ≡ whole
batch_of-missing s ks i k before whole lt is missing so_far =
    ap (λ es. before ++ es) (sym (next_key s ks i k lt is ∙ found-none k (get s k) _ missing)) ∙ so_far

pub batch_of-end : (s : Store) (ks : List Key) (i : ℕ) (before whole : List Entry) → length ks ≤ i → before ++ batch_of s (drop i ks) ≡ whole → before ≡ whole
batch_of-end s ks i before whole le so_far = sym (append-nil before) ∙ ap (λ es. before ++ es) (sym (ap (batch_of s) (drop_all i ks le) ∙ batch_of-nil s)) ∙ so_far

-- a key at which something stands is in the batch
pub some-found : (before after whole : List Entry) (e : Entry) → (before ++ e ∷ []) ++ after ≡ whole → 0 < length whole
some-found before after whole e is =
    omega (arith, ap length is, length-append (before ++ e ∷ []) after, length-append before (e ∷ []))

pub on_err : {A F : Type 0} (r : Result A F) (P : Type 0) → P → OnErr r P
on_err (Ok x) P p = tt
on_err (Err f) P p = p
