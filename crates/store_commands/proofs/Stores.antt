-- Writes at one key and at two.
use Rattle.std.proofs.Common.{◌≡◌, Bool, true, false, cond, Option, None, Some, IsSome, is_some, option_map, unwrap_or, Result, Ok, Err, OnOk, refl, ap, sym, subst, ◌∙◌, nat_eq}
use Rattle.std.proofs.lemmas.Bool.{true≢false}
use Rattle.std.specs.Cmp.Lexicographic.{pointwise, bytes_decides, nat_list_cmp_total}
use Rattle.std.specs.FinMap.{get, insert, get-insert, same_map, slice_cmp-IsAntisymmetric, nat_cmp-IsAntisymmetric}
use Rattle.typed_values.specs.declared.value.Value.{Value}
use Rattle.store_commands.specs.Store.{Store, Key, same_key, write}
use Rattle.store_commands.proofs.Named.{get-write, same_is, same_itself}

pub same_store : (s t : Store) → ((q : Key) → get s q ≡ get t q) → s ≡ t
same_store s t h = same_map nat_list_cmp_total (slice_cmp-IsAntisymmetric nat_cmp-IsAntisymmetric) s t h

pub get-insert_here : (s : Store) (k : Key) (v : Value) → get (insert s k v) k ≡ Some v
get-insert_here s k v = get-insert nat_list_cmp_total s k v k ∙ ap (λ b. cond b (Some v) (get s k)) (same_itself k)

twice : (b : Bool) (x y z : Option Value) → cond b x (cond b y z) ≡ cond b x z
twice true x y z = refl
twice false x y z = refl

-- the later of two writes at a key stands
pub write-again : (s : Store) (k : Key) (p o : Option Value) → write (write s k p) k o ≡ write s k o
write-again s k p o =
    same_store _ _
    (λ q. get-write (write s k p) k o q
    ∙ ap (cond (same_key q k) o) (get-write s k p q)
    ∙ twice (same_key q k) o p (get s q)
    ∙ sym (get-write s k o q))

kept_as : (s : Store) (k q : Key) (b : Bool) → same_key q k ≡ b → cond b (get s k) (get s q) ≡ get s q
kept_as s k q true e = ap (get s) (sym (same_is q k e))
kept_as s k q false e = refl

-- to write what stands there changes nothing
pub write-same : (s : Store) (k : Key) (o : Option Value) → get s k ≡ o → write s k o ≡ s
write-same s k o is = ap (write s k) (sym is) ∙ same_store _ _ (λ q. get-write s k (get s k) q ∙ kept_as s k q (same_key q k) refl)

-- equal keys, as the program compares them
pub equal_keys : (a b : Key) → pointwise nat_eq a b ≡ true → a ≡ b
equal_keys a b e = (bytes_decides a b).0 e

pub unequal_keys : (k j : Key) → pointwise nat_eq k j ≡ false → same_key k j ≡ false
unequal_keys k j e = elim (same_key k j) as (λ b. same_key k j ≡ b → b ≡ false) [ true ↦ λ h. absurd (true≢false (sym ((bytes_decides k j).1 (same_is k j h)) ∙ e)) | false ↦ λ h. refl ] refl

swapped : (j k q : Key) → same_key k j ≡ false → (a b : Bool) → same_key q k ≡ a → same_key q j ≡ b → (x y z : Option Value) → cond b x (cond a y z) ≡ cond a y (cond b x z)
swapped j k q apart true true e f x y z =
    let h : true ≡ false = sym (same_itself q) ∙ subst (λ i. same_key q q ≡ same_key i q) (same_is q k e) refl ∙ subst (λ i. same_key k q ≡ same_key k i) (same_is q j f) refl ∙ apart in
    cc
swapped j k q apart true false e f x y z = refl
swapped j k q apart false b e f x y z = refl

-- writes at two keys in either order
pub write-commutes : (s : Store) (j k : Key) (p o : Option Value) → same_key k j ≡ false → write (write s k o) j p ≡ write (write s j p) k o
write-commutes s j k p o apart =
    same_store _ _
    (λ q. get-write (write s k o) j p q
    ∙ ap (cond (same_key q j) p) (get-write s k o q)
    ∙ swapped j k q apart _ _ refl refl p o (get s q)
    ∙ sym (get-write (write s j p) k o q ∙ ap (cond (same_key q k) o) (get-write s j p q)))

-- what stands at another key stays
pub get-write-other : (s : Store) (k : Key) (o : Option Value) (q : Key) → same_key q k ≡ false → get (write s k o) q ≡ get s q
get-write-other s k o q e = get-write s k o q ∙ ap (λ b. cond b o (get s q)) e

pub on_ok_then : {A E : Type 0} (r : Result A E) (P Q : Type 0) → OnOk r P → (P → Q) → OnOk r Q
on_ok_then (Ok x) P Q h f = f h
on_ok_then (Err e) P Q h f = tt

-- keys that differ, in the other order
pub unequal_back : (k j : Key) → same_key k j ≡ false → same_key j k ≡ false
unequal_back k j e = elim (same_key j k) as (λ b. same_key j k ≡ b → b ≡ false) [ true ↦ λ h. absurd (true≢false (sym (same_itself k) ∙ ap (same_key k) (sym (same_is j k h)) ∙ e)) | false ↦ λ h. refl ] refl

-- what is put there is there
pub is_there : (s t : Store) (k : Key) (v : Value) → t ≡ insert s k v → IsSome (get t k)
is_there s t k v e = subst (λ u. IsSome (get u k)) (sym e) (subst IsSome (sym (get-insert_here s k v)) refl)

-- what is looked up is there where the entry is
pub alike : {A B : Type 0} (f : A → B) (r : Option A) (o : Option B) → option_map f r ≡ o → is_some r ≡ is_some o
alike f None o e = ap is_some e
alike f (Some x) o e = ap is_some e

pub none_is : {A : Type 0} (o : Option A) → is_some o ≡ false → o ≡ None
none_is None e = refl
none_is (Some x) e = absurd (true≢false e)

-- what a look-up tells of a key
pub missing_by : {A : Type 0} (f : A → Value) (r : Option A) (s : Store) (q k : Key) → option_map f r ≡ get s q → q ≡ k → is_some r ≡ false → get s k ≡ None
missing_by f r s q k found at_k is = none_is (get s k) (ap (λ k. is_some (get s k)) (sym at_k) ∙ sym (alike f r (get s q) found) ∙ is)

pub present_by : {A : Type 0} (f : A → Value) (r : Option A) (s : Store) (q k : Key) → option_map f r ≡ get s q → q ≡ k → is_some r ≡ true → is_some (get s k) ≡ true
present_by f r s q k found at_k is = ap (λ k. is_some (get s k)) (sym at_k) ∙ sym (alike f r (get s q) found) ∙ is

pub apart_by : (a b k j : Key) (r : Bool) → r ≡ pointwise nat_eq a b → r ≡ false → a ≡ k → b ≡ j → same_key k j ≡ false
apart_by a b k j r tells is at_k at_j = unequal_keys k j (ap (λ k. pointwise nat_eq k j) (sym at_k) ∙ ap (pointwise nat_eq a) (sym at_j) ∙ sym tells ∙ is)

placed_by : (s : Store) (k : Key) (x : Value) (o : Option Value) → get s k ≡ o → is_some o ≡ true → s ≡ insert s k (unwrap_or o x)
placed_by s k x None is there = absurd (true≢false (sym there))
placed_by s k x (Some v) is there = sym (write-same s k (Some v) is)

pub placed_same : {A : Type 0} (f : A → Value) (r : Option A) (s : Store) (q k : Key) (x : Value) (b : Bool) → option_map f r ≡ get s q → q ≡ k → b ≡ is_some r → b ≡ true
    → s ≡ insert s k (unwrap_or (get s k) x)
placed_same f r s q k x b found at_k tells is =
    placed_by s k x (get s k) refl (ap (λ k. is_some (get s k)) (sym at_k) ∙ sym (alike f r (get s q) found) ∙ sym tells ∙ is)
