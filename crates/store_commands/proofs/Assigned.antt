-- Texts that are put at keys, each key once.
use Rattle.std.proofs.Common.{◌≡◌, ℕ, suc, ◌+◌, ◌<◌, Bool, true, false, cond, if◌then◌else◌, List, [], ◌∷◌, ◌++◌, length, drop, reverse, get_or, Option, Some, refl, ap, sym, subst, ◌∙◌, nat_eq, add-one, arith, ◌||◌}
use Rattle.std.proofs.Math.Bool.{or_comm}
use Rattle.std.proofs.Math.Seq.{drop-cons, drop-length}
use Rattle.std.proofs.lemmas.List.{reverse-append}
use Rattle.std.proofs.lemmas.Bool.{true≢false, or_parts}
use Rattle.std.specs.Cmp.Lexicographic.{pointwise, bytes_decides}
use Rattle.std.specs.List.{IsDistinct, AllByRecursion}
use Rattle.std.specs.FinMap.{get}
use Rattle.typed_values.specs.Fields.{same_bytes}
use Rattle.typed_values.specs.Members.{has, with_member}
use Rattle.typed_values.specs.declared.value.Value.{Value}
use Rattle.typed_values.specs.declared.value.Value.TheVariants as value
use Rattle.typed_values.proofs.Counting.{has-with_member}
use Rattle.store_commands.specs.Act.{texts_put}
use Rattle.store_commands.specs.Apply.{put_all}
use Rattle.store_commands.specs.Store.{Store, Key, Write, same_key, write, after_writes, keys_written, HasDistinctKeys}
use Rattle.store_commands.specs.Writes.{last_writes}
use Rattle.store_commands.proofs.Named.{get-write, same_is, same_itself, standing, get-put_all}
use Rattle.store_commands.proofs.Stores.{same_store}

-- ---- the keys are distinct

apart : (k : Key) (ks : List Key) (ts : List (List ℕ)) → has ks k ≡ false → AllByRecursion (λ j. pointwise nat_eq k j ≡ false) (keys_written (last_writes ks ts))
apart k [] ts e = tt
apart k (j ∷ ks) [] e = tt
apart k (j ∷ ks) (t ∷ ts) e =
    let p = or_parts (pointwise nat_eq k j) (has ks k) e in
    elim (has ks j) as (λ b. AllByRecursion (λ j. pointwise nat_eq k j ≡ false) (keys_written (if b then last_writes ks ts else (j, Some (value.Text t)) ∷ last_writes ks ts)))
    [ true ↦ apart k ks ts p.1 | false ↦ (p.0, apart k ks ts p.1) ]

pub last_writes-distinct : (ks : List Key) (ts : List (List ℕ)) → HasDistinctKeys (last_writes ks ts)
unfolding IsDistinct
last_writes-distinct [] ts = tt
last_writes-distinct (k ∷ ks) [] = tt
last_writes-distinct (k ∷ ks) (t ∷ ts) =
    elim (has ks k) as (λ b. has ks k ≡ b → HasDistinctKeys (if b then last_writes ks ts else (k, Some (value.Text t)) ∷ last_writes ks ts))
    [ true ↦ λ e. last_writes-distinct ks ts | false ↦ λ e. (apart k ks ts e, last_writes-distinct ks ts) ] refl

-- ---- what stands afterwards

has_later : (k q : Key) (ks : List Key) → has (k ∷ ks) q ≡ true → same_key q k ≡ false → has ks q ≡ true
has_later k q ks h apart =
    elim (pointwise nat_eq q k) as (λ b. pointwise nat_eq q k ≡ b → (b || has ks q) ≡ true → has ks q ≡ true)
    [ true ↦ λ e h. absurd (true≢false (sym (same_itself q) ∙ ap (same_key q) ((bytes_decides q k).0 e) ∙ apart)) | false ↦ λ e h. h ] refl h

-- a key that is still to be written loses what stood there
covered : (ks : List Key) (ts : List (List ℕ)) (q : Key) (d e : Option Value) → length ks ≡ length ts → has ks q ≡ true → standing ks (texts_put ts) q d ≡ standing ks (texts_put ts) q e
covered [] ts q d e long h = absurd (true≢false (sym h))
covered (k ∷ ks) [] q d e long h = absurd (omega (arith, long))
covered (k ∷ ks) (t ∷ ts) q d e long h =
    elim (same_key q k) as (λ b. same_key q k ≡ b → standing ks (texts_put ts) q (cond b (Some (value.Text t)) d) ≡ standing ks (texts_put ts) q (cond b (Some (value.Text t)) e))
    [ true ↦ λ is. refl | false ↦ λ is. covered ks ts q d e (omega (arith, long)) (has_later k q ks h is) ] refl

stands-last : (ks : List Key) (ts : List (List ℕ)) (q : Key) (s : Store) → length ks ≡ length ts → get (after_writes s (last_writes ks ts)) q ≡ standing ks (texts_put ts) q (get s q)
stands-last [] ts q s long = refl
stands-last (k ∷ ks) [] q s long = absurd (omega (arith, long))
stands-last (k ∷ ks) (t ∷ ts) q s long =
    elim (has ks k) as (λ b. has ks k ≡ b → get (after_writes s (if b then last_writes ks ts else (k, Some (value.Text t)) ∷ last_writes ks ts)) q ≡ standing ks (texts_put ts) q (cond (same_key q k) (Some (value.Text t)) (get s q))) [
      | true ↦ λ h. stands-last ks ts q s shorter ∙ hidden h (same_key q k) refl
      | false ↦ λ h. stands-last ks ts q (write s k (Some (value.Text t))) shorter ∙ ap (standing ks (texts_put ts) q) (get-write s k (Some (value.Text t)) q)
    ] refl
  where
    shorter : length ks ≡ length ts
    shorter = omega (arith, long)

    hidden : has ks k ≡ true → (b : Bool) → same_key q k ≡ b → standing ks (texts_put ts) q (get s q) ≡ standing ks (texts_put ts) q (cond b (Some (value.Text t)) (get s q))
    hidden h true is = covered ks ts q (get s q) (Some (value.Text t)) shorter (subst (λ q. has ks q ≡ true) (sym (same_is q k is)) h)
    hidden h false is = refl

pub last_writes-written : (s : Store) (ks : List Key) (ts : List (List ℕ)) → length ks ≡ length ts → after_writes s (last_writes ks ts) ≡ put_all s ks (texts_put ts)
last_writes-written s ks ts long = same_store _ _ (λ q. stands-last ks ts q s long ∙ sym (get-put_all s ks (texts_put ts) q))

-- ---- one key earlier, from the last to the first

-- the writes of these keys, the last first, when these keys were seen
abbrev pub AreWrites : List Write → List Key → List Key → List (List ℕ) → Type 0
AreWrites done seen ks ts = (reverse done ≡ last_writes ks ts) × ((q : Key) → has seen q ≡ has ks q)

pub no_writes : (done : List Write) (seen ks : List Key) (ts : List (List ℕ)) → done ≡ [] → seen ≡ [] → AreWrites done seen (drop (length ks) ks) (drop (length ks) ts)
no_writes done seen ks ts none unseen = (
  ap reverse none ∙ ap (λ js. last_writes js (drop (length ks) ts)) (sym (drop-length ks)),
  λ q. ap (λ js. has js q) (unseen ∙ sym (drop-length ks)),
)

in_front : (done : List Write) (ks : List Key) (ts : List (List ℕ)) (k : Key) (t : List ℕ) (b : Bool) → has ks k ≡ b → reverse done ≡ last_writes ks ts
    → reverse (if b then done else done ++ (k, Some (value.Text t)) ∷ []) ≡ last_writes (k ∷ ks) (t ∷ ts)
in_front done ks ts k t true e inv = inv ∙ ap (λ b. if b then last_writes ks ts else (k, Some (value.Text t)) ∷ last_writes ks ts) (sym e)
in_front done ks ts k t false e inv =
    reverse-append done ((k, Some (value.Text t)) ∷ []) ∙ ap (λ ws. (k, Some (value.Text t)) ∷ ws) inv
    ∙ ap (λ b. if b then last_writes ks ts else (k, Some (value.Text t)) ∷ last_writes ks ts) (sym e)

also_seen : (seen ks : List Key) (k q : Key) → has seen q ≡ has ks q → has (with_member seen k) q ≡ has (k ∷ ks) q
also_seen seen ks k q same = has-with_member seen k q ∙ ap (λ b. b || same_bytes q k) same ∙ or_comm (has ks q) (same_bytes q k)

-- what stands from a place on
from_place : (xs : List (List ℕ)) (i j : ℕ) (x d : List ℕ) → i < length xs → j ≡ i + 1 → x ≡ get_or xs i d → drop i xs ≡ x ∷ drop j xs
from_place xs i j x d lt next is = drop-cons xs i d lt ∙ ap (λ y. y ∷ drop (suc i) xs) (sym is) ∙ ap (λ n. x ∷ drop n xs) (sym (add-one i) ∙ sym next)

pub one_earlier : (done more : List Write) (seen now ks : List Key) (ts : List (List ℕ)) (i j : ℕ) (k : Key) (t d : List ℕ) (b : Bool)
    → i < length ks → length ks ≡ length ts → j ≡ i + 1 → k ≡ get_or ks i k → t ≡ get_or ts i d
    → b ≡ has seen k → now ≡ with_member seen k → more ≡ (if b then done else done ++ (k, Some (value.Text t)) ∷ [])
    → AreWrites done seen (drop j ks) (drop j ts) → AreWrites more now (drop i ks) (drop i ts)
one_earlier done more seen now ks ts i j k t d b lt long next at_key at_text later noted after inv = (
  ap reverse after ∙ in_front done (drop j ks) (drop j ts) k t b (sym (later ∙ inv.1 k)) inv.0
      ∙ (λ n. last_writes (sym keys_split n) (sym texts_split n)),
  λ q. ap (λ js. has js q) noted ∙ also_seen seen (drop j ks) k q (inv.1 q) ∙ ap (λ js. has js q) (sym keys_split),
)
  where
    keys_split : drop i ks ≡ k ∷ drop j ks
    keys_split = from_place ks i j k k lt next at_key

    texts_split : drop i ts ≡ t ∷ drop j ts
    texts_split = from_place ts i j t d (omega (arith, long)) next at_text
