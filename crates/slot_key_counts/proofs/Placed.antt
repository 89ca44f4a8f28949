-- Where the keys and the owners of slots stand in lists.
use Rattle.std.proofs.Common.{◌≡◌, ◌≢◌, ◌∙◌, ◌⊎◌, ℕ, zero, suc, ◌+◌, ◌*◌, ◌<◌, Bool, true, false, cond, ◌&&◌, List, [], ◌∷◌, ◌++◌, get_or, set, length, replicate, Option, None, Some, nat_lt, refl, sym, ap, inl, inr, arith, add-one}
use Rattle.std.proofs.lemmas.List.{get_or-set_other, get_or-set_same}
use Rattle.std.proofs.lemmas.Bool.{lt-ltb}
use Rattle.std.proofs.lemmas.Bool.Decides.{eqb_tells, leb_tells}
use Rattle.std.specs.Prelude.{◌==◌}
use Rattle.slot_key_counts.specs.Questions.{asked_owner, no_owner, with_owner}
use Rattle.slot_key_counts.specs.Rounds.{batch, nothing, with_keys}
use Rattle.slot_key_counts.specs.Tables.{told_in}
use Rattle.slot_key_counts.specs.declared.key_table.KeyTable.{KeyTable}
use Rattle.slot_key_counts.specs.declared.questions.SlotQuestions.{SlotQuestions}

blank_at : {A : Type 0} (n i : ℕ) (x : A) → get_or (replicate n x) i x ≡ x
blank_at zero i x = refl
blank_at (suc n) zero x = refl
blank_at (suc n) (suc i) x = blank_at n i x

none_either : (b : Bool) (o : Option ℕ) → o ≡ None → cond b o None ≡ None
none_either true o is = is
none_either false o is = refl

-- ---- keys

pub blank_told : (t : KeyTable) (count : ℕ) → t.keys.items ≡ replicate count None → told_in t ≡ nothing
blank_told t count blank = λ i n s.
    none_either (nat_lt s 16384) (get_or t.keys.items (n * 16384 + s) None)
    (ap (λ (xs : List (Option ℕ)). get_or xs (n * 16384 + s) None) blank ∙ blank_at count (n * 16384 + s) None) i

below : (r : ℕ) → (r < 16384) ⊎ (nat_lt r 16384 ≡ false)
below r = elim (leb_tells (suc r) 16384) as (λ x. (r < 16384) ⊎ (nat_lt r 16384 ≡ false)) [
  | inl x ↦ inl (omega (arith, x.1))
  | inr x ↦ inr x.0
]

-- a slot's place at a node is that of no other
module _ (t t' : KeyTable) (n s k : ℕ) (slot : s < 16384) (place : n * 16384 + s < length t.keys.items)
    (is : t'.keys.items ≡ set t.keys.items (n * 16384 + s) (Some k)) where
  here : told_in t' n s ≡ Some k
  here = ap (λ (b : Bool). cond b (get_or t'.keys.items (n * 16384 + s) None) None) (lt-ltb s 16384 slot)
      ∙ ap (λ (xs : List (Option ℕ)). get_or xs (n * 16384 + s) None) is
      ∙ get_or-set_same t.keys.items (n * 16384 + s) (Some k) None place

  one_place : (m r : ℕ) → r < 16384 → m * 16384 + r ≡ n * 16384 + s → (m ≡ n) × (r ≡ s)
  one_place m r less same = (omega arith, omega arith)

  apart : (m r : ℕ) → (m ≢ n) ⊎ (r ≢ s) → (m ≡ n) × (r ≡ s) → ⊥
  apart m r (inl x) both = x both.0
  apart m r (inr x) both = x both.1

  elsewhere : (m r : ℕ) → (m ≢ n) ⊎ (r ≢ s) → told_in t' m r ≡ told_in t m r
  elsewhere m r other = elim (below r) as (λ x. told_in t' m r ≡ told_in t m r) [
    | inl less ↦ ap (λ (xs : List (Option ℕ)). cond (nat_lt r 16384) (get_or xs (m * 16384 + r) None) None) is
        ∙ ap (λ (o : Option ℕ). cond (nat_lt r 16384) o None)
        (get_or-set_other t.keys.items (n * 16384 + s) (m * 16384 + r) (Some k) None (λ same. apart m r other (one_place m r less same)))
    | inr far ↦ ap (λ (b : Bool). cond b (get_or t'.keys.items (m * 16384 + r) None) None) far
        ∙ sym (ap (λ (b : Bool). cond b (get_or t.keys.items (m * 16384 + r) None) None) far)
  ]

  told_at : (m r : ℕ) → told_in t' m r ≡ cond ((n == m) && (s == r)) (Some k) (told_in t m r)
  told_at m r = elim (eqb_tells n m) as (λ x. told_in t' m r ≡ cond ((n == m) && (s == r)) (Some k) (told_in t m r)) [
    | inr other ↦ elsewhere m r (inl (λ e. other.1 (sym e)))
        ∙ sym (ap (λ (b : Bool). cond (b && (s == r)) (Some k) (told_in t m r)) other.0)
    | inl same ↦ elim (eqb_tells s r) as (λ x. told_in t' m r ≡ cond ((n == m) && (s == r)) (Some k) (told_in t m r)) [
      | inr other ↦ elsewhere m r (inr (λ e. other.1 (sym e)))
          ∙ sym (ap (λ (b : Bool). cond (b && (s == r)) (Some k) (told_in t m r)) same.0
          ∙ ap (λ (b : Bool). cond b (Some k) (told_in t m r)) other.0)
      | inl slot_same ↦ ap (λ (x : ℕ). told_in t' x r) (sym same.1) ∙ ap (λ (x : ℕ). told_in t' n x) (sym slot_same.1) ∙ here
          ∙ sym (ap (λ (b : Bool). cond (b && (s == r)) (Some k) (told_in t m r)) same.0
          ∙ ap (λ (b : Bool). cond b (Some k) (told_in t m r)) slot_same.0)
    ]
  ]

  pub told_put : told_in t' ≡ with_keys (told_in t) n s k
  told_put = λ i m r. told_at m r i

-- ---- owners

pub blank_owners : (owners : List (Option ℕ)) (count : ℕ) → owners ≡ replicate count None
    → (λ (s : ℕ). get_or owners s None) ≡ no_owner
blank_owners owners count blank =
    λ i s. (ap (λ (xs : List (Option ℕ)). get_or xs s None) blank ∙ blank_at count s None) i

module _ (q q' : SlotQuestions) (s o : ℕ) (slot : s < length q.owners.items) (is : q'.owners.items ≡ set q.owners.items s (Some o)) where
  owner_at : (r : ℕ) → asked_owner q' r ≡ cond (s == r) (Some o) (asked_owner q r)
  owner_at r = elim (eqb_tells s r) as (λ x. asked_owner q' r ≡ cond (s == r) (Some o) (asked_owner q r)) [
    | inl same ↦ ap (λ (xs : List (Option ℕ)). get_or xs r None) is
        ∙ ap (λ (x : ℕ). get_or (set q.owners.items s (Some o)) x None) (sym same.1)
        ∙ get_or-set_same q.owners.items s (Some o) None slot
        ∙ sym (ap (λ (b : Bool). cond b (Some o) (asked_owner q r)) same.0)
    | inr other ↦ ap (λ (xs : List (Option ℕ)). get_or xs r None) is
        ∙ get_or-set_other q.owners.items s r (Some o) None (λ e. other.1 (sym e))
        ∙ sym (ap (λ (b : Bool). cond b (Some o) (asked_owner q r)) other.0)
  ]

  pub owner_put : asked_owner q' ≡ with_owner (asked_owner q) s o
  owner_put = λ i r. owner_at r i

-- ---- a batch

pub batch_none : (asked : ℕ → Bool) (r : ℕ) → batch asked r 0 ≡ []
unfolding batch
batch_none asked r = refl

batch_suc : (asked : ℕ → Bool) (r k : ℕ) → batch asked r (suc k) ≡ batch asked r k ++ cond (asked (r + 64 * k)) ((r + 64 * k) ∷ []) []
unfolding batch
batch_suc asked r k = refl

-- one slot more is looked at
pub batch_more : (asked : ℕ → Bool) (r k s : ℕ) (old new : List ℕ) (b : Bool) → old ≡ batch asked r k → s ≡ r + 64 * k → b ≡ asked s
    → new ≡ old ++ cond b (s ∷ []) [] → new ≡ batch asked r (k + 1)
batch_more asked r k s old new b before place test is = is
    ∙ ap (λ (xs : List ℕ). xs ++ cond b (s ∷ []) []) before
    ∙ ap (λ (c : Bool). batch asked r k ++ cond c (s ∷ []) []) test
    ∙ ap (λ (x : ℕ). batch asked r k ++ cond (asked x) (x ∷ []) []) place
    ∙ sym (batch_suc asked r k)
    ∙ ap (λ (x : ℕ). batch asked r x) (sym (add-one k))
