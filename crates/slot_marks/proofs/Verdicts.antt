-- The rows of a verdict, as the code comes to them.
use Rattle.std.proofs.Common.{◌≡◌, ℕ, ◌<◌, Bool, true, false, cond, not, ◌&&◌, ◌||◌, List, [], ◌∷◌, drop, take, take_all, length-drop, ◌-◌, length, get_or, Option, Some, None, is_some, refl, sym, ap, ◌∙◌, nat_eq, arith}
use Rattle.std.specs.Prelude.{◌==◌, slice_index}
use Rattle.std.specs.FinMap.{get}
use Rattle.slot_marks.specs.Tables.{Table}
use Rattle.std.specs.Cmp.{nat_eq_equiv}
use Rattle.std.specs.Cmp.Lexicographic.{pointwise}
use Rattle.std.specs.List.{list_any, list_all}
use Rattle.key_slots.specs.HashSlot.{slot_of}
use Rattle.slot_marks.specs.Verdicts.{first_slot, is_cross, is_pair, first_row, judged, judged_by}
use Rattle.slot_marks.specs.declared.verdict.Verdict.TheVariants.{Serve, Moved, Ask, TryAgain, CrossSlot}

pub first_slot-at : (ks : List (List ℕ)) (d : List ℕ) → 0 < length ks → first_slot ks ≡ slot_of (get_or ks 0 d)
first_slot-at [] d h = absurd (omega arith)
first_slot-at (k ∷ ks) d h = refl

same_number : (n : ℕ) → not (n == n) ≡ false
same_number n = ap not (nat_eq_equiv.refl n)

-- the first key has the slot of the first
pub is_cross-rest : (ks : List (List ℕ)) (slot : ℕ) → 0 < length ks → first_slot ks ≡ slot → is_cross ks ≡ list_any (λ k. not (slot_of k == slot)) (drop 1 ks)
is_cross-rest [] slot h e = absurd (omega arith)
is_cross-rest (k ∷ ks) slot h e =
    ap (λ n. list_any (λ q. not (slot_of q == n)) (k ∷ ks)) e ∙ ap (λ n. not (n == slot) || list_any (λ q. not (slot_of q == slot)) ks) e
    ∙ ap (λ b. b || list_any (λ q. not (slot_of q == slot)) ks) (same_number slot)

pub is_pair-rest : (ks : List (List ℕ)) (d : List ℕ) → 0 < length ks → is_pair ks ≡ list_any (λ q. not (pointwise nat_eq (get_or ks 0 d) q)) (drop 1 ks)
is_pair-rest [] d h = absurd (omega arith)
is_pair-rest (k ∷ ks) d h = refl

-- none is here
pub all_missing : (present : List Bool) → list_all not present ≡ not (list_any (λ b. b) present)
all_missing [] = refl
all_missing (true ∷ bs) = refl
all_missing (false ∷ bs) = all_missing bs

pub judged-cross : (me owner : ℕ) (goes comes : Option ℕ) (asking : Bool) (ks : List (List ℕ)) (present : List Bool) → is_cross ks ≡ true
    → CrossSlot ≡ judged me owner goes comes asking ks present
judged-cross me owner goes comes asking ks present cross = rw cross refl

source_rows : (missing here comes asking pair : Bool) (target owner : ℕ)
    → first_row ((missing && here, TryAgain) ∷ (not here, Ask target) ∷ []) Serve
    ≡ first_row ((missing && here, TryAgain) ∷ (not here, Ask target) ∷ (comes && asking && pair && missing, TryAgain) ∷ (comes && asking, Serve) ∷ (true, Serve) ∷ []) (Moved owner)
source_rows true true comes asking pair target owner = refl
source_rows true false comes asking pair target owner = refl
source_rows false false comes asking pair target owner = refl
source_rows false true true true true target owner = refl
source_rows false true true true false target owner = refl
source_rows false true true false pair target owner = refl
source_rows false true false asking pair target owner = refl

-- at the owner of a slot that goes elsewhere
pub judged-source : (me owner target : ℕ) (goes comes : Option ℕ) (asking : Bool) (ks : List (List ℕ)) (present : List Bool) → is_cross ks ≡ false → (owner == me) ≡ true → goes ≡ Some target
    → first_row ((list_any not present && list_any (λ b. b) present, TryAgain) ∷ (list_all not present, Ask target) ∷ []) Serve ≡ judged me owner goes comes asking ks present
judged-source me owner target goes comes asking ks present cross mine to =
    rw (cross, mine, to, all_missing present) (source_rows (list_any not present) (list_any (λ b. b) present) (is_some comes) asking (is_pair ks) target owner)

target_rows : (mine leaves missing here all pair : Bool) (target owner : ℕ) → (mine && leaves) ≡ false
    → first_row ((pair && missing, TryAgain) ∷ []) Serve
    ≡ first_row ((mine && leaves && missing && here, TryAgain) ∷ (mine && leaves && all, Ask target) ∷ (pair && missing, TryAgain) ∷ (true, Serve) ∷ (mine, Serve) ∷ []) (Moved owner)
target_rows true true missing here all pair target owner e = cc
target_rows true false missing here all pair target owner e = refl
target_rows false leaves missing here all pair target owner e = refl

-- where the slot does not go from here, and comes from elsewhere, for a client that is asking
pub judged-target : (me owner : ℕ) (goes comes : Option ℕ) (asking : Bool) (ks : List (List ℕ)) (present : List Bool) → is_cross ks ≡ false → (owner == me && is_some goes) ≡ false → is_some comes ≡ true → asking ≡ true
    → first_row ((is_pair ks && list_any not present, TryAgain) ∷ []) Serve ≡ judged me owner goes comes asking ks present
judged-target me owner goes comes asking ks present cross stays from asks =
    rw (cross, from, asks) (target_rows (owner == me) (is_some goes) (list_any not present) (list_any (λ b. b) present) (list_all not present) (is_pair ks) _ owner stays)

plain_rows : (mine leaves comes asking missing here all pair : Bool) (target owner : ℕ) → (mine && leaves) ≡ false → (comes && asking) ≡ false
    → cond mine Serve (Moved owner)
    ≡ first_row ((mine && leaves && missing && here, TryAgain) ∷ (mine && leaves && all, Ask target) ∷ (comes && asking && pair && missing, TryAgain) ∷ (comes && asking, Serve) ∷ (mine, Serve) ∷ []) (Moved owner)
plain_rows true true comes asking missing here all pair target owner e f = cc
plain_rows true false true true missing here all pair target owner e f = cc
plain_rows true false true false missing here all pair target owner e f = refl
plain_rows true false false asking missing here all pair target owner e f = refl
plain_rows false leaves true true missing here all pair target owner e f = cc
plain_rows false leaves true false missing here all pair target owner e f = refl
plain_rows false leaves false asking missing here all pair target owner e f = refl

-- where it neither goes nor is asked for
pub judged-plain : (me owner : ℕ) (goes comes : Option ℕ) (asking : Bool) (ks : List (List ℕ)) (present : List Bool) → is_cross ks ≡ false → (owner == me && is_some goes) ≡ false → (is_some comes && asking) ≡ false
    → cond (owner == me) Serve (Moved owner) ≡ judged me owner goes comes asking ks present
judged-plain me owner goes comes asking ks present cross stays from =
    rw cross (plain_rows (owner == me) (is_some goes) (is_some comes) asking (list_any not present) (list_any (λ b. b) present) (list_all not present) (is_pair ks) _ owner stays from)

pub source-none : (target : ℕ) (present : List Bool) → list_any (λ b. b) present ≡ false
    → Ask target ≡ first_row ((list_any not present && list_any (λ b. b) present, TryAgain) ∷ (list_all not present, Ask target) ∷ []) Serve
source-none target present none = rw (all_missing present, none) (by (list_any not present))
  where
    by : (b : Bool) → Ask target ≡ cond (b && false) TryAgain (Ask target)
    by true = refl
    by false = refl

pub source-all : (target : ℕ) (present : List Bool) → list_any (λ b. b) present ≡ true → list_any not present ≡ false
    → Serve ≡ first_row ((list_any not present && list_any (λ b. b) present, TryAgain) ∷ (list_all not present, Ask target) ∷ []) Serve
source-all target present some none = rw (all_missing present, some, none) refl

pub slot-first : (ks : List (List ℕ)) (k g : List ℕ) (slot : ℕ) → 0 < length ks → k ≡ get_or ks 0 k → g ≡ k → slot ≡ slot_of g → first_slot ks ≡ slot
slot-first ks k g slot some at is slot_is = first_slot-at ks k some ∙ ap slot_of (sym (is ∙ at)) ∙ sym slot_is

-- by a table, once the slot is known
pub judged_by-at : (t : Table) (asking : Bool) (ks : List (List ℕ)) (present : List Bool) (slot : ℕ) → first_slot ks ≡ slot
    → judged t.me (slice_index t.owners slot) (get t.migrating slot) (get t.importing slot) asking ks present ≡ judged_by t asking ks present
unfolding judged_by
judged_by-at t asking ks present slot e = ap (λ s. judged t.me (slice_index t.owners s) (get t.migrating s) (get t.importing s) asking ks present) (sym e)

behind_first : (ks : List (List ℕ)) → take (length ks - 1) (drop 1 ks) ≡ drop 1 ks
behind_first ks = take_all (length ks - 1) (drop 1 ks) (omega (arith, length-drop 1 ks))

-- what the other keys answer says whether the keys have several slots
pub cross-is : (ks : List (List ℕ)) (slot : ℕ) (b : Bool) → 0 < length ks → first_slot ks ≡ slot → b ≡ list_any (λ k. not (slot_of k == slot)) (take (length ks - 1) (drop 1 ks)) → is_cross ks ≡ b
cross-is ks slot b some first is = is_cross-rest ks slot some first ∙ ap (list_any (λ k. not (slot_of k == slot))) (sym (behind_first ks)) ∙ sym is

-- the owner and the node as they were read
pub mine-is : (o owner m me : ℕ) (r : Bool) → o ≡ owner → m ≡ me → r ≡ (o == m) → (owner == me) ≡ r
mine-is o owner m me r owner_is me_is is = (λ i. sym owner_is i == sym me_is i) ∙ sym is

pub stays-foreign : (mine leaves : Bool) → mine ≡ false → (mine && leaves) ≡ false
stays-foreign mine leaves e = ap (λ b. b && leaves) e

pub stays-unmarked : (mine : Bool) (goes : Option ℕ) → None ≡ goes → (mine && is_some goes) ≡ false
stays-unmarked true goes e = ap is_some (sym e)
stays-unmarked false goes e = refl

pub not_asking : (comes asking : Bool) → asking ≡ false → (comes && asking) ≡ false
not_asking true asking e = e
not_asking false asking e = refl

pub not_coming : (comes asking : Bool) → comes ≡ false → (comes && asking) ≡ false
not_coming comes asking e = ap (λ b. b && asking) e
