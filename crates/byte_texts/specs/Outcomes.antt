-- What a call answers: its meaning or out of memory, the first refusal that applies, and steps one after the other.
use Rattle.std.specs.Prelude.{◌≡◌, Bool, true, false, cond, List, [], ◌∷◌, Option, Some, None, Result, Ok, Err}

-- there is an answer, and no refusal
abbrev pub IsAnswered : {A F : Type 0} → Result A F → Type 0
IsAnswered (Ok x) = Unit {0}
IsAnswered (Err e) = ⊥

-- The refusal is the meaning's own, or it is out of memory, which may come where `may` holds.
abbrev pub RefusedOrMemory : {A F : Type 0} → (is_memory : F → Bool) → (may : Type 0) → Result A F → F → Type 0
RefusedOrMemory is_memory may meaning e = elim (is_memory e) [ true ↦ may | false ↦ meaning ≡ Err e ]

-- What was given, seen by `view`, is what is meant, or memory ran out, which may come where `may` holds.
abbrev pub GivesOrMemory : {A B F : Type 0} → (is_memory : F → Bool) → (may : Type 0) → (view : A → B) → Result B F
    → Result A F → Type 0
GivesOrMemory is_memory may view meaning (Ok x) = meaning ≡ Ok (view x)
GivesOrMemory is_memory may view meaning (Err e) = RefusedOrMemory is_memory may meaning e

-- Out of memory may come only in the place of an answer: a call that is to be refused is refused with its own reason.
abbrev pub RefusedUnlessMemory : {A F : Type 0} → (is_memory : F → Bool) → Result A F → F → Type 0
RefusedUnlessMemory is_memory meaning e = RefusedOrMemory is_memory (IsAnswered meaning) meaning e

abbrev pub UnlessMemory : {A B F : Type 0} → (is_memory : F → Bool) → (view : A → B) → Result B F → Result A F → Type 0
UnlessMemory is_memory view meaning result = GivesOrMemory is_memory (IsAnswered meaning) view meaning result

-- the first refusal whose condition holds
abbrev pub first_refusal : {F : Type 0} → List (Bool × F) → Option F
first_refusal [] = None
first_refusal (row ∷ rows) = cond row.0 (Some row.1) (first_refusal rows)

-- what f makes of an answer; a refusal stays
infixl 10 ◌>>=◌
abbrev pub ◌>>=◌ : {A B F : Type 0} → Result A F → (A → Result B F) → Result B F
(Ok x) >>= f = f x
(Err e) >>= f = Err e

-- steps one after the other, from a first state to a last one
abbrev pub Chain : {P S : Type 0} → (P → S → P → Type 0) → P → List S → P → Type 0
Chain {P} moves first [] last = last ≡ first
Chain {P} moves first (s ∷ ss) last = (next : P) × moves first s next × Chain moves next ss last
