-- Where memory may run out as a reply is read.
use Rattle.std.proofs.Common.{◌≡◌, ℕ, Bool, true, false, List, [], ◌∷◌, Result, Ok, Err, refl, sym, subst, inl, inr}
use Rattle.byte_texts.specs.Outcomes.{IsAnswered}
use Rattle.resp2_wire.specs.declared.fault.WireFault.{WireFault}
use Rattle.resp2_wire.specs.declared.fault.Stop.{Stop}
use Rattle.resp2_wire.specs.declared.fault.Stop.TheVariants.{Unfinished, Fault}
use Rattle.resp2_wire.specs.Faults.{is_memory}
use Rattle.resp2_wire.specs.Reading.{Reads}
use Rattle.resp2_wire.specs.Tree.{Tree}
use Rattle.resp2_wire.specs.Replies.{Read, OnMemory}
use Rattle.resp2_wire.proofs.Staying.{Tells}

abbrev Kept : Bool → Type 0 → Type 0
Kept b P = elim b as (λ c. Type 0) [ true ↦ P | false ↦ Unit {0} ]

not_kept : (b : Bool) (P : Type 0) → b ≡ false → Kept b P
not_kept b P e = subst (λ c. Kept c P) (sym e) tt

-- a fault that was read is none of memory's
pub not_by_memory : {A : Type 0} (X : Type 0) (r : Result A Stop) (e : Stop) (P : Type 0) → Tells r → r ≡ Err e → OnMemory {X = X} (Err e) P
not_by_memory X r Unfinished P tells is = tt
not_by_memory {A = A} X r (Fault f) P tells is = not_kept (is_memory f) P (subst (λ (x : Result A Stop). Tells x) is tells)

-- what is read without memory
pub read_only : {X : Type 0} (view : X → Tree × List ℕ) (result : Result X Stop) (read : Read Tree) (P : Type 0) → Tells read → Reads view result read → OnMemory result P
read_only view (Ok x) read P tells is = tt
read_only {X = X} view (Err e) read P tells is = not_by_memory X read e P tells is
