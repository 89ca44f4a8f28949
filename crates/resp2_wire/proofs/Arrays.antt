use Rattle.std.proofs.Common.{◌≡◌, false, ltb, ℕ, zero, suc, ◌-◌, List, Result, Ok, Err, refl, ◌∙◌, arith}
use Rattle.resp2_wire.specs.declared.fault.WireFault.TheVariants.{BadCount, TooLarge, Memory}
use Rattle.resp2_wire.specs.declared.fault.Stop.{Stop}
use Rattle.resp2_wire.specs.declared.fault.Stop.TheVariants.{Unfinished, Fault}
use Rattle.resp2_wire.specs.Reading.{◌>>=◌, Numeral, header_at}
use Rattle.resp2_wire.specs.Tree.{Tree, Trees, array}
use Rattle.resp2_wire.specs.Replies.{Read, Fails, Gives, many, array_of, array_at, reply_at}

pub array_zero : (bytes : List ℕ) → array_at 0 bytes ≡ Err (Fault TooLarge)
unfolding array_at
array_zero bytes = refl

pub array_is : (depth : ℕ) (bytes : List ℕ) → (depth ≡ 0 → ⊥) → array_at depth bytes ≡ (header_at BadCount bytes >>= λ n. array_of (reply_at (depth - 1)) n.0 n.1)
unfolding array_at
array_is zero bytes ne = absurd (ne refl)
array_is (suc d) bytes ne = let k : suc d - 1 ≡ d = omega arith in rw k refl

pub array_header : (depth : ℕ) (bytes : List ℕ) (n : Numeral) (rest : List ℕ) → (depth ≡ 0 → ⊥) → header_at BadCount bytes ≡ Ok (n, rest) → array_at depth bytes ≡ array_of (reply_at (depth - 1)) n rest
array_header depth bytes n rest ne h = array_is depth bytes ne ∙ rw h refl

pub array_gives : {X : Type 0} (view : X → Tree × List ℕ) (r : Result X Stop) (depth : ℕ) (bytes : List ℕ) (n : Numeral) (rest : List ℕ) → (depth ≡ 0 → ⊥) → header_at BadCount bytes ≡ Ok (n, rest) → Gives view r (array_of (reply_at (depth - 1)) n rest) → Gives view r (array_at depth bytes)
array_gives view r depth bytes n rest ne h g = rw (array_header depth bytes n rest ne h) g

pub array_fails : (e : Stop) (depth : ℕ) (bytes : List ℕ) → (depth ≡ 0 → ⊥) → header_at BadCount bytes ≡ Err e → array_at depth bytes ≡ Err e
array_fails e depth bytes ne h = array_is depth bytes ne ∙ rw h refl

pub fails_from : {A : Type 0} (e : Stop) (r : Result A Stop) → r ≡ Err e → Fails e r
fails_from (Fault Memory) r h = tt
fails_from (Fault f) r h = h
fails_from Unfinished r h = h

pub array_is_read : (one : List ℕ → Read Tree) (n : Numeral) (bytes : List ℕ) (ts : Trees) (rest : List ℕ) → n.negative ≡ false → ltb 2097152 n.size ≡ false → many one n.size bytes ≡ Ok (ts, rest) → array_of one n bytes ≡ Ok (array ts, rest)
array_is_read one n bytes ts rest neg small h = rw (neg, small, h) refl
