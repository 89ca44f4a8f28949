-- What a decoder keeps of the request that it is reading.
use Rattle.std.specs.Prelude.{◌≡◌, ℕ, ◌-◌, ◌<◌, ◌≤◌, List, ◌++◌, length, drop, Option, Some, None, Result, Ok, Err}
use Rattle.resp2_wire.specs.declared.request.TheConstants.{MAX_WORDS}
use Rattle.resp2_wire.specs.declared.fault.WireFault.{WireFault}
use Rattle.resp2_wire.specs.declared.fault.WireFault.TheVariants.{Memory}
use Rattle.resp2_wire.specs.declared.fault.Stop.{Stop}
use Rattle.resp2_wire.specs.declared.fault.Stop.TheVariants.{Fault}
use Rattle.resp2_wire.specs.declared.progress.Progress.{Progress}
use Rattle.resp2_wire.specs.Reading.{◌>>=◌, words_at, request_at}
use Rattle.resp2_wire.specs.Stream.{Words, NoEmptyFirst}

abbrev pub words_of : Progress → Words
words_of p = p.words.items

abbrev pub with_words : Words → Result (Words × List ℕ) Stop → Result (Words × List ℕ) Stop
with_words prefix read = read >>= λ x. Ok (prefix ++ x.0, x.1)

-- The first `at` bytes are the count and the words so far, whatever follows; where the count is 0 nothing is read.
pub record Follows (p : Progress) (bytes : List ℕ) : Type 0 where
  pub fits : p.at ≤ length bytes
  pub few : length (words_of p) ≤ p.count
  pub most : p.count ≤ MAX_WORDS
  pub start : p.count ≡ 0 → p.at ≡ 0
  pub not_empty : p.count ≡ 0 → NoEmptyFirst bytes
  pub reads : 0 < p.count → (more : List ℕ)
      → with_words (words_of p) (words_at (p.count - length (words_of p)) (drop p.at bytes ++ more))
      ≡ request_at (bytes ++ more)

-- why reading stopped; out of memory says nothing
abbrev pub Stops : Stop → List ℕ → Type 0
Stops (Fault Memory) bytes = Unit {0}
Stops e bytes = request_at bytes ≡ Err e

-- ---- reading without keeping

-- why reading stopped, and the fault among the reasons
abbrev pub stop_of : {A : Type 0} → Result A Stop → Option Stop
stop_of (Ok x) = None
stop_of (Err e) = Some e

abbrev pub fault_of : Option Stop → Option WireFault
fault_of (Some (Fault f)) = Some f
fault_of other = None
