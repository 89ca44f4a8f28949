-- A fault that stands in the bytes is told, whatever memory there is.
use Rattle.std.proofs.Common.{◌≡◌, ◌≢◌, ℕ, suc, Bool, true, false, List, [], ◌∷◌, Option, Some, None, Result, Ok, Err, refl, sym, ap, subst, ◌∙◌}
use Rattle.std.proofs.lemmas.Bool.{true≢false}
use Rattle.byte_texts.specs.Outcomes.{IsAnswered, RefusedUnlessMemory}
use Rattle.resp2_wire.specs.declared.fault.WireFault.{WireFault}
use Rattle.resp2_wire.specs.declared.fault.WireFault.TheVariants.{Memory}
use Rattle.resp2_wire.specs.declared.fault.Stop.{Stop}
use Rattle.resp2_wire.specs.declared.fault.Stop.TheVariants.{Unfinished, Fault}
use Rattle.resp2_wire.specs.Faults.{is_memory}
use Rattle.resp2_wire.specs.Reading.{◌>>=◌, word_at, words_at, request_at}
use Rattle.resp2_wire.specs.Progress.{Stops, stop_of, fault_of}
use Rattle.resp2_wire.specs.Stream.{Words, Next, requested}
use Rattle.resp2_wire.proofs.Staying.{Read, Tells, is_request}

-- ---- words that are passed over

abbrev after_word : List ℕ → Words × List ℕ → Read Words
after_word w x = Ok (w ∷ x.0, x.1)

stop_after : (w : List ℕ) (r : Read Words) → stop_of (r >>= after_word w) ≡ stop_of r
stop_after w (Ok x) = refl
stop_after w (Err e) = refl

pub passes : (n m : ℕ) (bytes w rest : List ℕ) → n ≡ suc m → word_at bytes ≡ Ok (w, rest) → stop_of (words_at n bytes) ≡ stop_of (words_at m rest)
unfolding words_at
passes n m bytes w rest one_more read = rw (one_more, read) (stop_after w (words_at m rest))

pub stops_at : (n m : ℕ) (bytes : List ℕ) (e : Stop) → n ≡ suc m → word_at bytes ≡ Err e → stop_of (words_at n bytes) ≡ Some e
unfolding words_at
stops_at n m bytes e one_more read = rw (one_more, read) refl

pub none_left : (n : ℕ) (bytes : List ℕ) → n ≡ 0 → stop_of (words_at n bytes) ≡ None
unfolding words_at
none_left n bytes none = rw none refl

-- ---- what is told

refuse_by : (b : Bool) (A B : Type 0) → b ≡ false → B → elim b as (λ c. Type 0) [ true ↦ A | false ↦ B ]
refuse_by true A B e x = absurd (true≢false e)
refuse_by false A B e x = x

refused : (r : Read Words) (f : WireFault) → Tells r → r ≡ Err (Fault f) → RefusedUnlessMemory is_memory (requested r) f
refused r f tells is = refuse_by (is_memory f) (IsAnswered (requested r)) (requested r ≡ Err f) (subst (λ (x : Read Words). Tells x) is tells) (ap requested is)

no_fault : (r : Read Words) → fault_of (stop_of r) ≡ None → IsAnswered (requested r)
no_fault (Ok x) e = tt
no_fault (Err Unfinished) e = tt
no_fault (Err (Fault f)) e = cc

fault_found : (r : Read Words) (f : WireFault) → fault_of (stop_of r) ≡ Some f → r ≡ Err (Fault f)
fault_found (Ok x) f e = cc
fault_found (Err Unfinished) f e = cc
fault_found (Err (Fault g)) f e = let same : g ≡ f = cc in ap (λ (h : WireFault). Err (Fault h)) same

pub told_behind : (bytes : List ℕ) (f : WireFault) (o : Option WireFault) → o ≡ Some f → o ≡ fault_of (stop_of (request_at bytes)) → RefusedUnlessMemory is_memory (requested (request_at bytes)) f
told_behind bytes f o is found = refused (request_at bytes) f (is_request.tells bytes) (fault_found (request_at bytes) f (sym found ∙ is))

pub told_memory : (bytes : List ℕ) (o : Option WireFault) → o ≡ None → o ≡ fault_of (stop_of (request_at bytes)) → RefusedUnlessMemory is_memory (requested (request_at bytes)) Memory
told_memory bytes o is found = no_fault (request_at bytes) (sym found ∙ is)

pub told_met : (bytes : List ℕ) (f : WireFault) → f ≢ Memory → Stops (Fault f) bytes → RefusedUnlessMemory is_memory (requested (request_at bytes)) f
told_met bytes Memory ne stops = absurd (ne refl)
told_met bytes f ne stops = refused (request_at bytes) f (is_request.tells bytes) stops

-- ---- what it says of the stream

asked_fault : (r : Read Words) (f : WireFault) → requested r ≡ Err f → r ≡ Err (Fault f)
asked_fault (Ok x) f e = cc
asked_fault (Err Unfinished) f e = cc
asked_fault (Err (Fault g)) f e = let same : g ≡ f = cc in ap (λ (h : WireFault). Err (Fault h)) same

pub fault_is : (old new : List ℕ) (f : WireFault) → f ≢ Memory → Next old (Err f) new → request_at old ≡ Err (Fault f)
fault_is old new Memory ne n = absurd (ne refl)
fault_is old new f ne n = asked_fault (request_at old) f n.0
