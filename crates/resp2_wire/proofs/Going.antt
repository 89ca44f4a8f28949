-- Steps of reading a request on.
use Rattle.std.proofs.Common.{◌≡◌, ℕ, zero, suc, ◌+◌, ◌-◌, ◌≤◌, ◌<◌, List, [], ◌∷◌, ◌++◌, length, take, drop, Ok, Err, refl, sym, ap, subst, ◌∙◌, append_assoc, arith}
use Rattle.std.proofs.lemmas.List.{append-nil, length-append, drop_at, take-append-drop}
use Rattle.resp2_wire.specs.declared.fault.WireFault.TheVariants.{Memory}
use Rattle.resp2_wire.specs.declared.fault.Stop.{Stop}
use Rattle.resp2_wire.specs.declared.fault.Stop.TheVariants.{Unfinished, Fault}
use Rattle.resp2_wire.specs.Reading.{◌>>=◌, count_at, word_at, words_at, request_at}
use Rattle.resp2_wire.specs.Stream.{Words, NoEmptyFirst}
use Rattle.resp2_wire.specs.Progress.{with_words, Stops}
use Rattle.resp2_wire.proofs.Staying.{Read, Cuts, cuts_more, is_count, is_word}

pub stops_from : (e : Stop) (bytes : List ℕ) → request_at bytes ≡ Err e → Stops e bytes
stops_from (Fault Memory) bytes h = tt
stops_from (Fault f) bytes h = h
stops_from Unfinished bytes h = h

-- what is left, by where it begins
pub rest_fits : {A : Type 0} (r : Read A) (a : A) (bytes rest : List ℕ) → r ≡ Ok (a, rest) → Cuts r bytes → (length rest ≤ length bytes) × (drop (length bytes - length rest) bytes ≡ rest)
rest_fits {A = A} r a bytes rest e c =
    let d : Cuts (Ok (a, rest)) bytes = subst (λ (x : Read A). Cuts x bytes) e c in
    let len : length bytes ≡ length d.0 + length rest = ap length d.1 ∙ length-append d.0 rest in
    (omega arith, let k : length d.0 ≡ length bytes - length rest = omega arith in ap (drop (length bytes - length rest)) d.1 ∙ drop_at d.0 rest (length bytes - length rest) k)

with_none : (r : Read Words) → with_words [] r ≡ r
with_none (Ok x) = refl
with_none (Err e) = refl

with_more : (prefix : Words) (w : List ℕ) (r : Read Words) → with_words prefix (r >>= λ x. Ok (w ∷ x.0, x.1)) ≡ with_words (prefix ++ w ∷ []) r
with_more prefix w (Ok x) = ap (λ (ws : Words). Ok (ws, x.1)) (simp append_assoc)
with_more prefix w (Err e) = refl

-- ---- the count

pub count_fails : (e : Stop) (bytes : List ℕ) → count_at bytes ≡ Err e → request_at bytes ≡ Err e
unfolding request_at
count_fails e bytes h = rw h

pub empty_request : (bytes rest : List ℕ) → count_at bytes ≡ Ok (0, rest) → request_at bytes ≡ Ok ([], rest)
unfolding request_at words_at
empty_request bytes rest h = rw h

pub count_positive : (n : ℕ) (bytes rest : List ℕ) → NoEmptyFirst bytes → count_at bytes ≡ Ok (n, rest) → 0 < n
count_positive zero bytes rest none h = absurd (none rest (empty_request bytes rest h))
count_positive (suc n) bytes rest none h = omega arith

pub count_reads : (n : ℕ) (bytes rest more : List ℕ) → count_at bytes ≡ Ok (n, rest) → with_words [] (words_at n (rest ++ more)) ≡ request_at (bytes ++ more)
unfolding request_at
count_reads n bytes rest more h =
    let longer : count_at (bytes ++ more) ≡ Ok (n, rest ++ more) = rw h at (is_count.stays bytes more) in
    rw longer (with_none (words_at n (rest ++ more)))

-- ---- a word

-- what reading goes on with, whatever follows
abbrev pub Goes : Words → ℕ → List ℕ → List ℕ → Type 0
Goes ws n rest bytes = (more : List ℕ) → with_words ws (words_at n (rest ++ more)) ≡ request_at (bytes ++ more)

pub word_fails : (e : Stop) (ws : Words) (n : ℕ) (rest bytes : List ℕ) → 0 < n → Goes ws n rest bytes → word_at rest ≡ Err e → request_at bytes ≡ Err e
unfolding words_at
word_fails e ws zero rest bytes lt h fails = absurd (omega arith)
word_fails e ws (suc n) rest bytes lt h fails =
    let one : with_words ws (words_at (suc n) (rest ++ [])) ≡ Err e = rw (append-nil rest, fails) refl in
    rw (append-nil bytes) at (sym (h []) ∙ one)

pub word_goes : (ws : Words) (w : List ℕ) (n m : ℕ) (rest after bytes : List ℕ) → n ≡ suc m → Goes ws n rest bytes → word_at rest ≡ Ok (w, after) → Goes (ws ++ w ∷ []) m after bytes
unfolding words_at
word_goes ws w n m rest after bytes e h reads more =
    let longer : word_at (rest ++ more) ≡ Ok (w, after ++ more) = rw reads at (is_word.stays rest more) in
    let one : with_words ws (words_at n (rest ++ more)) ≡ with_words (ws ++ w ∷ []) (words_at m (after ++ more)) = rw (e, longer) (with_more ws w (words_at m (after ++ more))) in
    sym one ∙ h more

pub word_fits : (at : ℕ) (w bytes after : List ℕ) → word_at (drop at bytes) ≡ Ok (w, after) → (length after ≤ length bytes) × (drop (length bytes - length after) bytes ≡ after)
word_fits at w bytes after h =
    rest_fits (word_at (drop at bytes)) w bytes after h (cuts_more (word_at (drop at bytes)) bytes (take at bytes) (drop at bytes) (sym (take-append-drop at bytes)) (is_word.cuts (drop at bytes)))

pub whole : (ws : Words) (n : ℕ) (rest bytes : List ℕ) → n ≡ 0 → Goes ws n rest bytes → request_at bytes ≡ Ok (ws, rest)
unfolding words_at
whole ws n rest bytes e h =
    let one : with_words ws (words_at n (rest ++ [])) ≡ Ok (ws, rest) = rw (e, append-nil rest, append-nil ws) refl in
    rw (append-nil bytes) at (sym (h []) ∙ one)

pub no_words : (ws : Words) → length ws ≤ 0 → ws ≡ []
no_words [] h = refl
no_words (w ∷ ws) h = absurd (omega arith)
