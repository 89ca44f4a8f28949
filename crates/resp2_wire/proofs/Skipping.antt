-- Empty requests, and what a decoder keeps when it has read nothing.
use Rattle.std.proofs.Common.{◌≡◌, ◌≢◌, ℕ, zero, suc, ◌-◌, ◌≤◌, ◌<◌, Bool, true, false, cond, eqb, List, [], ◌∷◌, ◌++◌, length, drop, replicate, Result, Ok, Err, refl, sym, ap, ◌∙◌, append_assoc, arith}
use Rattle.std.proofs.lemmas.List.{length-append, drop-append-le}
use Rattle.resp2_wire.specs.declared.fault.WireFault.TheVariants.{NotArray, BadCount}
use Rattle.resp2_wire.specs.declared.fault.Stop.{Stop}
use Rattle.resp2_wire.specs.declared.fault.Stop.TheVariants.{Fault}
use Rattle.resp2_wire.specs.declared.progress.Progress.{Progress}
use Rattle.resp2_wire.specs.Reading.{◌>>=◌, byte_at, header_at, at_most, count_at, word_at, words_at, request_at}
use Rattle.resp2_wire.specs.Stream.{Words, NoEmptyFirst, Taken, Skips}
use Rattle.resp2_wire.specs.Progress.{Follows, words_of}
use Rattle.resp2_wire.proofs.Staying.{Read, Cuts, andthen, choosing, returning, is_header, is_at_most, is_words}
use Rattle.resp2_wire.proofs.Going.{count_fails, rest_fits, empty_request, whole}

-- the value of a step that did not fail
pub bind_ok : {A B : Type 0} (r : Result A Stop) (f : A → Result B Stop) (y : B) → (r >>= f) ≡ Ok y → (x : A) × (r ≡ Ok x) × (f x ≡ Ok y)
bind_ok (Ok x) f y e = (x, refl, e)
bind_ok (Err d) f y e = absurd cc

abbrev done : {A : Type 0} → A → Result A Stop
done x = Ok x

ok_same : {A : Type 0} (x y : A) → done x ≡ done y → x ≡ y
ok_same x y e = cc

words_not_empty : (n : ℕ) (bytes rest : List ℕ) → words_at (suc n) bytes ≡ Ok ([], rest) → ⊥
unfolding words_at
words_not_empty n bytes rest e =
    let one = bind_ok (word_at bytes) (λ first. words_at n first.1 >>= λ others. Ok (first.0 ∷ others.0, others.1)) ([], rest) e in
    let two = bind_ok (words_at n one.0.1) (λ others. Ok (one.0.0 ∷ others.0, others.1)) ([], rest) one.2 in
    let both : one.0.0 ∷ two.0.0 ≡ [] = ap (λ (p : Words × List ℕ). p.0) (ok_same (one.0.0 ∷ two.0.0, two.0.1) ([], rest) two.2) in
    cc

pub not_empty : (n : ℕ) (bytes rest : List ℕ) → (n ≡ 0 → ⊥) → count_at bytes ≡ Ok (n, rest) → NoEmptyFirst bytes
unfolding request_at
not_empty zero bytes rest positive e after h = absurd (positive refl)
not_empty (suc n) bytes rest positive e after h =
    let one : request_at bytes ≡ words_at (suc n) rest = rw e refl in
    words_not_empty n rest after (sym one ∙ h)

pub not_empty_err : (e : Stop) (bytes : List ℕ) → count_at bytes ≡ Err e → NoEmptyFirst bytes
not_empty_err e bytes h after ok = let one = count_fails e bytes h in absurd cc

-- ---- a count takes a byte at least

after_mark : List ℕ → Read ℕ
after_mark rest = header_at BadCount rest >>= λ n. cond n.0.negative (Ok (0, n.1)) (at_most 1024 n.0 n.1)

after_mark_cuts : (bytes : List ℕ) → Cuts (after_mark bytes) bytes
unfolding after_mark
after_mark_cuts bytes = (andthen (header_at BadCount) (λ n rest. cond n.negative (Ok (0, rest)) (at_most 1024 n rest)) (is_header BadCount refl)
    (λ n. choosing n.negative (λ rest. Ok (0, rest)) (at_most 1024 n) (returning 0) (is_at_most 1024 n))).cuts bytes

count_shorter : (n : ℕ) (bytes rest : List ℕ) → count_at bytes ≡ Ok (n, rest) → length rest < length bytes
unfolding count_at after_mark
count_shorter n [] rest e = absurd cc
count_shorter n (b ∷ bytes) rest e =
    let one = bind_ok (byte_at 42 NotArray (b ∷ bytes)) (λ mark. after_mark mark.1) (n, rest) e in
    let at : one.0.1 ≡ bytes = tail_is (eqb b 42) bytes one.0 one.1 in
    let fits = rest_fits (after_mark one.0.1) n one.0.1 rest one.2 (after_mark_cuts one.0.1) in
    omega (arith, fits.0, ap length at)
  where
    tail_is : (t : Bool) (bytes : List ℕ) (x : ℕ × List ℕ) → cond t (Ok (42, bytes)) (Err (Fault NotArray)) ≡ Ok x → x.1 ≡ bytes
    tail_is true bytes x e = ap (λ (p : ℕ × List ℕ). p.1) (sym (ok_same (42, bytes) x e))
    tail_is false bytes x e = absurd cc

pub record IsEmpty (bytes rest : List ℕ) : Type 0 where
  pub le : length rest ≤ length bytes
  pub some : 0 < length bytes - length rest
  pub fits : length bytes - length rest ≤ length bytes
  pub reads : request_at bytes ≡ Ok ([], drop (length bytes - length rest) bytes)

pub is_empty : (bytes rest : List ℕ) → count_at bytes ≡ Ok (0, rest) → Cuts (count_at bytes) bytes → IsEmpty bytes rest
is_empty bytes rest e c =
    let fits = rest_fits (count_at bytes) 0 bytes rest e c in
    let short = count_shorter 0 bytes rest e in
    record { le = fits.0; some = omega arith; fits = omega arith; reads = rw fits.1 (empty_request bytes rest e) }

-- ---- Skips

pub skips_more : (old mid new : List ℕ) → Skips old mid → request_at mid ≡ Ok ([], new) → Skips old new
skips_more old mid new s e = (suc s.0, go s.0 old s.1)
  where
    go : (n : ℕ) (from : List ℕ) → Taken from (replicate n []) mid → Taken from (replicate (suc n) []) new
    go zero from t = (new, rw t e, refl)
    go (suc n) from t = (t.0, t.1, go n t.0 t.2)

-- ---- what a decoder keeps

pub nothing_read : (p : Progress) (bytes : List ℕ) → p.count ≡ 0 → p.at ≡ 0 → length (words_of p) ≡ 0 → NoEmptyFirst bytes → Follows p bytes
nothing_read p bytes count at words first = record {
  fits = omega arith;
  few = omega arith;
  most = omega arith;
  start = λ z. at;
  not_empty = λ z. first;
  reads = λ lt. absurd (omega arith);
}

pub goes_on : (p : Progress) (bytes piece : List ℕ) → Follows p bytes → 0 < p.count → Follows p (bytes ++ piece)
goes_on p bytes piece f lt = record {
  fits = omega (arith, length-append bytes piece, f.fits);
  few = f.few;
  most = f.most;
  start = λ z. absurd (omega arith);
  not_empty = λ z. absurd (omega arith);
  reads = λ lt more.
      let le : p.at ≤ length bytes = f.fits in
      rw (drop-append-le, append_assoc, append_assoc) (f.reads lt (piece ++ more));
}

pub is_whole : (p : Progress) (bytes : List ℕ) → Follows p bytes → 0 < p.count → length (words_of p) ≡ p.count → (request_at bytes ≡ Ok (words_of p, drop p.at bytes)) × (words_of p ≢ [])
is_whole p bytes f lt all =
    (whole (words_of p) (p.count - length (words_of p)) (drop p.at bytes) bytes (omega arith) (f.reads lt), λ e. let none : length (words_of p) ≡ 0 = ap length e in absurd (omega arith))

pub nothing_first : NoEmptyFirst []
unfolding request_at count_at
nothing_first rest e = absurd cc

-- ---- a request takes a byte at least

request_shorter : (r : Words) (bytes rest : List ℕ) → request_at bytes ≡ Ok (r, rest) → length rest < length bytes
unfolding request_at
request_shorter r bytes rest e =
    let one = bind_ok (count_at bytes) (λ n. words_at n.0 n.1) (r, rest) e in
    let first = count_shorter one.0.0 bytes one.0.1 one.1 in
    let others = rest_fits (words_at one.0.0 one.0.1) r one.0.1 rest one.2 ((is_words one.0.0).cuts one.0.1) in
    omega (arith, others.0)

taken_fits : (a b : List ℕ) (rs : List Words) → Taken a rs b → length b ≤ length a
taken_fits a b [] t = omega (arith, ap length t)
taken_fits a b (r ∷ rs) t = omega (arith, request_shorter r a t.0 t.1, taken_fits t.0 b rs t.2)

pub next_less : (old mid new : List ℕ) (r : Words) → request_at old ≡ Ok (r, mid) → Skips mid new → length new < length old
next_less old mid new r e s = omega (arith, request_shorter r old mid e, taken_fits mid new (replicate s.0 []) s.1)
