-- Steps of the loops over a line's bytes.
use Rattle.std.proofs.Common.{◌≡◌, ℕ, suc, ◌+◌, ◌-◌, ◌≤◌, ◌<◌, true, false, eqb, List, [], ◌∷◌, ◌++◌, length, get_or, take, drop, Result, Ok, Err, refl, sym, ap, ◌∙◌, append_assoc, arith}
use Rattle.std.proofs.lemmas.List.{append-nil, take_more, drop_more, drop_all}
use Rattle.resp2_wire.specs.declared.fault.WireFault.{WireFault}
use Rattle.resp2_wire.specs.declared.fault.Stop.{Stop}
use Rattle.resp2_wire.specs.declared.fault.Stop.TheVariants.{Unfinished, Fault}
use Rattle.resp2_wire.specs.Reading.{◌>>=◌, before_cr}

abbrev pub Line : Type 0
Line = Result (List ℕ × List ℕ) Stop

abbrev pub with_prefix : List ℕ → Line → Line
with_prefix prefix read = read >>= λ x. Ok (prefix ++ x.0, x.1)

regroup : (prefix : List ℕ) (b : ℕ) (read : Line) → with_prefix prefix (read >>= λ x. Ok (b ∷ x.0, x.1)) ≡ with_prefix (prefix ++ b ∷ []) read
regroup prefix b (Ok x) = ap (λ (ns : List ℕ). Ok (ns, x.1)) (simp append_assoc)
regroup prefix b (Err f) = refl

module _ (f : WireFault) (bytes : List ℕ) (n i : ℕ) (total : Line) (lt : i < n) (so_far : with_prefix (take i bytes) (before_cr f (n - i) (drop i bytes)) ≡ total) where
  pub line_goes_on : i < length bytes → eqb (get_or bytes i 0) 13 ≡ false → with_prefix (take (i + 1) bytes) (before_cr f (n - (i + 1)) (drop (i + 1) bytes)) ≡ total
  unfolding before_cr
  line_goes_on len other =
      let k : n - i ≡ suc (n - (i + 1)) = omega arith in
      let one : with_prefix (take i bytes) (before_cr f (n - i) (drop i bytes)) ≡ with_prefix (take i bytes ++ get_or bytes i 0 ∷ []) (before_cr f (n - (i + 1)) (drop (i + 1) bytes)) = rw (k, drop_more bytes i 0 len, other) (regroup (take i bytes) (get_or bytes i 0) (before_cr f (n - (i + 1)) (drop (i + 1) bytes))) in
      rw (take_more bytes i 0 len) (sym one ∙ so_far)

  pub line_ends : i < length bytes → eqb (get_or bytes i 0) 13 ≡ true → total ≡ Ok (take i bytes, drop (i + 1) bytes)
  unfolding before_cr
  line_ends len here =
      let k : n - i ≡ suc (n - (i + 1)) = omega arith in
      let one : with_prefix (take i bytes) (before_cr f (n - i) (drop i bytes)) ≡ Ok (take i bytes, drop (i + 1) bytes) = rw (k, drop_more bytes i 0 len, here) (ap (λ (ns : List ℕ). Ok (ns, drop (i + 1) bytes)) (append-nil (take i bytes))) in
      sym so_far ∙ one

  pub line_is_short : length bytes ≤ i → total ≡ Err Unfinished
  unfolding before_cr
  line_is_short le =
      let k : n - i ≡ suc (n - (i + 1)) = omega arith in
      let one : with_prefix (take i bytes) (before_cr f (n - i) (drop i bytes)) ≡ Err Unfinished = rw (k, drop_all i bytes le) refl in
      sym so_far ∙ one

pub line_is_long : (f : WireFault) (bytes prefix : List ℕ) (n i : ℕ) (total : Line) → n ≤ i → with_prefix prefix (before_cr f (n - i) bytes) ≡ total → total ≡ Err (Fault f)
unfolding before_cr
line_is_long f bytes prefix n i total le so_far =
    let k : n - i ≡ 0 = omega arith in
    let one : with_prefix prefix (before_cr f (n - i) bytes) ≡ Err (Fault f) = rw k refl in
    sym so_far ∙ one
