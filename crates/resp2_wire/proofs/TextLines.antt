-- Steps of the loop over a text's bytes.
use Rattle.std.proofs.Common.{◌≡◌, ℕ, zero, suc, ◌+◌, ◌-◌, ◌≤◌, ◌<◌, false, eqb, List, [], ◌∷◌, ◌++◌, length, get_or, take, drop, Ok, Err, refl, sym, ap, ◌∙◌, append_assoc, arith}
use Rattle.std.proofs.lemmas.List.{append-nil, take_more, drop_more, drop_all}
use Rattle.std.proofs.lemmas.Bool.{ne_eqb}
use Rattle.resp2_wire.specs.declared.fault.WireFault.TheVariants.{TooLarge, MissingCrLf}
use Rattle.resp2_wire.specs.declared.fault.Stop.{Stop}
use Rattle.resp2_wire.specs.declared.fault.Stop.TheVariants.{Unfinished, Fault}
use Rattle.resp2_wire.specs.Reading.{◌>>=◌, byte_at}
use Rattle.resp2_wire.specs.Replies.{Read, line_at}

abbrev pub prefixed_line : List ℕ → Read (List ℕ) → Read (List ℕ)
prefixed_line prefix read = read >>= λ x. Ok (prefix ++ x.0, x.1)

regroup : (prefix : List ℕ) (b : ℕ) (read : Read (List ℕ)) → prefixed_line prefix (read >>= λ x. Ok (b ∷ x.0, x.1)) ≡ prefixed_line (prefix ++ b ∷ []) read
regroup prefix b (Ok x) = ap (λ (ns : List ℕ). Ok (ns, x.1)) (simp append_assoc)
regroup prefix b (Err f) = refl

-- at a CR
at_cr : (n : ℕ) (bytes : List ℕ) → line_at n (13 ∷ bytes) ≡ (byte_at 10 MissingCrLf bytes >>= λ x. Ok ([], x.1))
unfolding line_at
at_cr zero bytes = refl
at_cr (suc n) bytes = refl

at_lf : (n : ℕ) (bytes : List ℕ) → line_at n (10 ∷ bytes) ≡ Err (Fault MissingCrLf)
unfolding line_at
at_lf zero bytes = refl
at_lf (suc n) bytes = refl

at_end : (n : ℕ) → line_at n [] ≡ Err Unfinished
unfolding line_at
at_end zero = refl
at_end (suc n) = refl

module _ (bytes : List ℕ) (n i : ℕ) (total : Read (List ℕ)) (so_far : prefixed_line (take i bytes) (line_at (n - i) (drop i bytes)) ≡ total) where
  pub line_goes_on : i < n → i < length bytes → (get_or bytes i 0 ≡ 13 → ⊥) → (get_or bytes i 0 ≡ 10 → ⊥) → prefixed_line (take (i + 1) bytes) (line_at (n - (i + 1)) (drop (i + 1) bytes)) ≡ total
  unfolding line_at
  line_goes_on lt len cr lf =
      let k : n - i ≡ suc (n - (i + 1)) = omega arith in
      let a : eqb (get_or bytes i 0) 13 ≡ false = ne_eqb _ _ cr in
      let b : eqb (get_or bytes i 0) 10 ≡ false = ne_eqb _ _ lf in
      let one : prefixed_line (take i bytes) (line_at (n - i) (drop i bytes)) ≡ prefixed_line (take i bytes ++ get_or bytes i 0 ∷ []) (line_at (n - (i + 1)) (drop (i + 1) bytes)) = rw (k, drop_more bytes i 0 len, a, b) (regroup (take i bytes) (get_or bytes i 0) (line_at (n - (i + 1)) (drop (i + 1) bytes))) in
      rw (take_more bytes i 0 len) (sym one ∙ so_far)

  pub line_long : n ≤ i → i < length bytes → (get_or bytes i 0 ≡ 13 → ⊥) → (get_or bytes i 0 ≡ 10 → ⊥) → total ≡ Err (Fault TooLarge)
  unfolding line_at
  line_long le len cr lf =
      let k : n - i ≡ 0 = omega arith in
      let a : eqb (get_or bytes i 0) 13 ≡ false = ne_eqb _ _ cr in
      let b : eqb (get_or bytes i 0) 10 ≡ false = ne_eqb _ _ lf in
      let one : prefixed_line (take i bytes) (line_at (n - i) (drop i bytes)) ≡ Err (Fault TooLarge) = rw (k, drop_more bytes i 0 len, a, b) refl in
      sym so_far ∙ one

  pub line_lf : i < length bytes → get_or bytes i 0 ≡ 10 → total ≡ Err (Fault MissingCrLf)
  line_lf len here =
      let one : prefixed_line (take i bytes) (line_at (n - i) (drop i bytes)) ≡ Err (Fault MissingCrLf) = rw (drop_more bytes i 0 len, here, at_lf (n - i) (drop (i + 1) bytes)) refl in
      sym so_far ∙ one

  pub line_short : length bytes ≤ i → total ≡ Err Unfinished
  line_short le =
      let one : prefixed_line (take i bytes) (line_at (n - i) (drop i bytes)) ≡ Err Unfinished = rw (drop_all i bytes le, at_end (n - i)) refl in
      sym so_far ∙ one

  cr_is : i < length bytes → get_or bytes i 0 ≡ 13 → total ≡ prefixed_line (take i bytes) (byte_at 10 MissingCrLf (drop (i + 1) bytes) >>= λ x. Ok ([], x.1))
  cr_is len here = sym so_far ∙ rw (drop_more bytes i 0 len, here, at_cr (n - i) (drop (i + 1) bytes)) refl

  pub line_ends : (rest : List ℕ) → i < length bytes → get_or bytes i 0 ≡ 13 → byte_at 10 MissingCrLf (drop (i + 1) bytes) ≡ Ok (10, rest) → total ≡ Ok (take i bytes, rest)
  line_ends rest len here h = cr_is len here ∙ rw h (ap (λ (ns : List ℕ). Ok (ns, rest)) (append-nil (take i bytes)))

  pub line_breaks : (e : Stop) → i < length bytes → get_or bytes i 0 ≡ 13 → byte_at 10 MissingCrLf (drop (i + 1) bytes) ≡ Err e → total ≡ Err e
  line_breaks e len here h = cr_is len here ∙ rw h refl
