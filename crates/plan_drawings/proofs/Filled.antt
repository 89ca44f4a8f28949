-- One byte of a template.
use Rattle.std.proofs.Common.{◌≡◌, ℕ, ◌-◌, ◌<◌, ◌≤◌, true, false, cond, ◌==◌, List, [], ◌∷◌, ◌++◌, length, take, drop}
use Rattle.std.proofs.Common.{get_or, append_assoc, append-nil, decimal, sym, ap, ◌∙◌, arith, ◌⊎◌, inl, inr}
use Rattle.std.proofs.lemmas.List.{take_all}
use Rattle.plan_drawings.specs.Filling.{filled}

-- a number stands in its place
pub number_put : (old new ns t : List ℕ) (c d : ℕ) → c ≡ 37 → 1 ≤ length ns → new ≡ old ++ decimal (get_or ns 0 d)
    → new ++ filled t (take (length ns - 1) (drop 1 ns)) ≡ old ++ filled (c ∷ t) ns
unfolding filled
number_put old new [] t c d is some put = absurd (omega arith)
number_put old new (n ∷ ns) t c d is some put =
    let few : length (n ∷ ns) - 1 ≡ length ns = omega arith in
    let rest : take (length (n ∷ ns) - 1) ns ≡ ns = rw few (take_all (length ns) ns (omega arith)) in
    let test : (c == 37) ≡ true = ap (λ (x : ℕ). x == 37) is in
    ap (λ (o : List ℕ). o ++ filled t (take (length (n ∷ ns) - 1) ns)) put
    ∙ append_assoc old (decimal n) (filled t (take (length (n ∷ ns) - 1) ns))
    ∙ ap (λ (r : List ℕ). old ++ (decimal n ++ filled t r)) rest
    ∙ ap (λ b. old ++ cond b (decimal n ++ filled t ns) (c ∷ filled t (n ∷ ns))) (sym test)

-- a byte that stays
pub byte_put : (old new ns t : List ℕ) (c : ℕ) → ((length ns < 1) ⊎ ((c == 37) ≡ false)) → new ≡ old ++ c ∷ []
    → new ++ filled t ns ≡ old ++ filled (c ∷ t) ns
unfolding filled
byte_put old new [] t c stays put =
    ap (λ (o : List ℕ). o ++ filled t []) put ∙ append_assoc old (c ∷ []) (filled t [])
byte_put old new (n ∷ ns) t c (inl few) put = absurd (omega arith)
byte_put old new (n ∷ ns) t c (inr other) put =
    ap (λ (o : List ℕ). o ++ filled t (n ∷ ns)) put ∙ append_assoc old (c ∷ []) (filled t (n ∷ ns))
    ∙ ap (λ b. old ++ cond b (decimal n ++ filled t ns) (c ∷ filled t (n ∷ ns))) (sym other)

-- nothing is still to come
pub all_put : (whole out rest ns : List ℕ) → length rest < 1 → whole ≡ out ++ filled rest ns → out ≡ whole
unfolding filled
all_put whole out [] ns none is = sym (is ∙ append-nil out)
all_put whole out (c ∷ t) ns none is = absurd (omega arith)
