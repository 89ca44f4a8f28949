-- Reading replies one after the other.
use Rattle.std.proofs.Common.{◌≡◌, ℕ, suc, ◌+◌, ◌-◌, ◌≤◌, ◌<◌, List, [], ◌∷◌, ◌++◌, Result, Ok, Err, refl, sym, ap, ◌∙◌, arith}
use Rattle.resp2_wire.specs.declared.fault.WireFault.TheVariants.{Memory}
use Rattle.resp2_wire.specs.declared.fault.Stop.{Stop}
use Rattle.resp2_wire.specs.declared.fault.Stop.TheVariants.{Unfinished, Fault}
use Rattle.resp2_wire.specs.Reading.{◌>>=◌}
use Rattle.resp2_wire.specs.declared.reply.Reply.{Reply}
use Rattle.resp2_wire.specs.Tree.{Tree, Trees, none, more}
use Rattle.resp2_wire.specs.View.{tree}
use Rattle.resp2_wire.specs.Replies.{Read, Fails, many}
use Rattle.resp2_wire.specs.View.{trees}

abbrev pub plus : Trees → Trees → Trees
plus none us = us
plus (more t ts) us = more t (plus ts us)

abbrev pub with_prefix : Trees → Read Trees → Read Trees
with_prefix prefix read = read >>= λ x. Ok (plus prefix x.0, x.1)

plus-nil : (ts : Trees) → plus ts none ≡ ts
plus-nil none = refl
plus-nil (more t ts) = ap (more t) (plus-nil ts)

plus-cons : (ts : Trees) (t : Tree) (us : Trees) → plus ts (more t us) ≡ plus (plus ts (more t none)) us
plus-cons none t us = refl
plus-cons (more u ts) t us = ap (more u) (plus-cons ts t us)

pub trees-push : (xs : List Reply) (x : Reply) → trees (xs ++ x ∷ []) ≡ plus (trees xs) (more (tree x) none)
trees-push [] x = refl
trees-push (y ∷ xs) x = ap (more (tree y)) (trees-push xs x)

regroup : (prefix : Trees) (t : Tree) (read : Read Trees) → with_prefix prefix (read >>= λ x. Ok (more t x.0, x.1)) ≡ with_prefix (plus prefix (more t none)) read
regroup prefix t (Ok x) = ap (λ (ts : Trees). Ok (ts, x.1)) (plus-cons prefix t x.0)
regroup prefix t (Err f) = refl

with_nil : (r : Read Trees) → with_prefix none r ≡ r
with_nil (Ok x) = refl
with_nil (Err e) = refl

pub fails_more : {A B : Type 0} (e : Stop) (r : Result A Stop) (f : A → Result B Stop) → Fails e r → Fails e (r >>= f)
fails_more (Fault Memory) r f h = tt
fails_more (Fault g) r f h = rw h refl
fails_more Unfinished r f h = rw h refl

module _ (one : List ℕ → Read Tree) (count i : ℕ) (bytes : List ℕ) (prefix : Trees) (total : Read Trees) (so_far : with_prefix prefix (many one (count - i) bytes) ≡ total) where
  pub goes_on : (t : Tree) (after : List ℕ) → i < count → one bytes ≡ Ok (t, after) → with_prefix (plus prefix (more t none)) (many one (count - (i + 1)) after) ≡ total
  goes_on t after lt h =
      let k : count - i ≡ suc (count - (i + 1)) = omega arith in
      let same : with_prefix prefix (many one (count - i) bytes) ≡ with_prefix (plus prefix (more t none)) (many one (count - (i + 1)) after) = rw (k, h) (regroup prefix t (many one (count - (i + 1)) after)) in
      sym same ∙ so_far

  err : (e : Stop) → i < count → one bytes ≡ Err e → with_prefix prefix (many one (count - i) bytes) ≡ Err e
  err e lt h = let k : count - i ≡ suc (count - (i + 1)) = omega arith in rw (k, h) refl

  pub ends : (e : Stop) → i < count → Fails e (one bytes) → Fails e total
  ends (Fault Memory) lt h = tt
  ends (Fault f) lt h = sym so_far ∙ err (Fault f) lt h
  ends Unfinished lt h = sym so_far ∙ err Unfinished lt h

  pub is_done : count ≤ i → total ≡ Ok (prefix, bytes)
  is_done le =
      let k : count - i ≡ 0 = omega arith in
      let same : with_prefix prefix (many one (count - i) bytes) ≡ Ok (prefix, bytes) = rw k (ap (λ (ts : Trees). Ok (ts, bytes)) (plus-nil prefix)) in
      sym so_far ∙ same

pub starts : (one : List ℕ → Read Tree) (n : ℕ) (bytes : List ℕ) → with_prefix none (many one n bytes) ≡ many one n bytes
starts one n bytes = with_nil (many one n bytes)
