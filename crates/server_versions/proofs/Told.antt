-- Servers that were asked one after the other.
use Rattle.std.proofs.Common.{◌≡◌, ◌<◌, ◌⊎◌, ℕ, ◌+◌, List, [], ◌∷◌, ◌++◌, Some, length, arith, get_or, refl, inl, inr}
use Rattle.std.proofs.Common.{ap, subst, sym, ◌∙◌}
use Rattle.std.proofs.Math.Seq.{get_or-append_seam}
use Rattle.std.proofs.lemmas.List.{get_or_append_left, length-append}
use Rattle.std.proofs.lemmas.Option.{slice_get-get_or}
use Rattle.std.specs.Prelude.{slice_get, Ok}
use Rattle.server_links.specs.Exchanges.{Answer}
use Rattle.server_versions.proofs.More.{below_or_last}
use Rattle.server_versions.specs.Asking.{AreToldBy, IsTold, IsToldBy}
use Rattle.server_versions.specs.declared.versions.ServerVersion.{ServerVersion}

longer : {T : Type 0} (told : List T) (t : T) → length (told ++ t ∷ []) ≡ length told + 1
longer told t = length-append told (t ∷ [])

at_end : {T : Type 0} (told : List T) (t : T) → slice_get (told ++ t ∷ []) (length told) ≡ Some t
at_end told t =
    let is : length (told ++ t ∷ []) ≡ length told + 1 = longer told t in
    slice_get-get_or (told ++ t ∷ []) (length told) t (omega (arith, is)) ∙ ap Some (get_or-append_seam told t [] t)

before_end : {T : Type 0} (told : List T) (t x : T) (n : ℕ) → n < length told → slice_get told n ≡ Some x
    → slice_get (told ++ t ∷ []) n ≡ Some x
before_end told t x n lt is =
    let long : length (told ++ t ∷ []) ≡ length told + 1 = longer told t in
    slice_get-get_or (told ++ t ∷ []) n x (omega (arith, long, lt))
    ∙ (ap Some (get_or_append_left told (t ∷ []) x n lt) ∙ (sym (slice_get-get_or told n x lt) ∙ is))

-- one more was told
one_more : {T : Type 0} (P : ℕ → T → Type 0) (k : ℕ) (told : List T) (t : T) → length told ≡ k
    → ((n : ℕ) → n < k → (x : T) × (slice_get told n ≡ Some x) × P n x) → P k t
    → (n : ℕ) → n < k + 1 → (x : T) × (slice_get (told ++ t ∷ []) n ≡ Some x) × P n x
one_more {T} P k told t len each last n lt = go (below_or_last n k lt)
  where
    go : (n < k) ⊎ (n ≡ k) → (x : T) × (slice_get (told ++ t ∷ []) n ≡ Some x) × P n x
    go (inl less) =
        let e = each n less in
        (e.0, before_end told t e.0 n (subst (λ m. n < m) (sym len) less) e.1, e.2)
    go (inr same) = (
      t,
      subst (λ m. slice_get (told ++ t ∷ []) m ≡ Some t) (len ∙ sym same) (at_end told t),
      subst (λ m. P m t) (sym same) last,
    )

module _ {L : Type 0} (exchanges : L → Answer → L → Type 0) where
  pub told_none : AreToldBy exchanges 0 []
  told_none = (refl, λ n lt. absurd (omega (arith, lt)))

  -- the server of this number told its version
  pub more_told : (k m : ℕ) (old new : List ServerVersion) (v : ServerVersion) → m ≡ k → new ≡ old ++ v ∷ []
      → IsToldBy exchanges m v → AreToldBy exchanges k old → AreToldBy exchanges (k + 1) new
  more_told k m old new v same put told all =
      let last : IsToldBy exchanges k v = subst (λ n. IsToldBy exchanges n v) same told in
      subst (AreToldBy exchanges (k + 1)) (sym put)
      (longer old v ∙ ap (λ n. n + 1) all.0, one_more (λ n x. IsToldBy exchanges n x) k old v all.0 all.1 last)

  pub told_to : (k count : ℕ) (told : List ServerVersion) → k ≡ count → AreToldBy exchanges k told
      → AreToldBy exchanges count told
  told_to k count told is all = subst (λ n. AreToldBy exchanges n told) is all
