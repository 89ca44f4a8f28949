-- Servers that were asked one after the other.
use Rattle.std.proofs.Common.{◌≡◌, ◌<◌, ◌≤◌, ◌⊎◌, ℕ, zero, suc, ◌+◌, List, [], ◌∷◌, ◌++◌, Some, length, arith, refl, inl, inr, ap, subst, sym, ◌∙◌}
use Rattle.std.specs.Prelude.{Bool, true, false, nat_lt, slice_get, Ok}
use Rattle.plan_outlines.specs.declared.nodes.NodeServer.{NodeServer}
use Rattle.server_commands.specs.Servers.{server_at}
use Rattle.server_commands.specs.declared.book.Server.{Server}
use Rattle.server_infos.specs.Asking.{AreToldBy, IsTold, IsToldBy}
use Rattle.server_infos.specs.declared.figures.Figures.{Figures}
use Rattle.server_links.specs.Asking.{AsksAt}
use Rattle.server_links.specs.Exchanges.{Answer}
use Rattle.std.proofs.lemmas.Bool.{ltb-false, ltb-true}
use Rattle.std.proofs.lemmas.List.{length-append}
use Rattle.std.proofs.lemmas.Option.{slice_get-get_or}
use Rattle.std.proofs.Math.Seq.{get_or-append_seam}
use Rattle.std.proofs.lemmas.List.{get_or_append_left}
use Rattle.std.proofs.Common.{get_or}

longer : {T : Type 0} (told : List T) (t : T) → length (told ++ t ∷ []) ≡ length told + 1
longer told t = length-append told (t ∷ [])

at_end : {T : Type 0} (told : List T) (t : T) → slice_get (told ++ t ∷ []) (length told) ≡ Some t
at_end told t =
    let is : length (told ++ t ∷ []) ≡ length told + 1 = longer told t in
    slice_get-get_or (told ++ t ∷ []) (length told) t (omega (arith, is)) ∙ ap Some (get_or-append_seam told t [] t)

before_end : {T : Type 0} (told : List T) (t x : T) (n : ℕ) → n < length told → slice_get told n ≡ Some x
    → slice_get (told ++ t ∷ []) n ≡ Some x
before_end told t x n lt is =
    let long : length (told ++ t ∷ []) ≡ length told + 1 = longer told t in
    slice_get-get_or (told ++ t ∷ []) n x (omega (arith, long, lt)) ∙ (ap Some (get_or_append_left told (t ∷ []) x n lt) ∙ (sym (slice_get-get_or told n x lt) ∙ is))

-- one more was told
pub one_more : {T : Type 0} (P : ℕ → T → Type 0) (k : ℕ) (told : List T) (t : T) → length told ≡ k
    → ((n : ℕ) → n < k → (x : T) × (slice_get told n ≡ Some x) × P n x) → P k t
    → (n : ℕ) → n < k + 1 → (x : T) × (slice_get (told ++ t ∷ []) n ≡ Some x) × P n x
one_more {T} P k told t len each last n lt = go (split n k lt)
  where
    split : (n k : ℕ) → n < k + 1 → (n < k) ⊎ (n ≡ k)
    split n k lt = by (nat_lt n k) refl
      where
        by : (b : Bool) → nat_lt n k ≡ b → (n < k) ⊎ (n ≡ k)
        by true e = inl (ltb-true n k e)
        by false e =
            let least : k ≤ n = ltb-false n k e in
            inr (omega (arith, least, lt))

    go : (n < k) ⊎ (n ≡ k) → (x : T) × (slice_get (told ++ t ∷ []) n ≡ Some x) × P n x
    go (inl less) =
        let e = each n less in
        (e.0, before_end told t e.0 n (subst (λ m. n < m) (sym len) less) e.1, e.2)
    go (inr same) =
        (t, subst (λ m. slice_get (told ++ t ∷ []) m ≡ Some t) (len ∙ sym same) (at_end told t), subst (λ m. P m t) (sym same) last)

-- ---- the servers of a book

module _ {L : Type 0} (exchanges : L → Answer → L → Type 0) (book : List Server) where
  pub told_none : AreToldBy exchanges book 0 []
  told_none = (refl, λ n lt. absurd (omega (arith, lt)))

  -- the server of this number, whose entry this is, was asked
  pub more_told : (k m : ℕ) (old new : List NodeServer) (s : Server) (t : NodeServer) → m ≡ k → s ≡ server_at book m
      → new ≡ old ++ t ∷ [] → IsToldBy exchanges m s t → AreToldBy exchanges book k old → AreToldBy exchanges book (k + 1) new
  more_told k m old new s t same is put told all =
      let last : IsToldBy exchanges k (server_at book k) t =
      subst (λ n. IsToldBy exchanges n (server_at book n) t) same (subst (λ x. IsToldBy exchanges m x t) is told) in
      subst (AreToldBy exchanges book (k + 1)) (sym put)
      (longer old t ∙ ap (λ n. n + 1) all.0, one_more (λ n x. IsToldBy exchanges n (server_at book n) x) k old t all.0 all.1 last)

  pub told_to : (k : ℕ) (told : List NodeServer) → k ≡ length book → AreToldBy exchanges book k told
      → AreToldBy exchanges book (length book) told
  told_to k told is all = subst (λ n. AreToldBy exchanges book n told) is all

-- the texts of the server were copied
pub told_by : {L : Type 0} (exchanges : L → Answer → L → Type 0) (n : ℕ) (s : Server) (host name : List ℕ) (f : Figures)
    (links links' : List L) → host ≡ s.host → name ≡ s.name → AsksAt (IsTold exchanges n) links n (Ok f) links'
    → IsToldBy exchanges n s (record {
      node = n;
      host = host;
      port = s.port;
      name = name;
      keys = f.keys;
      used_memory = f.used_memory;
      max_memory = f.max_memory;
    })
told_by exchanges n s host name f links links' same_host same_name asked = (
  links,
  links',
  f,
  asked,
  λ i. record {
    node = n;
    host = same_host i;
    port = s.port;
    name = same_name i;
    keys = f.keys;
    used_memory = f.used_memory;
    max_memory = f.max_memory;
  },
)
