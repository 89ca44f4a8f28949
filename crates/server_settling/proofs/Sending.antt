-- One request more, or one that stops.
use Rattle.std.proofs.Common.{◌≡◌, ◌∙◌, ℕ, suc, ◌<◌, ◌≤◌, List, [], ◌∷◌, length, get_or, take, drop, Result, Ok, Err}
use Rattle.std.proofs.Common.{refl, subst, ap, arith, inl, inr}
use Rattle.server_settling.specs.Asking.{Asks, Each}
use Rattle.server_settling.specs.Copying.{Batches, Copies, CopiesAll}
use Rattle.server_settling.specs.declared.setup.OpenSlot.{OpenSlot}
use Rattle.server_settling.specs.declared.setup.SettleSetup.{SettleSetup}
use Rattle.server_settling.specs.declared.stop.SettleStop.{SettleStop}

-- the first of those that are left stops
pub first_stops : {S : Type 0} (does : ℕ → S → Result (Unit {0}) SettleStop → S → Type 0) (xs : List ℕ) (s s' : S)
    (e : SettleStop) → 1 ≤ length xs → does (get_or xs 0 0) s (Err e) s' → Each does xs s (Err e) s'
first_stops does [] s s' e some stops = absurd (omega arith)
first_stops does (x ∷ xs) s s' e some stops = inr (e, stops, refl)

module _ {S : Type 0} (asks : Asks S) (x : SettleSetup) (o : OpenSlot)
    (keys batch : List (List ℕ)) (n : ℕ) (some : 0 < length keys) (size : n ≡ x.batch) (first : batch ≡ take n keys) where
  is_first : batch ≡ take x.batch keys
  is_first = first ∙ ap (λ i. take i keys) size

  -- a batch was sent, and then the others
  pub batch_sent : (others : List (List ℕ)) (s mid s' : S) (r : Result (Unit {0}) SettleStop) (u : Unit {0})
      → others ≡ drop n keys → Copies asks x o batch s (Ok u) mid → CopiesAll asks x o others mid r s'
      → CopiesAll asks x o keys s r s'
  batch_sent others s mid s' r u left sent rest = (
    suc rest.0,
    (
      (λ e. absurd (omega (arith, some, ap length e))),
      inl (
        u,
        mid,
        subst (λ (b : List (List ℕ)). Copies asks x o b s (Ok u) mid) is_first sent,
        subst (λ (ks : List (List ℕ)). Batches asks x o rest.0 ks mid r s') (left ∙ ap (λ i. drop i keys) size) rest.1,
      ),
    ),
  )

  -- a batch stops
  pub batch_stops : (s s' : S) (e : SettleStop) → Copies asks x o batch s (Err e) s' → CopiesAll asks x o keys s (Err e) s'
  batch_stops s s' e stops = (
    1,
    (
      (λ e. absurd (omega (arith, some, ap length e))),
      inr (e, subst (λ (b : List (List ℕ)). Copies asks x o b s (Err e) s') is_first stops, refl),
    ),
  )
