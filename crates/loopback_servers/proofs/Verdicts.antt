-- What becomes of a plan that is to be served.
use Rattle.std.proofs.Common.{◌≡◌, ◌⊎◌, ℕ, List, inl, inr, refl, subst, codes, Option, None, Some, Result, Ok, Err}
use Rattle.std.proofs.lemmas.Result.{IfErr-weaker, IfOk-weaker}
use Rattle.std.specs.Prelude.{IfErr, IfOk, MatchOption}
use Rattle.byte_streams.specs.Streams.{Output}
use Rattle.key_slots.specs.Owners.{IsEvenSplit, Owners}
use Rattle.loopback_servers.proofs.Told.{told_count}
use Rattle.loopback_servers.specs.Telling.{IsToldAtEnd, IsToldBehind}
use Rattle.loopback_servers.specs.Verdicts.{IsJudged, IsLegalInSplit, IsLegalOr, JudgesPlan}
use Rattle.loopback_servers.specs.declared.options.ServeOptions.{ServeOptions}
use Rattle.loopback_servers.specs.declared.unserved.Unserved.{Unserved}
use Rattle.loopback_servers.specs.declared.unserved.Unserved.TheVariants as unserved
use Rattle.transcripts.specs.PlanVerdicts.{IsVerifiedFor, SaysCount, SaysFault}
use Rattle.plan_language.specs.PlanView.{PlanView}
use Rattle.transcripts.specs.Writing.{Writes}

any_ok : {A E : Type 0} {P : A → Type 0} (r : Result A E) → ((x : A) → P x) → IfOk r P
any_ok (Ok x) h = h x
any_ok (Err e) h = tt

any_err : {A E : Type 0} {P : E → Type 0} (r : Result A E) → ((e : E) → P e) → IfErr r P
any_err (Ok x) h = tt
any_err (Err e) h = h e

module _ {W : Type 0} (took : W → List ℕ → W → Type 0) (failures : W → ℕ) where
  abbrev to : W → W → Output W
  to a b = record { took = took; failures = failures; before = a; after = b }

  -- what was said of the plan is written, as far as it came, and nothing after it
  pub is_judged : {A P : Type 0} (options : ServeOptions) (o : Owners) (plan : PlanView) (v : Option A) (R : A → Type 0) (status : ℕ)
      (text : List ℕ) (a b : W) → P → MatchOption v (SaysFault o plan status text) (λ p. R p × SaysCount o plan status text)
      → Writes took failures text a b → IsLegalOr (to a b) options o (Some plan) P
  is_judged options o plan None R status text a b here fault wrote =
      inr (here, (text, (fault.0, fault.1, fault.2, refl, fault.4), wrote))
  is_judged options o plan (Some p) R status text a b here says wrote =
      inl (says.1.0, told_count took failures options o plan a b (subst (λ (t : List ℕ). Writes took failures t a b) says.1.2 wrote))

  pub is_counted : {A : Type 0} (o : Owners) (plan : PlanView) (v : Option A) (p : A) (R : A → Type 0) (status : ℕ) (text : List ℕ)
      → v ≡ Some p → MatchOption v (SaysFault o plan status text) (λ p. R p × SaysCount o plan status text) → R p × SaysCount o plan status text
  is_counted o plan v p R status text is says =
      (subst (λ (x : Option _). MatchOption x (SaysFault o plan status text) (λ p. R p × SaysCount o plan status text)) is says)

  -- what is told changes in a verdict
  retold : {T U P Q : Type 0} (o : Owners) (plan : Option PlanView) (a b : W) → (T → U) → (P → Q) → IsJudged (to a b) o plan T P
      → IsJudged (to a b) o plan U Q
  retold o None a b told refused judged = told judged
  retold o (Some p) a b told refused (inl legal) = inl (legal.0, told legal.1)
  retold o (Some p) a b told refused (inr h) = inr (refused h.0, h.1)

  module _ (options : ServeOptions) (plan : Option PlanView) (a b : W) where
    -- the status is what `serve` answered
    pub judged_with : (status : ℕ) → IsLegalInSplit (to a b) options plan (status ≡ 1) → JudgesPlan (to a b) options plan status
    judged_with status judged = inl (judged.0, judged.1, retold judged.0 plan a b inl (λ is. is) judged.2)

    -- a listener could not be opened, or a write failed, so memory did not run out before
    pub judged_at : (P : Type 0) (e : Unserved) → (e ≡ unserved.Memory → ⊥) → ((e ≡ unserved.Memory) × (b ≡ a)) ⊎ IsLegalInSplit (to a b) options plan P
        → JudgesPlan (to a b) options plan 1
    judged_at P e other (inl early) = absurd (other early.0)
    judged_at P e other (inr judged) = judged_with 1 (judged.0, judged.1, retold judged.0 plan a b (λ told. told) (λ is. refl) judged.2)

    -- memory ran out, before anything was written or once the plan was verified
    pub out_of_memory : (c : W) (e : Unserved) → e ≡ unserved.Memory
        → ((e ≡ unserved.Memory) × (b ≡ a)) ⊎ IsLegalInSplit (to a b) options plan (e ≡ unserved.Unwritten)
        → Writes took failures (codes "out of memory\n") b c → JudgesPlan (to a c) options plan 1
    out_of_memory c e is (inl early) wrote =
        inr (refl, subst (λ x. Writes took failures (codes "out of memory\n") x c) early.1 wrote)
    out_of_memory c e is (inr judged) wrote = inl (judged.0, judged.1, by plan 1 refl judged.2)
      where
        by : (p : Option PlanView) (status : ℕ) → status ≡ 1 → IsLegalOr (to a b) options judged.0 p (e ≡ unserved.Unwritten)
            → IsJudged (to a c) judged.0 p (IsToldAtEnd (to a c) options judged.0 p status) (status ≡ 1)
        by None status one told = inr (one, (b, told, wrote))
        by (Some p) status one (inl legal) = inl (legal.0, inr (one, (b, legal.1, wrote)))
        by (Some p) status one (inr refused) = let other = refused.0 in absurd cc

module _ {W : Type 0} (w : Output W) (options : ServeOptions) (plan : Option PlanView) (o : Owners) (even : IsEvenSplit options.nodes options.even o)
    (r : Result ℕ Unserved) where
  -- what holds by the owners that were made holds by the even split
  pub split_judged : IfOk r (λ s. IsLegalOr w options o plan (s ≡ 1)) → IfOk r (λ s. IsLegalInSplit w options plan (s ≡ 1))
  split_judged = IfOk-weaker r _ _ (λ s h. (o, even, h))

  pub split_failed : (A : Type 0) → IfErr r (λ e. ((e ≡ unserved.Memory) × A) ⊎ IsLegalOr w options o plan (e ≡ unserved.Unwritten))
      → IfErr r (λ e. ((e ≡ unserved.Memory) × A) ⊎ IsLegalInSplit w options plan (e ≡ unserved.Unwritten))
  split_failed A = IfErr-weaker r _ _ by
    where
      by : (e : Unserved) → ((e ≡ unserved.Memory) × A) ⊎ IsLegalOr w options o plan (e ≡ unserved.Unwritten)
          → ((e ≡ unserved.Memory) × A) ⊎ IsLegalInSplit w options plan (e ≡ unserved.Unwritten)
      by e (inl early) = inl early
      by e (inr h) = inr (o, even, h)

-- what was told stands, whatever was answered
module _ {W : Type 0} (w : Output W) (options : ServeOptions) (o : Owners) (r : Result ℕ Unserved) where
  pub alone_judged : IsToldBehind w options o None → IfOk r (λ s. IsLegalOr w options o None (s ≡ 1))
  alone_judged told = any_ok r (λ s. told)

  pub alone_failed : (A : Type 0) → IsToldBehind w options o None
      → IfErr r (λ e. ((e ≡ unserved.Memory) × A) ⊎ IsLegalOr w options o None (e ≡ unserved.Unwritten))
  alone_failed A told = any_err r (λ e. inr told)

  pub verified_judged : (plan : PlanView) → IsVerifiedFor o plan → IsToldBehind w options o (Some plan)
      → IfOk r (λ s. IsLegalOr w options o (Some plan) (s ≡ 1))
  verified_judged plan legal told = any_ok r (λ s. inl (legal, told))

  pub verified_failed : (A : Type 0) (plan : PlanView) → IsVerifiedFor o plan → IsToldBehind w options o (Some plan)
      → IfErr r (λ e. ((e ≡ unserved.Memory) × A) ⊎ IsLegalOr w options o (Some plan) (e ≡ unserved.Unwritten))
  verified_failed A plan legal told = any_err r (λ e. inr (inl (legal, told)))
