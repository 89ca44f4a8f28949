-- Attempts that stay as they are.
use Rattle.std.proofs.Common.{◌≡◌, ℕ, Bool}
use Rattle.cluster_runs.specs.Attempts.{Continues}
use Rattle.cluster_runs.specs.declared.attempt.Attempt.{Attempt}
use Rattle.cluster_runs.specs.declared.trouble.Trouble.{Trouble}
use Rattle.cluster_runs.specs.declared.trouble.Trouble.TheVariants.{Late, Other, Slow}

-- after a run that met nothing that another one could do better
pub unchanged : (t : Trouble) (n slots : ℕ) (a a' : Attempt) (b : Bool) → Continues t n slots a b a' → t ≡ Other → a' ≡ a
unchanged Other n slots a a' b way is = way.1
unchanged Late n slots a a' b way is = absurd (not_late is)
  where
    not_late : Late ≡ Other → ⊥
    not_late e = cc
unchanged Slow n slots a a' b way is = absurd (not_slow is)
  where
    not_slow : Slow ≡ Other → ⊥
    not_slow e = cc
