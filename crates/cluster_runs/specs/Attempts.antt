-- How a run that follows another one differs from it.
use Rattle.std.specs.Prelude.{◌≡◌, ◌<◌, ◌≤◌, ◌+◌, ◌==◌, ℕ, Bool, true, false, cond, ◌/◌, ◌*◌, min, max}
use Rattle.cluster_runs.specs.declared.attempt.Attempt.{Attempt}
use Rattle.cluster_runs.specs.declared.trouble.Trouble.{Trouble}
use Rattle.cluster_runs.specs.declared.trouble.Trouble.TheVariants.{Late, Other, Slow}

-- half as many keys, one at least, and twice the time, ten minutes at most; or one key has had that time already
abbrev pub Eases : (commands : ℕ) → Attempt → Bool → Attempt → Type 0
Eases n a true a' = (a'.batch ≡ max 1 (a.batch / 2)) × (a'.timeout ≡ min (a.timeout * 2) 600000) × (a'.commands ≡ n)
    × (a'.patience ≡ a.patience) × (a'.waited ≡ a.waited)
Eases n a false a' = (a' ≡ a) × (a.batch ≡ 1) × (600000 ≤ a.timeout)

-- Replicas had 2 seconds more for a command. Where slots were handed over meanwhile, what was waited before them is not
-- counted.
abbrev pub waited_by : (handed_over : ℕ) → Attempt → ℕ
waited_by slots a = cond (slots == 0) (a.waited + 2000) 2000

-- the same work once more, as long as that is within the time; or it is not
abbrev pub Waits : (commands handed_over : ℕ) → Attempt → Bool → Attempt → Type 0
Waits n slots a true a' = (waited_by slots a ≤ a.patience) × (a'.waited ≡ waited_by slots a) × (a'.commands ≡ n)
    × (a'.batch ≡ a.batch) × (a'.timeout ≡ a.timeout) × (a'.patience ≡ a.patience)
Waits n slots a false a' = (a' ≡ a) × (a.patience < waited_by slots a)

-- by what the run before met
abbrev pub Continues : Trouble → (commands handed_over : ℕ) → Attempt → Bool → Attempt → Type 0
Continues Late n slots a b a' = Eases n a b a'
Continues Slow n slots a b a' = Waits n slots a b a'
Continues Other n slots a b a' = (b ≡ false) × (a' ≡ a)
