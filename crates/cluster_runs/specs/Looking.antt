-- Keys that nobody finds are looked for after what closes open slots.
use Rattle.std.specs.Prelude.{◌≡◌, ◌≢◌, ◌⊎◌, ℕ, Option, None, Some}
use Rattle.byte_streams.specs.Streams.{Output}
use Rattle.cluster_inspection.specs.Answers.{Answers, Tells}

-- Where all went well and no plan was named, such keys are looked for, and told as `says` has it. Else nothing more is
-- said.
abbrev pub LooksFurther : {A W : Type 0} → (says : Answers) → (plan : Option A) → (before : ℕ) → Output W
    → (status : ℕ) → Type 0
LooksFurther says None before o status = ((before ≡ 0) × Tells says o status)
    ⊎ ((before ≢ 0) × (status ≡ before) × (o.after ≡ o.before))
LooksFurther says (Some path) before o status = (status ≡ before) × (o.after ≡ o.before)
