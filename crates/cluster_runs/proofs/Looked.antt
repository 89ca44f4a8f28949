-- Keys are looked for after what closes open slots.
use Rattle.std.proofs.Common.{◌⊎◌, ◌≤◌, ℕ, List, Option, None, Some, inl, inr, arith}
use Rattle.command_words.specs.declared.usage.ResumeWords.{ResumeWords}
use Rattle.byte_streams.specs.Streams.{Output}
use Rattle.cluster_inspection.specs.Answers.{Answers}
use Rattle.cluster_inspection.proofs.StrandedLines.{tells_as}
use Rattle.cluster_runs.specs.Applying.{Runs}
use Rattle.cluster_runs.specs.Ends.{IsEnd, IsPlainEnd}
use Rattle.cluster_runs.specs.Looking.{LooksFurther}
use Rattle.cluster_runs.specs.Resuming.{GoesOn}

-- what is said in one way is said in another
pub looks_as : {A W : Type 0} (says says' : Answers) (plan : Option A) (before : ℕ) (o : Output W) (status : ℕ)
    → ((status : ℕ) (text : List ℕ) → says status text → says' status text)
    → LooksFurther says plan before o status → LooksFurther says' plan before o status
looks_as says says' None before o status f (inl x) = inl (x.0, tells_as says says' o status f x.1)
looks_as says says' None before o status f (inr x) = inr x
looks_as says says' (Some path) before o status f x = x

-- ---- statuses

plain_few : (status : ℕ) (text : List ℕ) → IsPlainEnd status text → status ≤ 3
plain_few status text (inl done) = omega (arith, done.0)
plain_few status text (inr (inl paused)) = omega (arith, paused.0)
plain_few status text (inr (inr stopped)) = omega (arith, stopped.0)

end_few : (status : ℕ) (text : List ℕ) → IsEnd status text → status ≤ 3
end_few status text (inl plain) = plain_few status text plain
end_few status text (inr unlogged) = omega (arith, unlogged.0)

runs_few : {W : Type 0} (count : List ℕ) (o : Output W) (status : ℕ) → Runs count o status → status ≤ 3
runs_few count o status (inl ran) = end_few status ran.0 ran.1
runs_few count o status (inr cut) = omega (arith, cut.0)

-- of what closes open slots
pub goes_few : {W : Type 0} (g : ResumeWords) (o : Output W) (status : ℕ) → GoesOn g o status → status ≤ 3
goes_few g o status (inl ran) = runs_few ran.1 o status ran.4
goes_few g o status (inr (inl (left, inl shown))) = omega (arith, shown.0)
goes_few g o status (inr (inl (left, inr cut))) = omega (arith, cut.0)
goes_few g o status (inr (inr refused)) = omega (arith, refused.0)

-- and of what follows
pub looks_few : {A W : Type 0} (says : Answers) (plan : Option A) (before : ℕ) (o : Output W) (status : ℕ) → before ≤ 3
    → LooksFurther says plan before o status → status ≤ 3
looks_few says None before o status few (inl x) = omega (arith, x.1.few)
looks_few says None before o status few (inr x) = omega (arith, few, x.1)
looks_few says (Some path) before o status few x = omega (arith, few, x.0)
