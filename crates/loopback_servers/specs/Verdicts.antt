-- What becomes of a plan that is to be served: it is legal, and what was told after its count is true; or its fault is
-- written; or memory ran out before that.
use Rattle.std.specs.Prelude.{◌≡◌, ◌⊎◌, ℕ, List, Option, MatchOption, codes}
use Rattle.byte_streams.specs.Streams.{Output}
use Rattle.key_slots.specs.Owners.{IsEvenSplit, Owners}
use Rattle.transcripts.specs.PlanVerdicts.{IsVerifiedFor, SaysFault}
use Rattle.loopback_servers.specs.Telling.{IsToldAtEnd, IsToldBehind}
use Rattle.loopback_servers.specs.declared.options.ServeOptions.{ServeOptions}
use Rattle.plan_language.specs.PlanView.{PlanView}
use Rattle.transcripts.specs.Writing.{Writes}

-- the plan is not legal, and its fault was written, or a prefix of that where a write failed
abbrev pub RefusesPlan : {W : Type 0} → Output W → Owners → PlanView → Type 0
RefusesPlan w o plan = (text : List ℕ) × SaysFault o plan 1 text × Writes w.took w.failures text w.before w.after

-- The plan is legal by these owners, and this was told; or it is refused, and then this holds. Without a plan there is
-- only what was told.
abbrev pub IsJudged : {W : Type 0} → Output W → Owners → Option PlanView → (told refused : Type 0) → Type 0
IsJudged w o plan told refused =
    MatchOption plan told (λ p. (IsVerifiedFor o p × told) ⊎ (refused × RefusesPlan w o p))

-- and what was told are the lines after its count
abbrev pub IsLegalOr : {W : Type 0} → Output W → ServeOptions → Owners → Option PlanView → (refused : Type 0) → Type 0
IsLegalOr w options o plan refused = IsJudged w o plan (IsToldBehind w options o plan) refused

-- the same by the even split of the options
abbrev pub IsLegalInSplit : {W : Type 0} → Output W → ServeOptions → Option PlanView → (refused : Type 0) → Type 0
IsLegalInSplit w options plan refused =
    (o : Owners) × IsEvenSplit options.nodes options.even o × IsLegalOr w options o plan refused

-- The same at the end. A plan that is refused gives status 1, and so does memory that ran out before it was judged.
abbrev pub JudgesPlan : {W : Type 0} → Output W → ServeOptions → Option PlanView → (status : ℕ) → Type 0
JudgesPlan w options plan status = ((o : Owners) × IsEvenSplit options.nodes options.even o
    × IsJudged w o plan (IsToldAtEnd w options o plan status) (status ≡ 1))
    ⊎ ((status ≡ 1) × Writes w.took w.failures (codes "out of memory\n") w.before w.after)
