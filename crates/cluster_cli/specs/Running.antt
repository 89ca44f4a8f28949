-- What the program leaves: its status, and how it leaves what it reads and writes.
use Rattle.std.specs.Prelude.{◌≡◌, ◌≢◌, ◌⊎◌, ◌≤◌, ℕ, List, ◌++◌, codes, false, string_bytes}
use Rattle.byte_streams.specs.Streams.{Input, Output}
use Rattle.cluster_inspection.specs.Looking.{Surveys}
use Rattle.cluster_inspection.specs.Stranded.{SaysSomeStranded}
use Rattle.cluster_runs.specs.Applying.{Applies}
use Rattle.cluster_inspection.specs.Environment.{fault_text}
use Rattle.cluster_inspection.specs.declared.credentials.CredentialFault.{CredentialFault}
use Rattle.cluster_cli.specs.Forgetting.{ForgetNamesNone, ForgetSays}
use Rattle.cluster_cli.specs.Planning.{IsDrainAnswer, IsRebalanceAnswer, IsReshardAnswer, NamesNoDrain, NamesNoNodes}
use Rattle.cluster_cli.specs.Planning.{NamesNoWeights, Plans}
use Rattle.cluster_runs.specs.Resuming.{Resumes}
use Rattle.cluster_cli.specs.Serving.{IsServedTo, IsUnserved}
use Rattle.cluster_inspection.specs.Surveying.{SaysSomeSurvey, ShowsVersions, details_of}
use Rattle.cluster_cli.specs.Verifying.{IsAnswered, IsNotVerified}
use Rattle.cluster_inspection.specs.VerifyingAt.{VerifiesAt}
use Rattle.cluster_inspection.specs.VerifyingFrom.{VerifiesPlainly}
use Rattle.command_words.specs.Clusters.{IsAddressed, IsApply}
use Rattle.command_words.specs.CommandLine.{AsksFor, HasWholeLines, IsDraining, IsRebalance, IsReshard, IsServe, Words}
use Rattle.command_words.specs.Resuming.{IsResume}
use Rattle.command_words.specs.Starts.{IsStart}
use Rattle.command_words.specs.declared.usage.Start.{Start}
use Rattle.command_words.specs.declared.usage.Start.TheVariants.{Cluster, Even, Survey as BySurvey}
use Rattle.command_words.specs.declared.usage.Usage.{Usage}
use Rattle.command_words.specs.declared.usage.Usage.TheVariants.{Rehearse, Verify, Reshard, Rebalance}
use Rattle.command_words.specs.declared.usage.Usage.TheVariants.{Serve, Survey, Apply, Resume, Explain, Drain}
use Rattle.command_words.specs.declared.usage.Usage.TheVariants.{Forget, Draw, DrawNow, Help, Wrong}
use Rattle.command_words.specs.declared.usage.ServeWords.{ServeWords}
use Rattle.command_words.specs.declared.sizes.Sizes.{Sizes}
use Rattle.plan_previews.specs.Drawing.{Draws}
use Rattle.plan_previews.specs.Explaining.{Explains}
use Rattle.plan_previews.specs.Now.{DrawsNow}
use Rattle.rehearsal.specs.Halting.{IsRehearsedBadly, ReportsHalt}
use Rattle.rehearsal.specs.Scripts.{IsRehearsed}
use Rattle.transcripts.specs.Writing.{Writes}

-- the numbers that the words give are those that a cluster and a plan may have
abbrev pub IsInRange : Usage → Type 0
IsInRange Rehearse = Unit {0}
IsInRange (Verify start) = IsStart start
IsInRange (Reshard g) = IsReshard g
IsInRange (Rebalance g) = IsRebalance g
IsInRange (Serve g) = IsServe g
IsInRange (Survey g) = IsAddressed g.cluster
IsInRange (Apply g) = IsApply g
IsInRange (Resume g) = IsResume g
IsInRange (Explain g) = IsStart g.start
IsInRange (Drain g) = IsDraining g
IsInRange (Forget g) = IsAddressed g.cluster
IsInRange (Draw start) = IsStart start
IsInRange (DrawNow g) = IsAddressed g
IsInRange (Help text) = Unit {0}
IsInRange (Wrong text) = Unit {0}

pub record Rehearses {R W : Type 0} (i : Input R) (o : Output W) (status : ℕ) : Type 0 where
  pub few : status ≤ 1
  pub whole : status ≡ 0 → IsRehearsed i o 0
  pub partly : status ≡ 1 → IsRehearsedBadly i o ⊎ ReportsHalt i o
  pub read : status ≡ 0 → i.failures i.after ≡ i.failures i.before
  pub unfailed : status ≡ 0 → o.failures o.after ≡ o.failures o.before

pub record Verifies {R W : Type 0} (i : Input R) (o : Output W) (s : Sizes) (status : ℕ) : Type 0 where
  pub few : status ≤ 1
  pub verified : status ≡ 0 → IsAnswered i o s 0
  pub refused : status ≡ 1 → IsNotVerified i o s
  pub read : status ≡ 0 → i.failures i.after ≡ i.failures i.before
  pub unfailed : status ≡ 0 → o.failures o.after ≡ o.failures o.before

-- A cluster is served. Nothing is read where no plan is asked for.
pub record Serves {R W : Type 0} (i : Input R) (o : Output W) (g : ServeWords) (status : ℕ) : Type 0 where
  pub few : status ≤ 1
  pub served : status ≡ 0 → IsServedTo i o g
  pub unserved : status ≡ 1 → IsUnserved i o g
  pub read : status ≡ 0 → i.failures i.after ≡ i.failures i.before
  pub unfailed : status ≡ 0 → o.failures o.after ≡ o.failures o.before
  pub unread : g.plan ≡ false → i.after ≡ i.before

-- a text is written whole, which gives this status, or a write fails, which gives 1
abbrev pub Shows : {W : Type 0} → Output W → List ℕ → (well status : ℕ) → Type 0
Shows o text well status =
    ((status ≡ well) × o.took o.before text o.after × (o.failures o.after ≡ o.failures o.before))
    ⊎ ((status ≡ 1) × (o.failures o.after ≢ o.failures o.before))

-- nothing was read, or written
abbrev pub IsUnread : {R : Type 0} → Input R → Type 0
IsUnread i = i.after ≡ i.before

abbrev pub IsUnwritten : {W : Type 0} → Output W → Type 0
IsUnwritten o = o.after ≡ o.before

-- a plan is verified by an even split, at a cluster of servers, or by its survey
abbrev pub VerifiesFrom : {R W : Type 0} → Input R → Output W → (status : ℕ) → Start → Type 0
VerifiesFrom i o status (Even s) = Verifies i o s status
VerifiesFrom i o status (Cluster g) = VerifiesAt i o status
VerifiesFrom i o status (BySurvey path) = VerifiesPlainly (BySurvey path) i o status

-- by what the words ask for
abbrev pub Does : {R W E : Type 0} → Input R → Output W → Output E → (status : ℕ) → Usage → Type 0
Does i o e status Rehearse = Rehearses i o status × IsUnwritten e
Does i o e status (Verify start) = VerifiesFrom i o status start × IsUnwritten e
Does i o e status (Reshard g) =
    Plans (IsReshardAnswer g) (NamesNoNodes g) o e status × IsUnread i
Does i o e status (Rebalance g) =
    Plans (IsRebalanceAnswer g) (NamesNoWeights g) o e status × IsUnread i
Does i o e status (Serve g) = Serves i o g status × (status ≡ 0 → IsUnwritten e)
Does i o e status (Survey g) =
    Surveys (SaysSomeSurvey (details_of g) (ShowsVersions e)) SaysSomeStranded g o status × IsUnread i
    × (IsUnwritten e ⊎ ShowsVersions e)
Does i o e status (Apply g) = Applies g.plan i o status
Does i o e status (Resume g) = Resumes g o status × IsUnread i
Does i o e status (Explain g) = Explains g i o status × IsUnwritten e
Does i o e status (Drain g) =
    Plans (IsDrainAnswer g) (NamesNoDrain g) o e status × IsUnread i
Does i o e status (Forget g) =
    Plans (ForgetSays g) (ForgetNamesNone g) o e status × IsUnread i
Does i o e status (Draw start) = Draws start i o e status
Does i o e status (DrawNow g) = DrawsNow o e status × IsUnread i
Does i o e status (Help text) = Shows o (string_bytes text) 0 status × IsUnread i × IsUnwritten e
Does i o e status (Wrong text) = Shows e (string_bytes text) 2 status × IsUnread i × IsUnwritten o

-- ---- commands that ask servers

abbrev pub StartsAtServers : Start → Type 0
StartsAtServers (Even s) = ⊥
StartsAtServers (Cluster g) = Unit {0}
StartsAtServers (BySurvey path) = ⊥

-- the words name a cluster of servers
abbrev pub AsksServers : Usage → Type 0
AsksServers Rehearse = ⊥
AsksServers (Verify start) = StartsAtServers start
AsksServers (Reshard g) = StartsAtServers g.start
AsksServers (Rebalance g) = StartsAtServers g.start
AsksServers (Serve g) = ⊥
AsksServers (Survey g) = Unit {0}
AsksServers (Apply g) = Unit {0}
AsksServers (Resume g) = Unit {0}
AsksServers (Explain g) = StartsAtServers g.start
AsksServers (Drain g) = StartsAtServers g.start
AsksServers (Forget g) = Unit {0}
AsksServers (Draw start) = StartsAtServers start
AsksServers (DrawNow g) = Unit {0}
AsksServers (Help text) = ⊥
AsksServers (Wrong text) = ⊥

-- the command has words for a cluster of servers
abbrev pub MayAskServers : Usage → Type 0
MayAskServers Rehearse = ⊥
MayAskServers (Verify start) = Unit {0}
MayAskServers (Reshard g) = Unit {0}
MayAskServers (Rebalance g) = Unit {0}
MayAskServers (Serve g) = ⊥
MayAskServers (Survey g) = Unit {0}
MayAskServers (Apply g) = Unit {0}
MayAskServers (Resume g) = Unit {0}
MayAskServers (Explain g) = Unit {0}
MayAskServers (Drain g) = Unit {0}
MayAskServers (Forget g) = Unit {0}
MayAskServers (Draw start) = Unit {0}
MayAskServers (DrawNow g) = Unit {0}
MayAskServers (Help text) = ⊥
MayAskServers (Wrong text) = ⊥

-- `error: RESHARD_AUTH is empty`
abbrev pub fault_line : CredentialFault → List ℕ
fault_line f = codes "error: " ++ (fault_text f ++ codes "\n")

-- The command asks servers, and the environment has no password or user that can be shown to them, which is reported.
-- Nothing was asked.
abbrev pub IsMisconfigured : {R W E : Type 0} → Input R → Output W → Output E → (status : ℕ) → Usage → Type 0
IsMisconfigured i o e status u = AsksServers u
    × ((f : CredentialFault) × Shows e (fault_line f) 2 status)
    × IsUnread i × IsUnwritten o

-- memory ran out before anything was read, which is reported
abbrev pub IsOutOfMemory : {R W E : Type 0} → Input R → Output W → Output E → (status : ℕ) → Type 0
IsOutOfMemory i o e status = (status ≡ 1) × IsUnread i × IsUnwritten e
    × Writes o.took o.failures (codes "out of memory\n") o.before o.after

-- ---- all of it

-- what the words ask for was done; or it was not begun
abbrev pub Ends : {R W E : Type 0} → Input R → Output W → Output E → (status : ℕ) → Usage → Type 0
Ends i o e status u = Does i o e status u ⊎ (IsMisconfigured i o e status u ⊎ IsOutOfMemory i o e status)

-- What the words ask for was done, or not begun; or memory ran out before it was known. Texts for the reader of a
-- screen are whole lines.
abbrev pub IsDone : {R W E : Type 0} → Words → Input R → Output W → Output E → (status : ℕ) → Type 0
IsDone words i o e status = ((u : Usage) × AsksFor words u × HasWholeLines u × Ends i o e status u)
    ⊎ IsOutOfMemory i o e status
