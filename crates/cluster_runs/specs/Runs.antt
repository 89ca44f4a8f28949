-- A run of a plan at servers, and what follows it.
use Rattle.std.specs.Prelude.{◌≡◌, ◌⊎◌, ◌↔◌, ℕ, ◌+◌, zero, suc, Bool, false, true, List, [], Option, None, Some}
use Rattle.std.specs.Prelude.{IsTrue, is_some}
use Rattle.cluster_admin.specs.declared.call.AdminCall.{AdminCall}
use Rattle.command_words.specs.declared.usage.ApplyWords.{ApplyWords}
use Rattle.plan_language.specs.PlanView.{PlanView}
use Rattle.plan_changes.specs.Loads.{most}
use Rattle.plan_runner.specs.declared.verifier.VerifiedPlan.{VerifiedPlan}
use Rattle.redis_servers.specs.Ports.{Fails, Moves}
use Rattle.redis_servers.specs.Told.{TellsSame}
use Rattle.redis_servers.specs.declared.port.ServersPort as port
use Rattle.server_runs.specs.Applied.{Given, IsApplied}
use Rattle.server_runs.specs.RunLogs.{HasBrokenLog, Logs}
use Rattle.server_runs.specs.ServersInOneGo.{RanInOneGoOrNot}
use Rattle.server_runs.specs.Unheard.{LogsUnheard}
use Rattle.server_runs.specs.Watches.{Around, Hears, Misses, Sees}
use Rattle.server_runs.specs.declared.kind.Kind.TheVariants.{Other}
use Rattle.server_runs.specs.declared.pace.Pace.{Pace}
use Rattle.server_runs.specs.declared.run_log.RunLog.{RunLog}
use Rattle.server_runs.specs.declared.watch.Watch as watch
use Rattle.std.specs.declared.fs.File.{File}
use Rattle.byte_streams.specs.declared.standard.StandardOut as standard
use Rattle.transcripts.specs.declared.transcript.Transcript.{Transcript}
use Rattle.cluster_runs.specs.Attempts.{Continues}
use Rattle.cluster_runs.specs.Ends.{IsEnd, unlogged_text}
use Rattle.cluster_runs.specs.Preparing.{IsPreparedRest}
use Rattle.cluster_runs.specs.declared.attempt.Attempt.{Attempt}
use Rattle.cluster_runs.specs.declared.one_run.Ran as ran
use Rattle.cluster_runs.specs.declared.prepared.Prepared as prepared
use Rattle.cluster_runs.specs.declared.runs.Next.{Next}
use Rattle.cluster_runs.specs.declared.runs.Next.TheVariants.{Over, Again}
use Rattle.cluster_runs.specs.declared.trouble.Trouble.TheVariants as trouble
use Rattle.cluster_runs.specs.Troubles.{trouble_of}
use Rattle.server_links.specs.Streams.{Streams}

-- so many keys a second; 0 is no limit
abbrev pub IsPaceOf : (keys_per_second : Option ℕ) → Option Pace → Type 0
IsPaceOf None p = p ≡ None
IsPaceOf (Some zero) p = p ≡ None
IsPaceOf (Some (suc n)) None = ⊥
IsPaceOf (Some (suc n)) (Some p) = p.keys_per_second ≡ suc n

-- what is told of a run that ended so: where its log could not be written, that too
abbrev pub IsTold : (is_broken : Bool) → (commands : ℕ) → (end told : Transcript) → Type 0
IsTold false n end told = told ≡ end
IsTold true n end told =
    (told.status ≡ 1) × (told.printed.items ≡ unlogged_text end.status n end.printed.items)

-- ---- one run

-- what connections give and take, what the run_context do, and what the log takes
pub record Ways (I O S L : Type 0) : Type 1 where
  pub gave : I → ℕ → List ℕ → I → Type 0
  pub took : O → List ℕ → O → Type 0
  pub tells : S → ℕ → S → Type 0
  pub waits : S → ℕ → S → Type 0
  pub asks : S → Bool → S → Type 0
  pub log_took : L → List ℕ → L → Type 0

-- what goes over the connections
abbrev pub streams_of : {I O S L : Type 0} → Ways I O S L → Streams I O
streams_of ways = record { gave = ways.gave; took = ways.took }

-- what is around the watch
abbrev pub around_of : {I O S L : Type 0} → Ways I O S L → Around S L
around_of ways = record { asks = ways.asks; tells = ways.tells; waits = ways.waits; took = ways.log_took }

module _ {I O P S L : Type 0} (ways : Ways I O S L) where
  -- So a plan was carried out. One without names was armed at the port and ran, one command after the other, each sent
  -- once the reply to the one before was read; or it was not armed, and nothing was done. One that lists its nodes with
  -- their names: the same, but that the other nodes of a slot were told in one go.
  abbrev pub IsCarriedOutBy : (has_names : Bool) → Given (List AdminCall)
      → (first last : port.ServersPort I O P × watch.Watch S L) → (told told' : Transcript) → Type 0
  IsCarriedOutBy false g first last told told' = IsApplied (record {
    moves = Moves (streams_of ways);
    fails = Fails (streams_of ways);
    matches = λ q calls u same. IsTrue same ↔ TellsSame q.setup.survey u;
    said = λ q. q.said;
    calls = λ (s : List AdminCall). s;
    sees = Sees (around_of ways);
    hears = Hears (around_of ways);
    misses = Misses ways.log_took;
  }) g first last told told'
  IsCarriedOutBy true g first last told told' = RanInOneGoOrNot (streams_of ways) (record {
    sees = Sees (around_of ways);
    hears = Hears (around_of ways);
    misses = Misses ways.log_took;
  }) (λ q. q.said) g first last told told'

  abbrev pub IsCarriedOut : Given (List AdminCall) → (first last : port.ServersPort I O P × watch.Watch S L)
      → (told told' : Transcript) → Type 0
  IsCarriedOut g first last told told' = IsCarriedOutBy (is_some g.plan.names) g first last told told'

  -- The plan was armed at the port and ran, watched, from the port's and the watch's first state, after so many
  -- commands; or it was not armed, and nothing was done. How that ended stands in the log, and is told.
  pub record IsRun (before : ℕ) (plan : VerifiedPlan) (p : port.ServersPort I O P) (w : watch.Watch S L)
      (r : ran.Ran L) : Type 0 where
    pub port' : port.ServersPort I O P
    pub watch' : watch.Watch S L
    pub seat : List AdminCall
    pub uncalled : seat ≡ []
    pub fresh : Transcript
    pub empty : fresh.printed.items ≡ []
    pub end : Transcript
    pub applied : IsCarriedOut (record { plan = plan.plan; survey = plan.survey; seat = seat; before = before })
        (p, w) (port', watch') fresh end
    pub trouble : r.trouble ≡ trouble_of port'.said
    pub handed_over : r.handed_over ≡ watch'.run.counts.handed_over
    pub commands : r.commands ≡ most (before + watch'.run.counts.commands)
    pub noted : Option (RunLog L)
    pub unheard : LogsUnheard ways.log_took port'.unheard watch'.run.log noted
    pub logged : Logs ways.log_took end.printed.items noted r.log
    pub is_broken : Bool
    pub broken : IsTrue is_broken ↔ HasBrokenLog r.log
    pub told : IsTold is_broken r.commands end r.end

-- ---- with a log in a file

abbrev pub FileOut : Type 0
FileOut = standard.StandardOut File

module _ {I O P S : Type 0} (g : ApplyWords) where
  -- the port is to these servers as they were found, and the watch is of this run
  pub record StartsRun (a : Attempt) (ready : prepared.Prepared I O) (p : port.ServersPort I O P)
      (w : watch.Watch S FileOut) : Type 0 where
    pub links : p.links ≡ ready.servers.links
    pub book : p.setup.book ≡ ready.servers.book
    pub survey : p.setup.survey ≡ ready.survey
    pub timeout : p.setup.timeout ≡ a.timeout
    pub waits_for_news : p.setup.waits_for_news ≡ g.wait_for_news
    pub open_before : p.has_stopped ≡ false
    pub log : w.run.log ≡ ready.log
    pub counts : w.run.counts ≡ ready.counts
    pub moves : w.moves ≡ ready.moves
    pub pace : IsPaceOf g.keys_per_second w.pace

-- by these words, at ports whose clock is of the type P
module _ {I O S : Type 0} (P : Type 0) (ways : Ways I O S FileOut) (g : ApplyWords) where
  -- what was made ready ran so
  abbrev pub IsRunOf : Attempt → prepared.Prepared I O → ran.Ran FileOut → Type 0
  IsRunOf a ready r = (p : port.ServersPort I O P) × (w : watch.Watch S FileOut) × StartsRun g a ready p w
      × IsRun ways a.commands ready.plan p w r

  -- what is left of these lines was made ready, and ran so
  abbrev pub IsRunOfRest : (lines : PlanView) → ran.Ran FileOut → Type 0
  IsRunOfRest lines r = (a : Attempt) × (rest : prepared.Prepared I O) × IsPreparedRest a.batch lines rest
      × IsRunOf a rest r

  -- ---- what follows a run

  -- A run is over, and that is its end; or it took too long, and what is left ran once more, with less to do at a time
  -- where a MIGRATE did.
  abbrev pub IsNext : (lines : PlanView) → ran.Ran FileOut → (attempt : Attempt) → Next → (attempt' : Attempt) → Type 0
  IsNext lines r a (Over t) a' = (t ≡ r.end) × (r.trouble ≡ trouble.Other → a' ≡ a)
  IsNext lines r a (Again r') a' = IsRunOfRest lines r' × Continues r.trouble r.commands r.handed_over a true a'

  -- so the last of the runs after this one ended: it was the last, or what is left ran
  abbrev pub IsEndBehind : (lines : PlanView) → ran.Ran FileOut → Transcript → Type 0
  IsEndBehind lines r t = (t ≡ r.end) ⊎ ((r' : ran.Ran FileOut) × IsRunOfRest lines r' × (t ≡ r'.end))

  -- so the last of the runs ended: the first one, or one of what it left
  abbrev pub IsLastEnd : Attempt → prepared.Prepared I O → (lines : PlanView) → Transcript → Type 0
  IsLastEnd a ready lines t = (r : ran.Ran FileOut) × IsRunOf a ready r × IsEndBehind lines r t
