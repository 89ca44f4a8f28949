-- How runs ended.
use Rattle.std.proofs.Common.{◌≡◌, ◌⊎◌, ◌∙◌, ℕ, Bool, true, List, Option, inl, inr, subst, sym}
use Rattle.command_words.specs.declared.usage.ApplyWords.{ApplyWords}
use Rattle.plan_language.specs.PlanView.{PlanView}
use Rattle.plan_runner.specs.declared.verifier.VerifiedPlan.{VerifiedPlan}
use Rattle.redis_servers.specs.declared.port.ServersPort as port
use Rattle.server_runs.specs.RunLogs.{Logs}
use Rattle.server_runs.specs.declared.run_log.RunLog as run_log
use Rattle.server_runs.specs.declared.watch.Watch as watch
use Rattle.transcripts.specs.declared.transcript.Transcript.{Transcript}
use Rattle.cluster_runs.proofs.Applied.{carried_out, told_end}
use Rattle.cluster_runs.specs.Attempts.{Continues}
use Rattle.cluster_runs.specs.Ends.{IsEnd}
use Rattle.cluster_runs.specs.Preparing.{IsPreparedRest}
use Rattle.cluster_runs.specs.Runs.{FileOut, IsEndBehind, IsLastEnd, IsNext, IsRun, IsRunOf, IsRunOfRest, Ways}
use Rattle.cluster_runs.specs.declared.attempt.Attempt.{Attempt}
use Rattle.cluster_runs.specs.declared.one_run.Ran as ran
use Rattle.cluster_runs.specs.declared.prepared.Prepared as prepared
use Rattle.cluster_runs.specs.declared.runs.Next.{Next}
use Rattle.cluster_runs.specs.declared.runs.Next.TheVariants.{Again}

-- a line of a log by other names
pub logs_as : {L : Type 0} (took : L → List ℕ → L → Type 0) (text text' : List ℕ) (log log' last last' : Option (run_log.RunLog L))
    → text ≡ text' → log ≡ log' → last' ≡ last → Logs took text log last → Logs took text' log' last'
logs_as took text text' log log' last last' a b c h =
    subst (λ t. Logs took t log' last') a
    (subst (λ x. Logs took text x last') b (subst (λ y. Logs took text log y) (sym c) h))

-- one run
pub run_ended : {I O P S L : Type 0} (ways : Ways I O S L) (before : ℕ) (plan : VerifiedPlan)
    (p : port.ServersPort I O P) (w : watch.Watch S L) (r : ran.Ran L) → IsRun ways before plan p w r
    → IsEnd r.end.status r.end.printed.items
run_ended ways before plan p w r x =
    told_end x.is_broken r.commands x.end r.end
    (carried_out ways (record { plan = plan.plan; survey = plan.survey; seat = x.seat; before = before }) (p, w)
    (x.port', x.watch') x.fresh x.end x.empty x.applied) x.told

module _ {I O S : Type 0} (P : Type 0) (ways : Ways I O S FileOut) (g : ApplyWords) where
  of_run : (a : Attempt) (ready : prepared.Prepared I O) (r : ran.Ran FileOut) → IsRunOf P ways g a ready r
      → IsEnd r.end.status r.end.printed.items
  of_run a ready r x = run_ended ways a.commands ready.plan x.0 x.1 r x.3

  behind : (lines : PlanView) (r : ran.Ran FileOut) (t : Transcript) → IsEnd r.end.status r.end.printed.items
      → IsEndBehind P ways g lines r t → IsEnd t.status t.printed.items
  behind lines r t first (inl same) = subst (λ (t : Transcript). IsEnd t.status t.printed.items) (sym same) first
  behind lines r t first (inr more) =
      subst (λ (t : Transcript). IsEnd t.status t.printed.items) (sym more.2)
      (of_run more.1.0 more.1.1 more.0 more.1.3)

  -- the last of several
  pub last_ended : (a : Attempt) (ready : prepared.Prepared I O) (lines : PlanView) (t : Transcript)
      → IsLastEnd P ways g a ready lines t → IsEnd t.status t.printed.items
  last_ended a ready lines t x = behind lines x.0 t (of_run a ready x.0 x.1) x.2

  -- after a run of what was left
  pub behind_rest : (lines : PlanView) (r next : ran.Ran FileOut) (t : Transcript) → IsRunOfRest P ways g lines next
      → IsEndBehind P ways g lines next t → IsEndBehind P ways g lines r t
  behind_rest lines r next t is (inl same) = inr (next, is, same)
  behind_rest lines r next t is (inr more) = inr more

  -- so it is where that was what followed
  pub behind_next : (lines : PlanView) (r again : ran.Ran FileOut) (n : Next) (t : Transcript) (a a' : Attempt)
      → n ≡ Again again → IsNext P ways g lines r a n a' → IsEndBehind P ways g lines again t
      → IsEndBehind P ways g lines r t
  behind_next lines r again n t a a' is next end =
      behind_rest lines r again t (subst (λ m. IsNext P ways g lines r a m a') is next).0 end

  -- what is left was made ready after the attempt continued, and ran
  pub next_again : (lines : PlanView) (r again : ran.Ran FileOut) (a a' : Attempt) (rest : prepared.Prepared I O) (b : Bool)
      → IsPreparedRest a'.batch lines rest → IsRunOf P ways g a' rest again
      → Continues r.trouble r.commands r.handed_over a b a' → b ≡ true → IsNext P ways g lines r a (Again again) a'
  next_again lines r again a a' rest b ready run way is =
      ((a', rest, ready, run), subst (λ (x : Bool). Continues r.trouble r.commands r.handed_over a x a') is way)
