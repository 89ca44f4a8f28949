-- What a plan that is ready runs with.
use Rattle.std.specs.Prelude.{◌≡◌, ◌⊎◌, ℕ, List, ◌++◌, length, vec_len}
use Rattle.cluster_admin.specs.Surveys.{Survey, closed_survey, row_at}
use Rattle.transcripts.specs.PlanVerdicts.{SaysCount}
use Rattle.plan_language.specs.Lines.{plan_commands}
use Rattle.plan_language.specs.PlanView.{PlanView}
use Rattle.plan_changes.specs.Loads.{most, moves_in}
use Rattle.plan_runner.specs.Verifying.{IsVerified, commands_of}
use Rattle.cluster_survey.specs.Found.{IsFound}
use Rattle.server_commands.specs.declared.book.Server.{Server}
use Rattle.server_phases.specs.Opened.{IsOpened}
use Rattle.server_runs.specs.Counts.{no_counts}
use Rattle.survey_texts.specs.Texts.{left_out_lines, node_lines}
use Rattle.transcripts.specs.OutcomeTexts.{verified_text}
use Rattle.cluster_runs.specs.Emptied.{emptied_lines}
use Rattle.cluster_runs.specs.Resuming.{IsNamedRest}
use Rattle.cluster_inspection.specs.Starts.{IsClean, IsNumberedBy, names_listed, owners_told}
use Rattle.cluster_runs.specs.declared.prepared.Prepared as prepared

-- how often a slot moves by the plan, in a cluster of so many nodes
abbrev pub moves_of : (nodes : ℕ) → PlanView → ℕ
moves_of n plan = most (moves_in (plan_commands n plan.lines))

-- the survey of closed slots with the owners that n0 names
abbrev pub closed_over : Survey → Survey
closed_over v = closed_survey (length v.rows) (row_at v 0).owners

-- the nodes, the masters that are left out, and the nodes that the plan empties
abbrev pub notes_text : (left b : List Server) → Survey → PlanView → List ℕ
notes_text left b v plan =
    node_lines b v ++ (left_out_lines left ++ emptied_lines v (plan_commands (length v.rows) plan.lines))

-- the cluster of these servers was found
abbrev pub IsOfFound : {I O : Type 0} → prepared.Prepared I O → Type 0
IsOfFound r = IsFound r.servers.book r.servers.surveyed.survey r.servers.surveyed.epochs.items (vec_len r.servers.links)

-- ---- a whole plan

-- the plan is legal by the owners that all servers tell, and this says how many commands it stands for
abbrev pub SaysCommands : PlanView → Survey → (text : List ℕ) → Type 0
SaysCommands plan v text = SaysCount (owners_told v) plan 0 text

-- The plan runs at a cluster that was found clean, and was verified over the owners that its servers tell. The survey
-- is what they showed, and not the one that the plan was verified over, so that arming compares the two.
pub record IsPreparedAtClean {I O : Type 0} (plan : PlanView) (r : prepared.Prepared I O) : Type 0 where
  pub found : IsOfFound r
  pub opened : IsOpened r.servers.surveyed.survey r.survey
  pub numbered : IsNumberedBy (names_listed plan) r.servers.book
  pub clean : IsClean r.servers.surveyed.survey
  pub runs : r.plan ≡ record { plan = plan; survey = closed_over r.servers.surveyed.survey }
  pub moves : r.moves ≡ moves_of (length r.servers.surveyed.survey.rows) plan
  pub counted : r.counts ≡ no_counts

-- ---- what is left of a plan

-- the plan closes the open slots of a cluster, which is numbered by the names of these lines, and makes the moves that
-- are left of them
pub record IsPreparedRest {I O : Type 0} (batch : ℕ) (lines : PlanView) (r : prepared.Prepared I O) : Type 0 where
  pub found : IsOfFound r
  pub opened : IsOpened r.servers.surveyed.survey r.survey
  pub numbered : IsNumberedBy (names_listed lines) r.servers.book
  pub left : IsNamedRest r.servers.book r.survey batch lines.lines r.plan.plan
  pub verified : IsVerified r.plan.plan r.survey
  pub runs : r.plan.survey ≡ r.survey
  pub moves : r.moves ≡ moves_of (length r.survey.rows) r.plan.plan

-- so many commands the plan stands for
abbrev pub TellsCommands : {I O : Type 0} → prepared.Prepared I O → (text : List ℕ) → Type 0
TellsCommands r text = text ≡ verified_text (length (commands_of r.plan.plan r.survey))
