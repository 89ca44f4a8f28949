-- A plan that resumes is ready for the cluster that was found, and its count is that of the plan.
use Rattle.std.proofs.Common.{◌≡◌, ◌∙◌, ℕ, List, [], Option, None, Some, length, refl, sym, ap, subst, subst₂}
use Rattle.std.specs.Prelude.{MatchOption, vec_len}
use Rattle.cluster_admin.specs.Surveys.{Survey}
use Rattle.plan_language.specs.PlanView.{PlanView}
use Rattle.plan_runner.specs.Verifying.{IsVerified}
use Rattle.server_phases.specs.Opened.{IsOpened}
use Rattle.server_commands.specs.declared.book.Server.{Server}
use Rattle.cluster_survey.specs.Found.{IsFound}
use Rattle.cluster_survey.specs.declared.finding.FoundCluster as found
use Rattle.cluster_inspection.specs.Starts.{IsNumberedBy, names_listed}
use Rattle.cluster_runs.specs.Preparing.{IsOfFound, IsPreparedRest, TellsCommands, moves_of}
use Rattle.cluster_runs.specs.Resuming.{IsNamedRest, IsNothingLeft, IsOpenCount}
use Rattle.cluster_runs.specs.declared.prepared.Prepared as prepared

-- a plan over the opened survey of a cluster that was found
pub is_prepared_rest : {I O : Type 0} (b : List Server) (v : Survey) (plan : PlanView) (r : prepared.Prepared I O) (batch : ℕ)
    (lines : PlanView) → r.servers.book ≡ b → IsOfFound r → IsOpened r.servers.surveyed.survey v
    → IsNumberedBy (names_listed lines) b → IsNamedRest b v batch lines.lines plan → IsVerified plan v
    → r.plan ≡ record { plan = plan; survey = v } → r.survey ≡ v → r.moves ≡ moves_of (length v.rows) plan
    → IsPreparedRest batch lines r
is_prepared_rest b v plan r batch lines book found opened numbered resumed legal runs same moves =
    let plans : r.plan.plan ≡ plan = ap (λ x. x.plan) runs in
    let surveys : r.plan.survey ≡ v = ap (λ x. x.survey) runs in record {
      found = found;
      opened = subst (λ w. IsOpened r.servers.surveyed.survey w) (sym same) opened;
      numbered = subst (IsNumberedBy (names_listed lines)) (sym book) numbered;
      left = subst (λ c. IsNamedRest c r.survey batch lines.lines r.plan.plan) (sym book)
          (subst₂ (λ w p. IsNamedRest b w batch lines.lines p) (sym same) (sym plans) resumed);
      verified = subst₂ (λ w p. IsVerified p w) (sym same) (sym plans) legal;
      runs = surveys ∙ sym same;
      moves = moves ∙ subst₂ (λ w p. moves_of (length v.rows) plan ≡ moves_of (length w.rows) p) (sym same) (sym plans) refl;
    }

pub counted : {I O : Type 0} (batch : ℕ) (lines : PlanView) (r : prepared.Prepared I O) (text : List ℕ)
    → IsPreparedRest batch lines r → TellsCommands r text → IsOpenCount batch lines text
counted batch lines r text ready told = (
  r.survey,
  r.plan.plan,
  (
    r.servers.book,
    (r.servers.surveyed.survey, r.servers.surveyed.epochs.items, _, ready.found, ready.opened),
    ready.numbered,
    ready.left,
  ),
  ready.verified,
  told,
)

-- nothing is left of lines
pub nothing_left : (b : List Server) (shown : Survey) (epochs : List ℕ) (links : ℕ) (v : Survey) (plan : PlanView) (batch : ℕ)
    (lines : PlanView) → IsFound b shown epochs links → IsOpened shown v → IsNumberedBy (names_listed lines) b
    → IsNamedRest b v batch lines.lines plan → plan.lines ≡ [] → IsNothingLeft batch lines
nothing_left b shown epochs links v plan batch lines found opened numbered left none =
    (v, plan, (b, (shown, epochs, links, found, opened), numbered, left), none)

pub match_option : {A : Type 0} (o : Option A) (P : Type 0) (Q R : A → Type 0) → ((a : A) → Q a → R a) → MatchOption o P Q
    → MatchOption o P R
match_option None P Q R f h = h
match_option (Some a) P Q R f h = f a h

-- what is ready runs at the servers that were found
pub at_servers : {I O : Type 0} (servers : found.FoundCluster I O) (r : prepared.Prepared I O) → r.servers ≡ servers
    → IsFound servers.book servers.surveyed.survey servers.surveyed.epochs.items (vec_len servers.links) → IsOfFound r
at_servers {I} {O} servers r same h =
    subst (λ (s : found.FoundCluster I O). IsFound s.book s.surveyed.survey s.surveyed.epochs.items (vec_len s.links)) (sym same) h

pub with_book : {I O : Type 0} (servers : found.FoundCluster I O) (r : prepared.Prepared I O) → r.servers ≡ servers
    → r.servers.book ≡ servers.book
with_book {I} {O} servers r same = ap (λ (s : found.FoundCluster I O). s.book) same

pub opened_there : {I O : Type 0} (servers : found.FoundCluster I O) (r : prepared.Prepared I O) (v : Survey) → r.servers ≡ servers
    → IsOpened servers.surveyed.survey v → IsOpened r.servers.surveyed.survey v
opened_there {I} {O} servers r v same h =
    subst (λ (s : found.FoundCluster I O). IsOpened s.surveyed.survey v) (sym same) h
