-- What was settled before a run stays with what is made ready.
use Rattle.std.proofs.Common.{◌≡◌, ℕ, List, Result, Ok, Err, sym, ap, subst, subst₂}
use Rattle.std.specs.Prelude.{IfOk}
use Rattle.cluster_views.specs.declared.surveying.Surveyed.{Surveyed}
use Rattle.cluster_admin.specs.Surveys.{Survey}
use Rattle.server_commands.specs.declared.book.Server.{Server}
use Rattle.server_links.specs.declared.link.Link as link
use Rattle.cluster_runs.specs.Settling.{IsSettledFrom, IsSettledRest}
use Rattle.cluster_runs.specs.declared.attempt.Attempt.{Attempt}
use Rattle.cluster_runs.specs.declared.prepared.Prepared as prepared
use Rattle.cluster_inspection.specs.declared.refusal.Refusal.{Refusal}
use Rattle.server_links.specs.Streams.{Streams}
use Rattle.cluster_inspection.specs.Returning.{AreAway}
use Rattle.node_names.specs.Names.{Names}
use Rattle.plan_language.specs.PlanView.{PlanView}
use Rattle.server_shards.specs.Returning.{Asks}

pub settled_rest : {I O W : Type 0} (by : Streams I O) (writes : List ℕ → W → W → Type 0) (a : Attempt)
    (b : List Server) (s : Surveyed) (links : List (link.Link I O)) (r : Result (prepared.Prepared I O) Refusal)
    → IfOk r (λ p. IsSettledFrom by writes a (record { book = b; survey = s.survey; links = links }) p.counts)
    → IfOk r (λ p. (p.servers.book ≡ b) × (p.servers.surveyed ≡ s))
    → IfOk r (IsSettledRest by writes a)
settled_rest by writes a b s links (Ok p) settled same = (
  links,
  subst₂ (λ b v. IsSettledFrom by writes a (record { book = b; survey = v; links = links }) p.counts) (sym same.0)
      (sym (ap (λ (x : Surveyed). x.survey) same.1)) settled,
)
settled_rest by writes a b s links (Err e) settled same = tt

-- what was found of failed masters before slots were settled holds after it
pub away_after : {L I O : Type 0} (asks : Asks L) (dead : List ℕ) (names : Names) (before after : prepared.Prepared I O)
    (plan : PlanView) → plan ≡ before.plan.plan → (after.plan ≡ before.plan) × (after.survey ≡ before.survey)
    → after.servers.left_out ≡ before.servers.left_out
    → AreAway asks dead names before.servers.left_out.items plan.lines
    → AreAway asks dead names after.servers.left_out.items after.plan.plan.lines
away_after asks dead names before after plan is same left away =
    subst (λ x. AreAway asks dead names x.items after.plan.plan.lines) (sym left)
    (subst (λ x. AreAway asks dead names before.servers.left_out.items x.plan.lines) (sym same.0)
    (subst (λ x. AreAway asks dead names before.servers.left_out.items x.lines) is away))

pub away_settled : {L I O E : Type 0} (asks : Asks L) (dead : List ℕ) (names : Names) (before : prepared.Prepared I O)
    (plan : PlanView) (r : Result (prepared.Prepared I O) E) → plan ≡ before.plan.plan
    → IfOk r (λ p. (p.plan ≡ before.plan) × (p.survey ≡ before.survey))
    → IfOk r (λ p. p.servers.left_out ≡ before.servers.left_out)
    → AreAway asks dead names before.servers.left_out.items plan.lines
    → IfOk r (λ p. AreAway asks dead names p.servers.left_out.items p.plan.plan.lines)
away_settled asks dead names before plan (Ok p) is same left away =
    away_after asks dead names before p plan is same left away
away_settled asks dead names before plan (Err e) is same left away = tt
