use Rattle.std.proofs.Common.{◌≤◌, sym, subst, ◌∙◌}
use Rattle.key_slots.specs.Owners.{Owners, IsTable}
use Rattle.cluster_world.specs.Earning.{IsFirstDishonest}
use Rattle.cluster_admin.specs.Surveys.{closed_survey}
use Rattle.cluster_world.specs.Trails.{opening}
use Rattle.plan_semantics.specs.Listed.{AreListed}
use Rattle.reshard_theorem.specs.Surveyed.{AreSentFor}
use Rattle.live_tests.proofs.headlines.close_with_headline.Goals as goal

pub returns-in-Ok-None-clause-plans : goal.returns-in-Ok-None-clause-plans
returns-in-Ok-None-clause-plans g c sent some each all =
    let closed = c.close-closed in
    let told = c.nodes-nodes.ensures in
    c.headline_over_trails.ensures.trails sent closed.result.trail closed.result.nodes record {
      table = subst IsTable c.owners.ensures record {
        width = told.width;
        some = subst (λ n. 1 ≤ n) told.value told.some;
        most = subst (λ n. n ≤ 255) told.value told.most;
        named = told.named;
      };
      some = some;
      each_sent = subst (λ (o : Owners). AreSentFor (closed_survey o.nodes o.owners) sent) (sym closed.ensures.owners) each;
      calls_are = closed.ensures.admin ∙ sym all;
      run = closed.ensures.run;
      searched = subst (IsFirstDishonest (opening closed.result.trail) closed.result.trail.events) c.in-Ok-None.field-0-is c.in-Ok-None.ensures;
    }

pub returns-in-Ok-None-clause-listed : goal.returns-in-Ok-None-clause-listed
returns-in-Ok-None-clause-listed g c =
    let closed = c.close-closed in
    subst AreListed closed.ensures.admin
    (c.listings_are_answered.ensures.runs (opening closed.result.trail) closed.result.trail.events closed.result.nodes closed.ensures.run)
