use Rattle.std.proofs.Common.{[], sym, subst, append-nil}
use Rattle.cluster_world.specs.AdminCalls.{calls}
use Rattle.plan_language.specs.Lines.{plan_commands}
use Rattle.plan_semantics.specs.Unrolling.{Unrolls}
use Rattle.reshard_theorem.proofs.Threads.{headline_of_one_plan}
use Rattle.loopback_servers.proofs.laws.served_plans_have_the_headline.Goals as goal

pub returns : goal.returns
returns c = λ plan t last table verified served run searched.
    let commands = plan_commands t.owners.nodes plan.lines in
    headline_of_one_plan plan.version commands t last (record {
      table = table;
      legal = verified.0;
      run = run;
      prefix = ([], subst (Unrolls commands) (sym (append-nil (calls t.events))) served.carried_out);
      searched = searched;
    })
