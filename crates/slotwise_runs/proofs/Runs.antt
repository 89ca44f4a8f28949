-- Worlds and trails are cases of what servers may do.
use Rattle.std.proofs.Common.{sym, subst}
use Rattle.std.proofs.lemmas.List.{length-replicate}
use Rattle.cluster_admin.specs.Phases.{closed_by}
use Rattle.cluster_world.specs.Trails.{opening}
use Rattle.cluster_world.specs.WorldView.{new_node}
use Rattle.plan_semantics.specs.Plans.{Legal}
use Rattle.reshard_theorem.specs.Threads.{from_opening}
use Rattle.reshard_theorem.proofs.Servers.{runs_are_server_runs}
use Rattle.reshard_theorem.proofs.Threads.{opens}
use Rattle.slotwise_runs.specs.Runs.{TrailHeadlineBySlots, WorldHeadlineBySlots}
use Rattle.slotwise_runs.proofs.Headline.{in_any_order_of_slots}

pub world_headline_by_slots : WorldHeadlineBySlots
world_headline_by_slots reshard events last starts run seen honest = in_any_order_of_slots reshard events last (record {
  starts = starts;
  run = runs_are_server_runs reshard.first events last run;
  seen = seen;
  honest = honest;
})

pub trail_headline_by_slots : TrailHeadlineBySlots
trail_headline_by_slots version plan t last given = in_any_order_of_slots (from_opening version plan t) t.events last (record {
  starts = record {
    legal = subst (λ n. Legal version plan (closed_by t.owners.owners) n) (sym (length-replicate t.owners.nodes (new_node t.owners.owners))) given.legal;
    is_open = opens t given.table;
  };
  run = runs_are_server_runs (opening t) t.events last given.run;
  seen = given.seen;
  honest = given.searched;
})
