-- The headline of a trail.
use Rattle.std.proofs.Common.{ℕ, List, [], sym, subst}
use Rattle.std.specs.FinMap as finite
use Rattle.std.proofs.lemmas.List.{length-replicate}
use Rattle.cluster_world.specs.Honesty.{Honest}
use Rattle.cluster_world.specs.Openness.{Open}
use Rattle.cluster_admin.specs.Phases.{closed_by}
use Rattle.cluster_world.specs.Steps.{Run}
use Rattle.cluster_world.specs.Trails.{Trail, opening}
use Rattle.cluster_world.specs.WorldView.{new_node}
use Rattle.cluster_world.proofs.OpenedClean.{opened_is_clean}
use Rattle.key_slots.specs.Owners.{IsTable}
use Rattle.plan_semantics.specs.Plans.{Legal}
use Rattle.reshard_theorem.specs.Starts.{Starts}
use Rattle.reshard_theorem.specs.Threads.{HeadlineOverThreads, HeadlineOfOnePlan, from_opening}
use Rattle.reshard_theorem.proofs.Landed.{headline_holds, headline_over_plans, prefixes_are_driven}
use Rattle.reshard_theorem.proofs.Opens.{clean_is_open}

pub opens : (t : Trail) → IsTable t.owners → Open (opening t) (closed_by t.owners.owners) finite.empty []
opens t table = clean_is_open (opening t) t.owners.owners finite.empty (opened_is_clean t.base_port t.owners table)

pub headline_over_threads : HeadlineOverThreads
headline_over_threads stages t last given =
    headline_over_plans stages (opening t) last (closed_by t.owners.owners) finite.empty [] (opens t given.table) given.are_stages
    (subst (λ es. Run (opening t) es last) given.events_are given.run) (subst (λ es. Honest (opening t) [] es) given.events_are given.searched)

pub headline_of_one_plan : HeadlineOfOnePlan
headline_of_one_plan version plan t last given =
    let starts : Starts (from_opening version plan t) = record {
      legal = subst (λ n. Legal version plan (closed_by t.owners.owners) n) (sym (length-replicate t.owners.nodes (new_node t.owners.owners))) given.legal;
      is_open = opens t given.table;
    } in
    let honest = prefixes_are_driven (from_opening version plan t) t.events last starts given.run given.prefix given.searched in
    headline_holds (from_opening version plan t) t.events last (record {
      starts = starts;
      run = given.run;
      driven = (given.prefix, honest.1.drives.driven.1);
      honest = given.searched;
    })
