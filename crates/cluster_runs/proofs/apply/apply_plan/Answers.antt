use Rattle.std.proofs.Common.{inl, refl}
use Rattle.cluster_inspection.specs.Starts.{owners_told}
use Rattle.cluster_inspection.proofs.CleanOwners.{clean_owners}
use Rattle.cluster_runs.proofs.apply.apply_plan.Goals as goal

pub returns-in-Ok : goal.returns-in-Ok
returns-in-Ok g c =
    let read = c.in-Ok.ensures.read in
    let ready = c.in-Ok.ensures.prepared in
    let v = c.in-Ok.prepared.servers.surveyed.survey in
    inl (
      read.0,
      c.in-Ok.count.printed.items,
      read.1,
      (owners_told v, c.in-Ok.plan, clean_owners _ _ v _ _ _ ready.found ready.numbered ready.clean refl, read.2, c.in-Ok.ensures.says),
      c.run.ensures,
    )
