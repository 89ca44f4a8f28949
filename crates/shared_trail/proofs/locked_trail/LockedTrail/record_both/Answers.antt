use Rattle.std.proofs.Common.{◌+◌, List, length, sym, ap, ◌∙◌, subst}
use Rattle.cluster_world.specs.declared.event.Event.{Event}
use Rattle.shared_trail.specs.Trails.{IsTrail}
use Rattle.shared_trail.specs.Rule.{quiet_ledger}
use Rattle.shared_trail.proofs.Runs.{quiet_again}
use Rattle.shared_trail.proofs.Stages.{records_both}
use Rattle.shared_trail.proofs.locked_trail.LockedTrail.record_both.Goals as goal

pub end-requires-clause-sound : goal.end-requires-clause-sound
end-requires-clause-sound g c =
    (records_both _ _ _ _ _ _ _ c.args.event _ _ _ _ _ _ _ _ _ _ _ _ _ _ _ c.self.invariant.1 c.requires.apart c.self.invariant.0 c.begin.ensures
    c.requires.target c.take.ensures.was c.take.ensures.part c.take.ensures.ledger
    c.requires.source c.take-2.ensures.was c.take-2.ensures.part c.take-2.ensures.ledger
    c.requires.maker c.take-3.ensures.was c.take-3.ensures.part c.take-3.ensures.ledger
    c.requires.named c.requires.shared).0.sound

pub invariant_of-self : goal.invariant_of-self
invariant_of-self g c =
    let all = records_both _ _ _ _ _ _ _ c.args.event _ _ _ _ _ _ _ _ _ _ _ _ _ _ _ c.self.invariant.1 c.requires.apart c.self.invariant.0 c.begin.ensures
    c.requires.target c.take.ensures.was c.take.ensures.part c.take.ensures.ledger
    c.requires.source c.take-2.ensures.was c.take-2.ensures.part c.take-2.ensures.ledger
    c.requires.maker c.take-3.ensures.was c.take-3.ensures.part c.take-3.ensures.ledger
    c.requires.named c.requires.shared in
    let same = c.push.ensures in
    let items = same.events_are in
    (quiet_again _ _ _ _ _ (c.end.ensures ∙ all.0.ledger ∙ ap (λ l. quiet_ledger g.B.ClusterBrand.setup.opening l (33 + length g.B.ClusterBrand.setup.opening.nodes) c.self.inside.keeper.gone) (sym items)), subst (IsTrail g.B.ClusterBrand.setup.opening) (sym items) all.0.run, same.owners_are ∙ c.self.invariant.2, same.port_is ∙ c.self.invariant.3, c.self.invariant.4)

pub returns-clause-source : goal.returns-clause-source
returns-clause-source g c =
    (records_both _ _ _ _ _ _ _ c.args.event _ _ _ _ _ _ _ _ _ _ _ _ _ _ _ c.self.invariant.1 c.requires.apart c.self.invariant.0 c.begin.ensures
    c.requires.target c.take.ensures.was c.take.ensures.part c.take.ensures.ledger
    c.requires.source c.take-2.ensures.was c.take-2.ensures.part c.take-2.ensures.ledger
    c.requires.maker c.take-3.ensures.was c.take-3.ensures.part c.take-3.ensures.ledger
    c.requires.named c.requires.shared).1

pub returns-clause-target : goal.returns-clause-target
returns-clause-target g c =
    (records_both _ _ _ _ _ _ _ c.args.event _ _ _ _ _ _ _ _ _ _ _ _ _ _ _ c.self.invariant.1 c.requires.apart c.self.invariant.0 c.begin.ensures
    c.requires.target c.take.ensures.was c.take.ensures.part c.take.ensures.ledger
    c.requires.source c.take-2.ensures.was c.take-2.ensures.part c.take-2.ensures.ledger
    c.requires.maker c.take-3.ensures.was c.take-3.ensures.part c.take-3.ensures.ledger
    c.requires.named c.requires.shared).2

pub returns-clause-maker : goal.returns-clause-maker
returns-clause-maker g c =
    (records_both _ _ _ _ _ _ _ c.args.event _ _ _ _ _ _ _ _ _ _ _ _ _ _ _ c.self.invariant.1 c.requires.apart c.self.invariant.0 c.begin.ensures
    c.requires.target c.take.ensures.was c.take.ensures.part c.take.ensures.ledger
    c.requires.source c.take-2.ensures.was c.take-2.ensures.part c.take-2.ensures.ledger
    c.requires.maker c.take-3.ensures.was c.take-3.ensures.part c.take-3.ensures.ledger
    c.requires.named c.requires.shared).0.list
