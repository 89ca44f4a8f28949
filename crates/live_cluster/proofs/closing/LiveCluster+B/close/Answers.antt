use Rattle.std.proofs.Common.{◌≡◌, ℕ, ◌-◌, ◌≤◌, List, length, sym, ap, ◌∙◌, subst}
use Rattle.std.specs.List.{All}
use Rattle.cluster_world.specs.Earning.{world_after}
use Rattle.cluster_world.specs.WorldView.{AreNodes, world_of}
use Rattle.cluster_world.specs.declared.event.Event.{Event}
use Rattle.live_cluster.specs.Fresh.{fresh_from}
use Rattle.shared_trail.specs.Trails.{IsTrail, calls_of}
use Rattle.live_cluster.specs.Returns.{AreFirst, numbers_of}
use Rattle.shared_trail.specs.TrailView.{TrailView}
use Rattle.live_cluster.proofs.Fresh.{named_below}
use Rattle.live_cluster.proofs.Returned.{first_distinct, given_below}
use Rattle.live_cluster.proofs.Listed.{listed}
use Rattle.live_cluster.proofs.Rests.{closed_run, row_nodes, row_world}
use Rattle.live_cluster.proofs.closing.LiveCluster+B.close.Goals as goal

pub of_nodes-requires : goal.of_nodes-requires
of_nodes-requires g c =
    let w = g.B.ClusterBrand.setup.opening in
    let few = c.args.self.few in
    subst (λ p. AreNodes p c.close.new.nodes.items) (sym c.args.self.ported)
    (row_nodes w (world_after w c.settle.new.trail.events) 8 c.close.new.nodes.items c.close.ensures.row few
    (subst (λ n. 1 ≤ n) c.args.self.counted c.args.self.some) few
    (subst (λ p. p ≤ 65528) c.args.self.ported c.args.self.low))

pub returns-clause-run : goal.returns-clause-run
returns-clause-run g c =
    let w = g.B.ClusterBrand.setup.opening in
    let few = c.args.self.few in
    let told = c.into_trail.ensures in
    let same : c.into_trail.result.events ≡ c.settle.new.trail.events = told.events ∙ ap (λ (t : TrailView). t.events) c.close.ensures.same in
    let nodes = c.of_nodes.ensures ∙ ap (λ p. world_of p c.close.new.nodes.items) c.args.self.ported ∙ row_world w c.settle.new.trail.events 8 c.close.new.nodes.items c.close.ensures.row few in
    closed_run w g.B.ClusterBrand.setup.owners c.into_trail.result c.of_nodes.result told.opened told.owners told.port
    (subst (IsTrail w) (sym told.events) told.run) (nodes ∙ ap (world_after w) (sym same))

pub returns-clause-named : goal.returns-clause-named
returns-clause-named g c =
    let told = c.into_trail.ensures in
    subst (IsTrail g.B.ClusterBrand.setup.opening) (sym told.events) told.run

pub returns-clause-admin : goal.returns-clause-admin
returns-clause-admin g c =
    let w = g.B.ClusterBrand.setup.opening in
    let told = c.into_trail.ensures in
    let same : c.into_trail.result.events ≡ c.close_seats-2.new.trail.events = told.events ∙ ap (λ (t : TrailView). t.events) c.close.ensures.same ∙ c.settle.ensures.events in
    listed w c.into_trail.result.events c.args.admin (subst (IsTrail w) (sym told.events) told.run) (ap (calls_of 32) same ∙ c.settle.ensures.seat)

pub returns-clause-seats : goal.returns-clause-seats
returns-clause-seats g c =
    let told = c.into_trail.ensures in
    let end : c.into_trail.result.events ≡ c.close_seats.new.trail.events =
    told.events ∙ ap (λ (t : TrailView). t.events) c.close.ensures.same ∙ c.settle.ensures.events ∙ c.close_seats-2.ensures.events in
    let same = end ∙ c.close_seats.ensures.events in
    let parts = c.into_parts-left.ensures in
    let left : c.into_parts-left.result.0.items ≡ fresh_from c.into_parts-left.result.1 (32 - c.into_parts-left.result.1) = parts.0 ∙ ap (λ m. fresh_from m (32 - m)) (sym parts.1) in
    let first = subst (AreFirst (numbers_of c.args.seats.items)) c.close_seats.ensures.gone c.close_seats-2.ensures.first in
    record {
      apart = first_distinct (numbers_of c.args.seats.items) c.close_seats.new.trail.gone c.close_seats-2.ensures.first;
      numbered = given_below c.into_parts-left.result.1 c.into_parts-left.result.0.items c.args.seats.items c.into_inner-trail.result.gone left first c.close_seats-2.ensures.low;
      lists = subst (λ (es : List Event). All (λ (s : ℕ × List Event). calls_of s.0 es ≡ s.1) c.args.seats.items) (sym end) c.close_seats-2.ensures.seats;
      callers = named_below g.B.ClusterBrand.setup.opening c.into_trail.result.events c.into_parts-left.result.1 c.into_parts-left.result.0.items
          (subst (IsTrail g.B.ClusterBrand.setup.opening) (sym told.events) told.run)
          (subst (λ m. m ≤ 32) (sym parts.1) parts.2)
          left
          (subst (λ (es : List Event). All (λ (s : ℕ × List Event). calls_of s.0 es ≡ s.1) c.into_parts-left.result.0.items) (sym same) c.close_seats.ensures.seats);
    }
