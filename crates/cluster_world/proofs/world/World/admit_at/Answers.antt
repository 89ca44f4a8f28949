use Rattle.std.proofs.Common.{◌≡◌, ◌<◌, length, sym, subst, ◌∙◌}
use Rattle.slot_keyspace.specs.Batches.{with_entries}
use Rattle.cluster_node.specs.Admitting.{frame_entries}
use Rattle.cluster_world.proofs.Within.{Found, found, held-set, on_ok_then}
use Rattle.cluster_world.proofs.world.World.admit_at.Goals as goal

pub returns-clause-ok : goal.returns-clause-ok
returns-clause-ok c =
    let port = c.self.inside.base_port in
    let xs = c.self.inside.nodes.items in
    let x = c.index_mut.result.now in
    let at : c.from.result ≡ c.args.node = c.from.ensures ∙ c.get.ensures.value in
    let f : Found port xs c.args.node x = found port xs c.from.result c.args.node x c.self.invariant at (subst (λ w. c.args.node < length w.nodes) (sym c.self.view_is) c.requires) c.index_mut.ensures.value in
    on_ok_then c.admit.result (λ e. held-set port xs c.from.result c.args.node x c.admit.new.self c.args.self.now (λ s. with_entries s (frame_entries c.args.frame.now)) at f c.self.view_is e) c.admit.ensures.ok
