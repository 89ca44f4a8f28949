use Rattle.std.proofs.Common.{◌≡◌, ◌<◌, length, sym, subst, ◌∙◌}
use Rattle.cluster_world.proofs.Within.{Found, found, client-set, on_ok_then, client-memory}
use Rattle.cluster_world.proofs.world.World.client.Goals as goal

pub returns-clause-ok : goal.returns-clause-ok
returns-clause-ok c =
    let port = c.self.inside.base_port in
    let xs = c.self.inside.nodes.items in
    let x = c.index_mut.result.now in
    let at : c.from.result ≡ c.args.node = c.from.ensures ∙ c.get.ensures.value in
    let f : Found port xs c.args.node x = found port xs c.from.result c.args.node x c.self.invariant at (subst (λ w. c.args.node < length w.nodes) (sym c.self.view_is) c.requires) c.index_mut.ensures.value in
    on_ok_then c.client.result (λ e. client-set port xs c.from.result c.args.node x c.client.new.self c.args.self.now c.args.asking c.args.command.now at f c.self.view_is e) c.client.ensures.ok

pub returns-clause-memory : goal.returns-clause-memory
returns-clause-memory c =
    let port = c.self.inside.base_port in
    let xs = c.self.inside.nodes.items in
    let x = c.index_mut.result.now in
    let at : c.from.result ≡ c.args.node = c.from.ensures ∙ c.get.ensures.value in
    let f : Found port xs c.args.node x = found port xs c.from.result c.args.node x c.self.invariant at (subst (λ w. c.args.node < length w.nodes) (sym c.self.view_is) c.requires) c.index_mut.ensures.value in
    client-memory port xs c.args.node x c.args.self.now c.args.asking c.args.command.now c.client.result f c.self.view_is c.client.ensures.memory
