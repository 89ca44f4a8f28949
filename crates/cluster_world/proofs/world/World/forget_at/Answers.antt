use Rattle.std.proofs.Common.{◌≡◌, ◌<◌, length, sym, subst, ◌∙◌}
use Rattle.store_commands.specs.Effects.{without}
use Rattle.cluster_world.proofs.Within.{Found, found, held-set}
use Rattle.cluster_world.proofs.world.World.forget_at.Goals as goal

pub returns : goal.returns
returns c =
    let port = c.self.inside.base_port in
    let xs = c.self.inside.nodes.items in
    let x = c.index_mut.result.now in
    let at : c.from.result ≡ c.args.node = c.from.ensures ∙ c.get.ensures.value in
    let f : Found port xs c.args.node x = found port xs c.from.result c.args.node x c.self.invariant at (subst (λ w. c.args.node < length w.nodes) (sym c.self.view_is) c.requires) c.index_mut.ensures.value in
    held-set port xs c.from.result c.args.node x c.forget.new.self c.args.self.now (λ s. without s c.args.keys.now) at f c.self.view_is c.forget.ensures
