use Rattle.std.proofs.Common.{◌≡◌, ◌<◌, length, sym, subst, ◌∙◌, IfOk}
use Rattle.cluster_world.proofs.Within.{Found, found, on_ok_then}
use Rattle.cluster_world.proofs.Setting.{reply-setting, setting-set, memory-setting}
use Rattle.cluster_world.proofs.world.World.set.Goals as goal
use Rattle.cluster_world.proofs.world.World.set.Goals.{After-admin}

here : (c : After-admin) → Found c.self.inside.base_port c.self.inside.nodes.items c.args.node c.index_mut.result.now
here c =
    let at : c.from.result ≡ c.args.node = c.from.ensures ∙ c.get.ensures.value in
    found c.self.inside.base_port c.self.inside.nodes.items c.from.result c.args.node c.index_mut.result.now c.self.invariant at (subst (λ w. c.args.node < length w.nodes) (sym c.self.view_is) c.requires.there) c.index_mut.ensures.value

pub returns-clause-reply : goal.returns-clause-reply
returns-clause-reply c =
    subst (λ z. IfOk c.admin.result (λ r. r ≡ z))
    (reply-setting c.self.inside.base_port c.self.inside.nodes.items c.args.node c.index_mut.result.now c.args.self.now c.args.setting.now (here (goal.at.returns-clause-reply c).After-admin) c.self.view_is c.requires.setting)
    c.admin.ensures.reply

pub returns-clause-ok : goal.returns-clause-ok
returns-clause-ok c =
    let at : c.from.result ≡ c.args.node = c.from.ensures ∙ c.get.ensures.value in
    on_ok_then c.admin.result (λ e. setting-set c.self.inside.base_port c.self.inside.nodes.items c.from.result c.args.node c.index_mut.result.now c.admin.new.self c.args.self.now c.args.setting.now at c.requires.there (here (goal.at.returns-clause-ok c).After-admin) c.self.view_is c.requires.setting e) c.admin.ensures.ok

pub returns-clause-memory : goal.returns-clause-memory
returns-clause-memory c =
    let x = c.index_mut.result.now in
    memory-setting c.admin.result x.me x.nodes x.node c.args.self.now c.args.node c.args.setting.now c.requires.setting c.admin.ensures.memory
