use Rattle.std.proofs.Common.{List, ap, inr, refl, subst, sym}
use Rattle.plan_runner.specs.Advancing.{plan_of}
use Rattle.redis_servers.specs.Calls.{Given}
use Rattle.redis_servers.specs.InOneGo.{TellsInOneGo}
use Rattle.server_runs.specs.declared.run_end.RunEnd.TheVariants.{Stopped}
use Rattle.server_runs.proofs.Stepping.{others_none, others_told, told_given_up}
use Rattle.server_runs.proofs.in_one_go.tell_others.Goals as goal

pub returns-then-not-show_each-clause-advances : goal.returns-then-not-show_each-clause-advances
returns-then-not-show_each-clause-advances g c p spent takes =
    inr (told_given_up (record { gave = g.I.ByteIn.gave; took = g.O.ByteOut.took })
    (record { sees = g.W.Watcher.sees; hears = g.W.Watcher.hears; misses = g.W.Watcher.misses }) c.args.owned.now
    c.args.nodes.now (c.args.port.now, c.args.watcher.now) (c.args.port.now, c.show_each.new.watcher) p
    (plan_of c.args.ahead) c.args.spent c.show_each.result spent c.if-not-show_each.true takes c.show_each.ensures refl _
    refl)

pub returns-in-Ok-clause-advances : goal.returns-in-Ok-clause-advances
returns-in-Ok-clause-advances g c p spent takes =
    others_told (record { gave = g.I.ByteIn.gave; took = g.O.ByteOut.took })
    (record { sees = g.W.Watcher.sees; hears = g.W.Watcher.hears; misses = g.W.Watcher.misses }) c.args.owned.now
    c.args.nodes.now (c.args.port.now, c.args.watcher.now) (c.tell_in_one_go.new.self, c.hear_each.new.watcher)
    c.show_each.new.watcher p (plan_of c.args.ahead) c.args.spent c.show_each.result c.as_slice-given.result.now
    c.step_behind.result c.requires.some c.requires.owner c.requires.nodes spent c.if-not-show_each.false takes
    c.show_each.ensures
    (subst (λ (l : List Given). TellsInOneGo (record { gave = g.I.ByteIn.gave; took = g.O.ByteOut.took }) c.args.owned.now.slot
    c.args.owned.now.owner c.args.nodes.now c.args.port.now l c.tell_in_one_go.new.self)
    (sym c.as_slice-given.ensures.value) c.in-Ok.ensures)
    c.hear_each.ensures c.step_behind.ensures

pub returns-in-Err-clause-advances : goal.returns-in-Err-clause-advances
returns-in-Err-clause-advances g c p spent takes =
    inr (others_none (record { gave = g.I.ByteIn.gave; took = g.O.ByteOut.took })
    (record { sees = g.W.Watcher.sees; hears = g.W.Watcher.hears; misses = g.W.Watcher.misses }) c.args.owned.now
    c.args.nodes.now (c.args.port.now, c.args.watcher.now) (c.tell_in_one_go.new.self, c.lost.new.self)
    c.show_each.new.watcher p (plan_of c.args.ahead) c.args.spent c.show_each.result c.in-Err.fault c.requires.some spent
    c.if-not-show_each.false takes c.show_each.ensures c.in-Err.ensures c.lost.ensures
    (Stopped c.cause_of.result c.args.spent) (ap (λ k. Stopped k c.args.spent) c.cause_of.ensures))
