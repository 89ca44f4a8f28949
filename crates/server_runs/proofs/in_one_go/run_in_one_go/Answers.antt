use Rattle.std.proofs.Common.{◌<◌, ap, arith, length, rules, sym, ◌∙◌}
use Rattle.server_runs.proofs.Stepping.{begun, far_end, far_on, nodes_kept, spends}
use Rattle.server_runs.proofs.in_one_go.run_in_one_go.Goals as goal

pub loop-next-init : goal.loop-next-init
loop-next-init g c = record {
  nodes = c.requires;
  far =
      begun (record { gave = g.I.ByteIn.gave; took = g.O.ByteOut.took })
      (record { sees = g.W.Watcher.sees; hears = g.W.Watcher.hears; misses = g.W.Watcher.misses })
      (c.args.port.now, c.args.watcher.now) c.args.plan.progress;
}

pub loop-next-preserved : goal.loop-next-preserved
loop-next-preserved g c =
    let inv = c.loop-next.invariant in record {
      nodes =
          ap (λ x. length x.book) c.advance.ensures.setup ∙ inv.nodes
          ∙ sym (nodes_kept (record { gave = g.I.ByteIn.gave; took = g.O.ByteOut.took })
          (record { sees = g.W.Watcher.sees; hears = g.W.Watcher.hears; misses = g.W.Watcher.misses }) c.loop-next.told
          (c.loop-next.port, c.loop-next.watcher) (c.advance.new.port, c.advance.new.watcher) c.loop-next.plan.progress
          c.in-On.next.progress c.in-On.last c.in-On.ensures.advances);
      far =
          far_on (record { gave = g.I.ByteIn.gave; took = g.O.ByteOut.took })
          (record { sees = g.W.Watcher.sees; hears = g.W.Watcher.hears; misses = g.W.Watcher.misses })
          (c.args.port.now, c.args.watcher.now) (c.loop-next.port, c.loop-next.watcher)
          (c.advance.new.port, c.advance.new.watcher) c.args.plan.progress c.loop-next.plan.progress
          c.in-On.next.progress c.loop-next.told c.in-On.last inv.far c.in-On.ensures.advances;
    }

pub loop-next-smaller : goal.loop-next-smaller
loop-next-smaller g c =
    let more =
    spends (record { gave = g.I.ByteIn.gave; took = g.O.ByteOut.took })
    (record { sees = g.W.Watcher.sees; hears = g.W.Watcher.hears; misses = g.W.Watcher.misses }) c.loop-next.told
    (c.loop-next.port, c.loop-next.watcher) (c.advance.new.port, c.advance.new.watcher) c.loop-next.plan.progress
    c.in-On.next.progress c.in-On.last c.in-On.ensures.advances in
    let bound : c.cost_so_far-spent.result < 18446744073709551616 = search rules in
    omega (arith, more, c.cost_so_far-spent.ensures, bound)

pub returns-in-Over : goal.returns-in-Over
returns-in-Over g c =
    far_end (record { gave = g.I.ByteIn.gave; took = g.O.ByteOut.took })
    (record { sees = g.W.Watcher.sees; hears = g.W.Watcher.hears; misses = g.W.Watcher.misses })
    (c.args.port.now, c.args.watcher.now) (c.loop-next.port, c.loop-next.watcher)
    (c.advance.new.port, c.advance.new.watcher) c.args.plan.progress c.loop-next.plan.progress c.loop-next.told
    c.in-Over.end c.loop-next.invariant.far c.in-Over.ensures.advances
