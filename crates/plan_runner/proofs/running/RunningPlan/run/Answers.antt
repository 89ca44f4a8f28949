use Rattle.std.proofs.Common.{arith, refl, sym, ◌∙◌}
use Rattle.plan_runner.specs.declared.plan_state.PlanState.TheVariants.{Running, Done, Stopped}
use Rattle.plan_runner.proofs.Going.{sends_on, run_on, far_on, far_end}
use Rattle.plan_runner.proofs.running.RunningPlan.run.Goals as goal

pub loop-next-preserved : goal.loop-next-preserved
loop-next-preserved g c =
    let inv = c.loop-next.invariant in
    let calls = g.P.AdminPort.calls in
    let s = sends_on (record { moves = g.P.AdminPort.moves; fails = g.P.AdminPort.fails }) c.loop-next.port c.advance.new.port c.loop-next.plan.progress c.in-Running.next.progress (calls c.loop-next.plan.seat) (calls c.in-Running.next.seat) (Running c.in-Running.next.progress) refl c.in-Running.ensures.sends in
    let r = run_on c.loop-next.plan.progress c.in-Running.next.progress s.0.reply s.2 in
    record {
      fits = c.in-Running.ensures.seat;
      nodes = c.in-Running.ensures.nodes ∙ inv.nodes ∙ sym r.0;
      kept = c.in-Running.ensures.nodes ∙ inv.kept;
      so_far = far_on (record { moves = g.P.AdminPort.moves; fails = g.P.AdminPort.fails }) c.args.port.now c.loop-next.port c.advance.new.port c.args.self.progress c.loop-next.plan.progress c.in-Running.next.progress (calls c.args.self.seat) (calls c.loop-next.plan.seat) (calls c.in-Running.next.seat)
          (Running c.in-Running.next.progress) refl inv.so_far c.in-Running.ensures.sends;
    }

pub loop-next-smaller : goal.loop-next-smaller
loop-next-smaller g c =
    let calls = g.P.AdminPort.calls in
    let s = sends_on (record { moves = g.P.AdminPort.moves; fails = g.P.AdminPort.fails }) c.loop-next.port c.advance.new.port c.loop-next.plan.progress c.in-Running.next.progress (calls c.loop-next.plan.seat) (calls c.in-Running.next.seat) (Running c.in-Running.next.progress) refl c.in-Running.ensures.sends in
    let r = run_on c.loop-next.plan.progress c.in-Running.next.progress s.0.reply s.2 in
    let room = c.in-Running.ensures.room in
    omega (arith, r.1, r.2, room)

pub returns-in-Done-clause-runs : goal.returns-in-Done-clause-runs
returns-in-Done-clause-runs g c =
    let calls = g.P.AdminPort.calls in
    far_end (record { moves = g.P.AdminPort.moves; fails = g.P.AdminPort.fails }) c.args.port.now c.loop-next.port c.advance.new.port c.args.self.progress c.loop-next.plan.progress (calls c.args.self.seat) (calls c.loop-next.plan.seat) (calls c.in-Done.done.seat)
    (Done c.in-Done.done.spent) tt c.loop-next.invariant.so_far c.in-Done.ensures.sends

pub returns-in-Stopped-clause-runs : goal.returns-in-Stopped-clause-runs
returns-in-Stopped-clause-runs g c =
    let calls = g.P.AdminPort.calls in
    far_end (record { moves = g.P.AdminPort.moves; fails = g.P.AdminPort.fails }) c.args.port.now c.loop-next.port c.advance.new.port c.args.self.progress c.loop-next.plan.progress (calls c.args.self.seat) (calls c.loop-next.plan.seat) (calls c.in-Stopped.stopped.seat)
    (Stopped c.in-Stopped.stopped.cause c.in-Stopped.stopped.spent) tt c.loop-next.invariant.so_far c.in-Stopped.ensures.sends
