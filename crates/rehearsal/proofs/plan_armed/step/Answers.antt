use Rattle.plan_runner.specs.declared.running.Taken.TheVariants.{Running, Done, Stopped}
use Rattle.rehearsal.proofs.Stepping.{armed_kept, next_is, sent_recorded, still_armed}
use Rattle.rehearsal.proofs.Stepping.{stepped_done, stepped_on, stepped_stop}
use Rattle.rehearsal.proofs.Underway.{sent_on}
use Rattle.rehearsal.proofs.plan_armed.step.Goals as goal

pub returns-in-Running-clause-stepped : goal.returns-in-Running-clause-stepped
returns-in-Running-clause-stepped c =
    let next = next_is c.args.plan.progress c.next.result c.if-is_none.ensures c.next.ensures in
    stepped_on
    c.args.recorded
    c.advance.new.port
    c.args.plan
    next.0
    c.args.transcript.now
    c.print_last_call-printed.new.transcript
    c.go_on.result
    next.1
    c.in-Running.plan
    c.print_last_call-printed.result
    c.in-Running.ensures.sends
    (rw c.events.ensures at c.print_last_call-printed.ensures)
    c.go_on.ensures

pub returns-in-Running-clause-kept : goal.returns-in-Running-clause-kept
returns-in-Running-clause-kept c =
    let went = c.in-Running in
    let r = c.args.recorded in
    let p = c.args.plan in
    armed_kept
    c.advance.new.port
    went.plan
    c.print_last_call-printed.result
    c.go_on.result
    (sent_recorded r c.advance.new.port p.progress p.seat (Running went.plan) c.requires.record went.ensures.sends)
    (still_armed r c.advance.new.port p went.plan c.requires.armed went.ensures.nodes went.ensures.sends)
    (sent_on r c.advance.new.port p.progress went.plan p.seat went.plan.seat c.requires.underway went.ensures.sends)
    c.go_on.ensures

pub returns-in-Done-clause-stepped : goal.returns-in-Done-clause-stepped
returns-in-Done-clause-stepped c =
    let next = next_is c.args.plan.progress c.next.result c.if-is_none.ensures c.next.ensures in
    stepped_done
    c.args.recorded
    c.advance.new.port
    c.args.plan
    next.0
    c.args.transcript.now
    c.end_step.new.transcript
    c.end_step.result
    c.in-Done.done
    next.1
    c.in-Done.ensures.sends
    c.end_step.ensures.ended

pub returns-in-Stopped-clause-stepped : goal.returns-in-Stopped-clause-stepped
returns-in-Stopped-clause-stepped c =
    let next = next_is c.args.plan.progress c.next.result c.if-is_none.ensures c.next.ensures in
    stepped_stop
    c.args.recorded
    c.advance.new.port
    c.args.plan
    next.0
    c.args.transcript.now
    c.end_step-in-Stopped.new.transcript
    c.end_step-in-Stopped.result
    c.in-Stopped.stopped
    next.1
    c.in-Stopped.ensures.sends
    c.end_step-in-Stopped.ensures.ended

pub end_step-requires : goal.end_step-requires
end_step-requires c =
    let p = c.args.plan in
    sent_recorded c.args.recorded c.advance.new.port p.progress p.seat (Done c.in-Done.done) c.requires.record
    c.in-Done.ensures.sends

pub end_step-requires-in-Stopped : goal.end_step-requires-in-Stopped
end_step-requires-in-Stopped c =
    let p = c.args.plan in
    sent_recorded c.args.recorded c.advance.new.port p.progress p.seat (Stopped c.in-Stopped.stopped) c.requires.record
    c.in-Stopped.ensures.sends
