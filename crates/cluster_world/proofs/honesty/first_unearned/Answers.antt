use Rattle.std.proofs.Common.{rules, ◌<◌, ◌∙◌, [], sym, length, take}
use Rattle.cluster_world.specs.Honesty.{past_of}
use Rattle.cluster_world.proofs.Searched.{begun, is_there, stops, goes}
use Rattle.cluster_world.proofs.honesty.first_unearned.Goals as goal

pub loop-place-init : goal.loop-place-init
loop-place-init c =
    begun c.args.base_port c.args.owners.now c.args.events.now c.in_ok-marks.marks c.new-errors.result
    (c.in_ok-marks.ensures.nodes ∙ c.nodes.ensures.value) c.in_ok-marks.ensures.none c.new-errors.ensures

pub is_earned-requires-clause-there : goal.is_earned-requires-clause-there
is_earned-requires-clause-there c =
    let h : c.loop-place.place < length c.args.events.now = search rules in
    is_there c.args.base_port c.args.owners.now c.args.events.now c.requires.run.0 c.requires.run.1 c.loop-place.place c.loop-place.marks c.loop-place.errors c.index-events-place.result h c.index-events-place.is c.loop-place.invariant

pub note-requires : goal.note-requires
note-requires c =
    let h : c.loop-place.place < length c.args.events.now = search rules in
    is_there c.args.base_port c.args.owners.now c.args.events.now c.requires.run.0 c.requires.run.1 c.loop-place.place c.loop-place.marks c.loop-place.errors c.index-events-place.result h c.index-events-place.is c.loop-place.invariant

pub returns-then-not-branch : goal.returns-then-not-branch
returns-then-not-branch c =
    let h : c.loop-place.place < length c.args.events.now = search rules in
    stops c.args.base_port c.args.owners.now c.args.events.now c.requires.run.0 c.requires.run.1 c.loop-place.place c.loop-place.marks c.loop-place.errors c.index-events-place.result h c.index-events-place.is c.loop-place.invariant
    (sym (c.in_ok-is_earned.ensures (past_of [] (take c.loop-place.place c.args.events.now)) c.loop-place.invariant.told c.loop-place.invariant.places) ∙ c.if-not-branch.true)

pub loop-place-preserved : goal.loop-place-preserved
loop-place-preserved c =
    let h : c.loop-place.place < length c.args.events.now = search rules in
    goes c.args.base_port c.args.owners.now c.args.events.now c.requires.run.0 c.requires.run.1 c.loop-place.place c.loop-place.marks c.loop-place.errors c.index-events-place.result h c.index-events-place.is c.loop-place.invariant
    c.note.new.self c.note-in-loop-place.new.self
    (sym (c.in_ok-is_earned.ensures (past_of [] (take c.loop-place.place c.args.events.now)) c.loop-place.invariant.told c.loop-place.invariant.places) ∙ c.if-not-branch.false)
    c.note.ensures.marks c.note.ensures.nodes c.in_ok-note.ensures
