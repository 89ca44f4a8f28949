use Rattle.migrate_frames.specs.Frames.{piece}
use Rattle.migrate_frames.proofs.Written.{one_written}
use Rattle.migrate_frames.proofs.writing.push_members.Goals as goal

pub loop-place-preserved : goal.loop-place-preserved
loop-place-preserved c = one_written piece c.args.members.now c.loop-place.place c.member.result.now c.args.out.now.items c.loop-place.out.items _ c.member.ensures.member c.loop-place.invariant c.in_ok-push_piece.ensures
