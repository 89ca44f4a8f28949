use Rattle.typed_values.proofs.Listing.{taken}
use Rattle.typed_values.proofs.members.MemberSet.all.Goals as goal

pub loop-place-preserved : goal.loop-place-preserved
loop-place-preserved c =
    let more = taken c.args.self.now c.loop-place.place c.member.result.now c.member.ensures.member in
    cc (more, c.loop-place.invariant, c.in_ok-from_slice.ensures, c.in_ok-push.ensures.items)
