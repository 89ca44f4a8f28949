use Rattle.std.proofs.Common.{◌≤◌, ◌<◌, length, arith, ap}
use Rattle.typed_values.proofs.Listing.{ranged}
use Rattle.typed_values.proofs.items.Items.range.Goals as goal

pub loop-place-preserved : goal.loop-place-preserved
loop-place-preserved c =
    let low : c.start_place-first.result ≤ c.loop-place.place = omega arith in
    let high : c.loop-place.place < length c.self.inside.texts.items = omega (arith, c.len-length.ensures.count, ap length c.self.view_is, c.end_place-end.ensures.within) in
    let more = ranged c.self.inside.texts.items c.start_place-first.result c.loop-place.place c.index.result.now low high in
    cc (more, c.loop-place.invariant, c.in_ok-try_copy.ensures, c.in_ok-push.ensures.items, c.index.ensures)
