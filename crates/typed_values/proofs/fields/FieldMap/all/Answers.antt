use Rattle.typed_values.proofs.Listing.{named}
use Rattle.typed_values.proofs.fields.FieldMap.all.Goals as goal

pub loop-place-preserved : goal.loop-place-preserved
loop-place-preserved c =
    let more = named c.args.self.now c.loop-place.place c.pair.result.0.now c.pair.result.1.now c.pair.ensures.pair in
    cc (more, c.loop-place.invariant, c.in_ok-from_slice.ensures, c.in_ok-push.ensures.items, c.in_ok-from_slice-2.ensures, c.in_ok-push-2.ensures.items)
