use Rattle.std.proofs.Common.{◌≡◌, ◌++◌, ap, ◌∙◌, append_assoc}
use Rattle.migrate_frames.specs.Frames.{piece, pair}
use Rattle.migrate_frames.proofs.Written.{one_written}
use Rattle.migrate_frames.proofs.writing.push_pairs.Goals as goal

pub loop-place-preserved : goal.loop-place-preserved
loop-place-preserved c =
    let name = c.pair.result.0.now in
    let content = c.pair.result.1.now in
    let both : c.push_piece-in-loop-place.new.out.items ≡ c.loop-place.out.items ++ pair (name, content) = c.in_ok-push_piece-2.ensures ∙ ap (λ m. m ++ piece content) c.in_ok-push_piece.ensures ∙ append_assoc c.loop-place.out.items (piece name) (piece content) in
    one_written pair c.args.fields.now c.loop-place.place (name, content) c.args.out.now.items c.loop-place.out.items _ c.pair.ensures.pair c.loop-place.invariant both
