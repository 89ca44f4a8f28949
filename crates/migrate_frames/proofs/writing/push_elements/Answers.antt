use Rattle.std.proofs.Common.{rules, [], length, Some, ap, sym, ◌∙◌, option_map, ◌++◌, ◌≡◌, slice_get, ◌≤◌}
use Rattle.migrate_frames.specs.Frames.{piece}
use Rattle.migrate_frames.proofs.Written.{one_written, one_fits, is_there}
use Rattle.migrate_frames.proofs.writing.push_elements.Goals as goal

pub unwrap-element-requires : goal.unwrap-element-requires
unwrap-element-requires c = is_there (λ t. t.now) c.element.result c.args.items.now c.loop-place.place [] (search rules) c.element.ensures

pub loop-place-preserved : goal.loop-place-preserved
loop-place-preserved c =
    let x = c.unwrap-element.result.now in
    let at : slice_get c.args.items.now c.loop-place.place ≡ Some x = sym c.element.ensures ∙ ap (option_map (λ t. t.now)) c.unwrap-element.ensures in
    let new = c.in_ok-push_piece.ensures ∙ ap (λ t. c.loop-place.out.items ++ piece t) c.get.ensures.value in
    let short : length x ≤ 1048576 = rw c.get.ensures.value at c.get.ensures.limit in
    record {
      written = one_written piece c.args.items.now c.loop-place.place x c.args.out.now.items c.loop-place.out.items _ at c.loop-place.invariant.written new;
      short = one_fits (λ t. length t ≤ 1048576) c.args.items.now c.loop-place.place x at c.loop-place.invariant.short short;
    }
