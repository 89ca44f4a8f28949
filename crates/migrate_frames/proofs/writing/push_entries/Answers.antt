use Rattle.std.proofs.Common.{◌≡◌, false, refl}
use Rattle.std.proofs.lemmas.Option.{slice_get_read}
use Rattle.typed_values.specs.Values.{is_empty_collection}
use Rattle.migrate_frames.specs.Batches.{FitsEntry, entry_of}
use Rattle.migrate_frames.specs.Frames.{entry}
use Rattle.migrate_frames.proofs.Written.{one_view_written, one_view_fits, view_at}
use Rattle.migrate_frames.proofs.writing.push_entries.Goals as goal

pub push_entry-requires : goal.push_entry-requires
push_entry-requires c =
    let at = slice_get_read c.args.batch.now _ c.loop-item.item-index c.item-item.result refl c.loop-item-test.true c.item-item.is in
    view_at entry_of (λ e. is_empty_collection e.1 ≡ false) c.args.batch.now c.loop-item.item-index c.item-item.result c.requires at

pub loop-item-preserved : goal.loop-item-preserved
loop-item-preserved c =
    let at = slice_get_read c.args.batch.now _ c.loop-item.item-index c.item-item.result refl c.loop-item-test.true c.item-item.is in
    record {
      written = one_view_written entry_of entry c.args.batch.now c.loop-item.item-index c.item-item.result c.args.out.now.items c.loop-item.out.items _ at c.loop-item.invariant.written c.in_ok-push_entry.ensures.written;
      each = one_view_fits entry_of FitsEntry c.args.batch.now c.loop-item.item-index c.item-item.result at c.loop-item.invariant.each c.in_ok-push_entry.ensures.fits;
    }
