use Rattle.std.proofs.Common.{◌≡◌, ◌≤◌, ◌++◌, length, ap, sym, subst, ◌∙◌, rules}
use Rattle.std.specs.List.{flat_map}
use Rattle.std.proofs.lemmas.List.{length-map}
use Rattle.migrate_frames.specs.Batches.{entry_of, entries_of}
use Rattle.migrate_frames.specs.Frames.{short_number, entry, frame}
use Rattle.migrate_frames.specs.Reading.{frame_at}
use Rattle.migrate_frames.proofs.Again.{reading_inverts_writing}
use Rattle.migrate_frames.proofs.writing.write_frame.Goals as goal

pub returns-clause-written : goal.returns-clause-written
unfolding frame short_number
returns-clause-written c =
    let batch = c.args.batch.now in
    let written : c.push_entries.new.out.items ≡ short_number (length batch) ++ flat_map entry (entries_of batch) = search rules in
    written ∙ ap (λ n. short_number n ++ flat_map entry (entries_of batch)) (sym (length-map batch entry_of))

pub returns-clause-read : goal.returns-clause-read
returns-clause-read c =
    ap frame_at (returns-clause-written c)
    ∙ reading_inverts_writing (entries_of c.args.batch.now) (record {
      some = subst (λ n. 1 ≤ n) (sym (length-map c.args.batch.now entry_of)) c.requires.some;
      few = subst (λ n. n ≤ 1000) (sym (length-map c.args.batch.now entry_of)) c.requires.few;
      once = c.requires.once;
      each = c.in_ok-push_entries.ensures.each;
    })
