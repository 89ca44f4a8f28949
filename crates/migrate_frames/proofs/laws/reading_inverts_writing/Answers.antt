use Rattle.migrate_frames.proofs.Again.{reading_inverts_writing}
use Rattle.migrate_frames.proofs.laws.reading_inverts_writing.Goals as goal

pub returns : goal.returns
returns c = reading_inverts_writing
