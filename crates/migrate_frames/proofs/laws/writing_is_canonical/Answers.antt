use Rattle.migrate_frames.proofs.Canonical.{writing_is_canonical}
use Rattle.migrate_frames.proofs.laws.writing_is_canonical.Goals as goal

pub returns : goal.returns
returns c = writing_is_canonical
