use Rattle.std.proofs.Common.{◌++◌, codes}
use Rattle.std.specs.Fmt.{HasWritten}
use Rattle.server_settling.specs.OpenStops.{held_text, importing_text, migrating_text}
use Rattle.server_settling.specs.declared.stranded.HeldBy.{HeldBy}
use Rattle.server_settling.specs.declared.stranded.Importing.{Importing}
use Rattle.server_settling.specs.declared.stranded.Migrating.{Migrating}
use Rattle.server_settling.proofs.Parts.{with_parts}
use Rattle.server_settling.proofs.stranded.StrandedDisplay.fmt.Goals as goal

pub returns-clause-writes : goal.returns-clause-writes
returns-clause-writes g c = λ p o.
    with_parts (λ (h : HeldBy) (i : Importing) (m : Migrating). HasWritten g.W.Write.write_str_gives c.args.f.now
    (held_text h.slot h.source h.target h.keys ++ (codes ": " ++ (importing_text i.slot i.source i.target ++ (
    codes ", " ++ (migrating_text m.slot m.source m.target ++ codes ", and resume"))))) c.write.new.self)
    c.held-held.result _ c.importing-importing.result _ c.migrating-migrating.result _ c.held-held.ensures c.importing-importing.ensures
    c.migrating-migrating.ensures (c.write.ensures.writes p o)
