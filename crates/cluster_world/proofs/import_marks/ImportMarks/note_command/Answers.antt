use Rattle.std.proofs.Common.{rules}
use Rattle.cluster_world.proofs.Imported.{import_noted, owner_noted, stable_noted}
use Rattle.cluster_world.proofs.import_marks.ImportMarks.note_command.Goals as goal

pub returns-in-Importing-clause-marks : goal.returns-in-Importing-clause-marks
returns-in-Importing-clause-marks c = import_noted c.args.self.now c.begin.new.self c.args.place c.args.node c.in-Importing.slot c.requires c.begin.ensures.inside c.in-Importing.field-1 c.args.command.now c.in-Importing.is c.begin.ensures.row

pub returns-in-SetNode-clause-marks : goal.returns-in-SetNode-clause-marks
returns-in-SetNode-clause-marks c = owner_noted c.args.self.now c.end.new.self c.args.place c.args.node c.in-SetNode.slot c.requires c.end.ensures.inside c.in-SetNode.owner c.args.command.now c.in-SetNode.is (search rules) c.end.ensures.row

pub returns-in-Stable-clause-marks : goal.returns-in-Stable-clause-marks
returns-in-Stable-clause-marks c = stable_noted c.args.self.now c.end-in-Stable.new.self c.args.place c.args.node c.in-Stable.slot c.requires c.end-in-Stable.ensures.inside c.args.command.now c.in-Stable.is c.end-in-Stable.ensures.row
