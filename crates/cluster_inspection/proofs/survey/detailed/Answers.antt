use Rattle.std.proofs.Common.{length, subst, sym}
use Rattle.std.specs.Prelude.{vec_len}
use Rattle.survey_details.specs.Asking.{telling_of}
use Rattle.survey_details.specs.Masters.{AreMasterTexts}
use Rattle.cluster_inspection.proofs.Lines.{survey_said}
use Rattle.cluster_inspection.proofs.survey.detailed.Goals as goal

pub returns-in-Ok-clause-says : goal.returns-in-Ok-clause-says
returns-in-Ok-clause-says g c =
    let telling = telling_of (record { gave = g.I.ByteIn.gave; took = g.O.ByteOut.took }) in
    let book = c.args.book.now in
    let survey = c.args.surveyed.now.survey in
    survey_said c.counted.result telling c.args.details c.args.left_out.now book survey
    c.args.surveyed.now.epochs.items (vec_len c.args.links) c.as_slice.result.now c.requires
    (subst (AreMasterTexts (telling book) c.args.details book survey (length book)) (sym c.as_slice.ensures.value)
    c.in-Ok.ensures.told)
    c.counted.ensures.says
