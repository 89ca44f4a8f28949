use Rattle.std.proofs.Common.{inr, ◌∙◌}
use Rattle.survey_files.specs.Numbering.{numbered}
use Rattle.survey_files.specs.Reading.{told_by, told_in}
use Rattle.survey_files.proofs.Telling.{match_weaker, went_on}
use Rattle.survey_files.proofs.survey.survey_in.Goals as goal

pub returns : goal.returns
returns c =
    let told = told_by c.in_ok-reading.reading in
    let whole =
    went_on (told_in c.args.text.now) (told_by c.in_ok-reading_of.field-0) (numbered c.args.names.now)
    c.in_ok-reading_of.ensures
    ∙ c.in_ok-reading.ensures in
    match_weaker c.survey_of.result _ _ _ _ (λ s is. (told, whole, is.0, is.1)) (λ e is. inr (told, whole, is))
    c.survey_of.ensures
