use Rattle.cluster_inspection.proofs.FileRead.{no_survey_files, unread_file}
use Rattle.cluster_inspection.proofs.survey_file.owners_in_file.Goals as goal

pub returns-in-Ok-clause-none : goal.returns-in-Ok-clause-none
returns-in-Ok-clause-none g c =
    no_survey_files c.args.path.now c.args.names.now c.as_slice.result.now c.owners_in_text.result
    c.owners_in_text.ensures.none

pub returns-in_ok-unread-in-Err-clause-none : goal.returns-in_ok-unread-in-Err-clause-none
returns-in_ok-unread-in-Err-clause-none g c =
    unread_file c.args.path.now _ c.in_ok-unread-in-Err.field-0 c.in_ok-unread-in-Err.ensures
