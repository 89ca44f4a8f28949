use Rattle.std.proofs.Common.{◌∙◌, Some, option_map, ap}
use Rattle.command_list.specs.Shown.{shown}
use Rattle.command_list.proofs.Rows.{named_client, named_question, short_found}
use Rattle.command_list.proofs.table.named.Goals as goal

pub returns-in-Some-clause-value : goal.returns-in-Some-clause-value
returns-in-Some-clause-value c =
    ap (λ e. Some e) c.of_command.ensures
    ∙ named_client c.args.word.now c.row_of.result c.in-Some.row c.row_of.ensures c.in-Some.is

pub returns-in-Some-clause-short : goal.returns-in-Some-clause-short
returns-in-Some-clause-short c =
    short_found c.args.word.now (Some c.of_command.result)
    (ap (λ e. Some e) c.of_command.ensures
    ∙ named_client c.args.word.now c.row_of.result c.in-Some.row c.row_of.ensures c.in-Some.is)

pub returns-in-None-clause-value : goal.returns-in-None-clause-value
returns-in-None-clause-value c =
    ap (option_map shown) c.copied.ensures
    ∙ named_question c.args.word.now c.row_of.result _ c.first_named.result c.row_of.ensures c.in-None.is
    c.questions.ensures c.first_named.ensures

pub returns-in-None-clause-short : goal.returns-in-None-clause-short
returns-in-None-clause-short c =
    short_found c.args.word.now c.copied.result
    (ap (option_map shown) c.copied.ensures
    ∙ named_question c.args.word.now c.row_of.result _ c.first_named.result c.row_of.ensures c.in-None.is
    c.questions.ensures c.first_named.ensures)
