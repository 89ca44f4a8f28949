use Rattle.std.proofs.Common.{◌≡◌, ◌≤◌, ◌∙◌, length, option_map, refl, sym, ap, subst}
use Rattle.client_commands.specs.Rows.{row}
use Rattle.client_commands.specs.Table.{rows, text_or_none}
use Rattle.client_commands.proofs.Names.{text_short}
use Rattle.client_commands.proofs.Tables.{text_in_table}
use Rattle.client_commands.proofs.name.CommandName.text.Goals as goal

pub returns-in-Some-clause-value : goal.returns-in-Some-clause-value
unfolding rows
returns-in-Some-clause-value c =
    sym (ap (λ o. text_or_none (option_map (λ r. row r.now) o)) c.in-Some.is)
    ∙ text_in_table c.args.self _ c.first_of.result refl c.first_of.ensures

pub returns-in-Some-clause-short : goal.returns-in-Some-clause-short
unfolding rows
returns-in-Some-clause-short c =
    subst (λ t. length t ≤ 1024)
    (sym (text_in_table c.args.self _ c.first_of.result refl c.first_of.ensures)
    ∙ ap (λ o. text_or_none (option_map (λ r. row r.now) o)) c.in-Some.is)
    (text_short c.args.self)

pub returns-in-None-clause-value : goal.returns-in-None-clause-value
unfolding rows
returns-in-None-clause-value c =
    sym (ap (λ o. text_or_none (option_map (λ r. row r.now) o)) c.in-None.is)
    ∙ text_in_table c.args.self _ c.first_of.result refl c.first_of.ensures
