use Rattle.std.proofs.Common.{codes, subst, sym, ◌∙◌}
use Rattle.clap.specs.Words.{found_of, rows_of}
use Rattle.command_words.specs.Starts.{HasStart}
use Rattle.command_words.specs.declared.faults.OptionFault.TheVariants.{NowAlone}
use Rattle.command_words.proofs.CommandLines.{fault_asked, fault_lines}
use Rattle.command_words.proofs.command_line.drawing_from.Goals as goal

pub returns-in-Even-clause-command : goal.returns-in-Even-clause-command
returns-in-Even-clause-command c =
    fault_asked (codes "draw") (rows_of (found_of c.args.given.now)) NowAlone c.wrong.result (
      (subst (HasStart (rows_of (found_of c.args.given.now))) c.in-Even.is c.requires.start).1,
      sym c.flag_in.ensures ∙ c.if-not-flag_in.false,
    ) c.wrong.ensures

pub returns-in-Even-clause-lines : goal.returns-in-Even-clause-lines
returns-in-Even-clause-lines c = fault_lines NowAlone c.wrong.result c.wrong.ensures

pub returns-clause-command : goal.returns-clause-command
returns-clause-command c =
    fault_asked (codes "draw") (rows_of (found_of c.args.given.now)) NowAlone c.wrong-in-Survey.result (
      (subst (HasStart (rows_of (found_of c.args.given.now))) c.in-Survey.is c.requires.start).1,
      sym c.flag_in.ensures ∙ c.if-not-flag_in.false,
    ) c.wrong-in-Survey.ensures

pub returns-clause-lines : goal.returns-clause-lines
returns-clause-lines c = fault_lines NowAlone c.wrong-in-Survey.result c.wrong-in-Survey.ensures
