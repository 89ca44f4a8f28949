use Rattle.std.proofs.Common.{◌<◌, arith, codes}
use Rattle.clap.specs.Words.{found_of, rows_of}
use Rattle.command_words.specs.declared.faults.OptionFault.TheVariants.{Uneven}
use Rattle.command_words.proofs.CommandLines.{fault_asked, fault_lines}
use Rattle.command_words.proofs.command_line.service.Goals as goal

pub returns-else-sizes-clause-command : goal.returns-else-sizes-clause-command
returns-else-sizes-clause-command c =
    let less : c.serve_words-words.result.sizes.nodes < c.serve_words-words.result.sizes.owning = omega arith in
    fault_asked (codes "serve") (rows_of (found_of c.args.given.now)) (Uneven c.serve_words-words.result.sizes) c.wrong.result
    (c.serve_words-words.ensures.words.sizes, less) c.wrong.ensures

pub returns-else-sizes-clause-lines : goal.returns-else-sizes-clause-lines
returns-else-sizes-clause-lines c = fault_lines (Uneven c.serve_words-words.result.sizes) c.wrong.result c.wrong.ensures
