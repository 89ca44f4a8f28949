use Rattle.std.proofs.Common.{◌∙◌, ap}
use Rattle.std.specs.Prelude.{is_some}
use Rattle.clap.specs.Words.{found_of}
use Rattle.clap.proofs.WalkLemmas.{first_value-rows}
use Rattle.command_words.proofs.Options.{is_there}
use Rattle.command_words.proofs.arguments.has_text.Goals as goal

pub returns : goal.returns
returns c =
    c.is_some.ensures ∙ is_there c.get_str.result
    ∙ (ap is_some c.get_str.ensures ∙ ap is_some (first_value-rows (found_of c.args.given.now) c.args.option.now))
