use Rattle.std.proofs.Common.{◌∙◌}
use Rattle.clap.specs.Words.{found_of, rows_of}
use Rattle.clap.proofs.WalkLemmas.{one_text-rows}
use Rattle.command_words.proofs.Options.{flag_read}
use Rattle.command_words.proofs.arguments.flag_in.Goals as goal

pub returns : goal.returns
returns c =
    let same = one_text-rows (found_of c.args.given.now) c.args.flag.now in
    flag_read (rows_of (found_of c.args.given.now)) c.args.flag.now c.get_flag.result
    (λ e. c.get_flag.ensures.none (same ∙ e)) (λ e. c.get_flag.ensures.value (same
    ∙ e)) (λ e. c.get_flag.ensures.other (same ∙ e)) c.requires
