use Rattle.std.proofs.Common.{◌∙◌, codes, arith}
use Rattle.std.specs.Str.Parse.{ParsesUnsigned, ExplainsUnsignedError, HasUnsignedDigitsIfOk}
use Rattle.clap.specs.Words.{found_of, rows_of}
use Rattle.clap.proofs.WalkLemmas.{one_text-rows}
use Rattle.command_words.proofs.Options.{number_read}
use Rattle.command_words.proofs.serving.workers_given.Goals as goal

pub returns-clause-number : goal.returns-clause-number
returns-clause-number c =
    let same = one_text-rows (found_of c.args.given.now) (codes "workers") in
    (number_read _ (λ bs r. ParsesUnsigned 8 10 bs r × ExplainsUnsignedError 10 bs r
    × HasUnsignedDigitsIfOk bs r) 8 1 32 (rows_of (found_of c.args.given.now)) (codes "workers") c.get_one.result
    (λ none. c.get_one.ensures.none (same ∙ none)) (λ t some. c.get_one.ensures.value t (same
    ∙ some)) (λ u x g. g.0) (omega arith) c.requires).0

pub returns-clause-range : goal.returns-clause-range
returns-clause-range c =
    let same = one_text-rows (found_of c.args.given.now) (codes "workers") in
    (number_read _ (λ bs r. ParsesUnsigned 8 10 bs r × ExplainsUnsignedError 10 bs r
    × HasUnsignedDigitsIfOk bs r) 8 1 32 (rows_of (found_of c.args.given.now)) (codes "workers") c.get_one.result
    (λ none. c.get_one.ensures.none (same ∙ none)) (λ t some. c.get_one.ensures.value t (same
    ∙ some)) (λ u x g. g.0) (omega arith) c.requires).1
