use Rattle.std.proofs.Common.{rules, ◌≡◌, ◌∙◌, ap, Some}
use Rattle.clap.specs.declared.builder.value_parser.ValueParser.{ValueParser}
use Rattle.command_words.proofs.arguments.parsed_option.Goals as goal

pub returns-clause-rule : goal.returns-clause-rule
returns-clause-rule c =
    let given = c.value_parser.ensures.given in
    let is : c.value_parser.result.value_parser ≡ Some c.args.parser = given.1
    ∙ ap (λ (q : ValueParser). Some q) given.2 in
    search rules
