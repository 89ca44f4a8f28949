use Rattle.std.proofs.Common.{rules, ◌≡◌, ◌∙◌, Some, ap, option_map, string_bytes, sym}
use Rattle.std.proofs.lemmas.Result.{IfOk-weaker}
use Rattle.clap.specs.Words.{found_of}
use Rattle.command_words.proofs.Options.{text_read, text_there}
use Rattle.command_words.proofs.arguments.text_in.Goals as goal

pub unreachable-requires : goal.unreachable-requires
unreachable-requires c = text_there (found_of c.args.given.now) c.args.option.now c.get_str.result c.get_str.ensures
    c.in_default.is c.requires.text c.requires.given

pub returns : goal.returns
returns c =
    let is : option_map (λ s. s.now) c.get_str.result ≡ Some c.in-Some.text.now = search rules in
    IfOk-weaker c.from_str.result _ _ (λ text same. text_read (found_of c.args.given.now) c.args.option.now c.get_str.result (string_bytes text) c.get_str.ensures (is ∙ ap (λ t. Some t) (sym same))) c.from_str.ensures.ok
