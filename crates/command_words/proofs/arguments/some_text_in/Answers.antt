use Rattle.std.proofs.Common.{rules, ◌≡◌, Some, option_map, string_bytes}
use Rattle.clap.specs.Words.{found_of}
use Rattle.command_words.proofs.Options.{no_text_read, text_read}
use Rattle.command_words.proofs.arguments.some_text_in.Goals as goal

pub returns-in_ok-from_str-in-Some : goal.returns-in_ok-from_str-in-Some
returns-in_ok-from_str-in-Some c =
    let is : option_map (λ s. s.now) c.get_str.result ≡ Some (string_bytes c.in_ok-from_str-in-Some.field-0) =
    search rules in
    text_read (found_of c.args.given.now) c.args.option.now c.get_str.result (string_bytes c.in_ok-from_str-in-Some.field-0) c.get_str.ensures is

pub returns-in-None : goal.returns-in-None
returns-in-None c = no_text_read (found_of c.args.given.now) c.args.option.now c.get_str.result c.get_str.ensures
    c.in-None.is
