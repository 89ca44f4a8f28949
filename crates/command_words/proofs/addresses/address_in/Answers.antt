use Rattle.std.proofs.Common.{◌∙◌, sym}
use Rattle.command_words.proofs.Addressing.{no_port, not_written}
use Rattle.command_words.proofs.addresses.address_in.Goals as goal

pub returns-in_default : goal.returns-in_default
returns-in_default c = not_written c.args.word.now _ _ c.in_default.is c.parse_ascii.ensures

pub returns-then-port-eq0 : goal.returns-then-port-eq0
returns-then-port-eq0 c = no_port c.args.word.now c.in-Ok.address c.in-Ok.ensures
    (sym c.port.ensures ∙ c.if-port-eq0.true)
