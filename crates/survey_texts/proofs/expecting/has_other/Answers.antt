use Rattle.std.proofs.Common.{ap, sym, ◌∙◌}
use Rattle.byte_texts.specs.Words.{is}
use Rattle.server_commands.specs.declared.book.Server.{Server}
use Rattle.survey_texts.proofs.Others.{both_differ, server_alone, without_server}
use Rattle.survey_texts.proofs.expecting.has_other.Goals as goal

pub returns-then-place-servers : goal.returns-then-place-servers
returns-then-place-servers c n = without_server n c.args.place c.args.ids.now c.args.servers.now c.if-place-servers.true

pub returns-then-place-ids : goal.returns-then-place-ids
returns-then-place-ids c n =
    server_alone n c.args.place c.args.ids.now c.args.servers.now c.if-place-servers.false c.if-place-ids.true

pub returns : goal.returns
returns c n =
    both_differ n c.args.place c.args.ids.now c.args.servers.now c.index-ids-place.result c.index-servers-place.result
    c.is.result c.if-place-servers.false c.if-place-ids.false c.index-servers-place.is c.index-ids-place.is
    (c.is.ensures
    ∙ ap (λ t. is t c.get.result.now)
    (c.get-2.ensures.value ∙ ap (λ (s : Server). s.name) (sym c.index-servers-place.is))
    ∙ ap (is c.index-servers-place.result.name) c.get.ensures.value)
