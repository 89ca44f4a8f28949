use Rattle.std.proofs.Common.{ap, ◌∙◌, ◌++◌}
use Rattle.redis_servers.proofs.Useless.{unheard}
use Rattle.redis_servers.proofs.hearing.unheard_words.Goals as goal

pub returns : goal.returns
returns c =
    c.from_vec.ensures
    ∙ unheard c.args.source c.args.target c.in_ok-words.words.items c.extend_from_slice.new.self.items
    c.extend_from_slice-2.new.self.items c.extend_from_slice-3.new.self.items c.in_ok-source.source.items
    c.in_ok-words.ensures.word c.in_ok-source.ensures.word c.in_ok-extend_from_slice.ensures.items
    (c.in_ok-extend_from_slice-2.ensures.items ∙ ap (λ w. c.extend_from_slice.new.self.items ++ w) c.as_slice.ensures.value)
    c.in_ok-extend_from_slice-3.ensures.items
