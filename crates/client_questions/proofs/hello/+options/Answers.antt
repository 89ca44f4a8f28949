use Rattle.std.proofs.Common.{◌≡◌, ◌∷◌, subst}
use Rattle.std.specs.Prelude.{IfOk}
use Rattle.client_questions.specs.Hello.{options_end}
use Rattle.client_questions.specs.OptionsSeen.{shown_end, shown_name}
use Rattle.client_questions.proofs.OptionWords.{two_first}
use Rattle.client_questions.proofs.hello.+options.Goals as goal

pub option_end-returns-in-len2-up : goal.option_end-returns-in-len2-up
option_end-returns-in-len2-up t c =
    subst
    (λ ws. IfOk c.long_end.result (λ e. shown_end e ≡ options_end (shown_name c.args.name) (c.args.option.now ∷ ws)))
    (two_first c.args.further.now c.value-item-2.result c.next-item.result c.in-len2-up.len_at_least c.value-item-2.is
    c.next-item.is)
    c.long_end.ensures
