use Rattle.std.proofs.Common.{◌≡◌, ◌∙◌, ◌||◌, List, [], ◌∷◌, All, ap, ap₂, false, fold, map, sym}
use Rattle.std.proofs.lemmas.List.Elements.{All-head, All-tail}
use Rattle.std.proofs.lemmas.Result.{IfOk-weaker}
use Rattle.clap.specs.Words.{AddsArg, AddsInTurn, app_of, rule_of, with_rule}
use Rattle.clap.specs.declared.builder.arg.Arg.{Arg}
use Rattle.clap.specs.declared.builder.command.Command.{Command}
use Rattle.clap.specs.declared.builder.command.Command.TheViews.{out-Command as fields_of}
use Rattle.command_words.proofs.command_line.with_options.Goals as goal

-- each option that is added gives its rule, in turn
gives_rules : (old new : Command) (options : List Arg) → All (λ option. option.global ≡ false) options
    → AddsInTurn AddsArg old options new → app_of new ≡ fold with_rule (app_of old) (map rule_of options)
gives_rules old new [] own added = ap app_of (sym added)
gives_rules old new (option ∷ rest) own added =
    gives_rules added.0 new rest (All-tail (λ o. o.global ≡ false) option rest own) added.2
    ∙ ap (λ a. fold with_rule a (map rule_of rest)) (added.1.shape (All-head (λ o. o.global ≡ false) option rest own))

-- and none is global
stays_local : (old new : Command) (options : List Arg) → (fields_of old).has_globals ≡ false
    → All (λ option. option.global ≡ false) options → AddsInTurn AddsArg old options new
    → (fields_of new).has_globals ≡ false
stays_local old new [] local own added = ap (λ c. (fields_of c).has_globals) (sym added) ∙ local
stays_local old new (option ∷ rest) local own added =
    stays_local added.0 new rest
    (added.1.globals ∙ ap₂ ◌||◌ local (All-head (λ o. o.global ≡ false) option rest own))
    (All-tail (λ o. o.global ≡ false) option rest own) added.2

pub returns-clause-app : goal.returns-clause-app
returns-clause-app c =
    IfOk-weaker c.args-2.result _ _ (λ more added. gives_rules _ more _ c.requires.own added) c.args-2.ensures

pub returns-clause-local : goal.returns-clause-local
returns-clause-local c =
    IfOk-weaker c.args-2.result _ _ (λ more added. stays_local _ more _ c.requires.local c.requires.own added) c.args-2.ensures
