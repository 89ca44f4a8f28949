use Rattle.std.proofs.Common.{rules, ◌≡◌, ◌∙◌, ◌∷◌, ap, ap₂, codes, fold, map, refl}
use Rattle.std.proofs.lemmas.Result.{IfOk-weaker}
use Rattle.clap.specs.Words.{App, app_of, new_app, rule_of, with_rule}
use Rattle.command_words.specs.Clusters.{cluster_option}
use Rattle.command_words.specs.Options.{nodes_option}
use Rattle.command_words.specs.Starts.{survey_option}
use Rattle.command_words.specs.CommandLine.{verify}
use Rattle.command_words.proofs.command_line.verify_command.Goals as goal

pub returns-clause-shape : goal.returns-clause-shape
returns-clause-shape c =
    let start_is : app_of c.after_help-command.result ≡ new_app (codes "verify") = search rules in
    let rules_are : map rule_of c.in_ok-options.options.items ≡ (verify c.args.kind).rules =
    ap (map rule_of) c.in_ok-options.ensures.items
    ∙ ap₂ ◌∷◌ (c.nodes_option.ensures.rule ∙ ap nodes_option c.is_even.ensures)
    (ap₂ ◌∷◌ c.even_option.ensures.rule
    (ap₂ ◌∷◌ (c.cluster_option.ensures.rule ∙ ap cluster_option c.is_cluster.ensures)
    (ap₂ ◌∷◌ c.expect_option.ensures.rule
    (ap₂ ◌∷◌ (c.survey_option.ensures.rule ∙ ap survey_option c.is_survey.ensures) refl)))) in
    IfOk-weaker c.with_options.result _ _ (λ command is. ap (λ (a : App). a.top)
    (is ∙ ap₂ (fold with_rule) start_is rules_are)) c.with_options.ensures.app
