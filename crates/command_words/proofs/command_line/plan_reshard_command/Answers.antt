use Rattle.std.proofs.Common.{rules, ◌≡◌, ◌∙◌, ◌∷◌, [], All, ap, ap₂, codes, false, fold, map, refl, subst, sym}
use Rattle.std.proofs.lemmas.Result.{IfOk-weaker}
use Rattle.clap.specs.Words.{App, app_of, new_app, rule_of, with_rule}
use Rattle.command_words.proofs.Each.{each}
use Rattle.command_words.specs.Clusters.{cluster_option}
use Rattle.command_words.specs.Options.{nodes_option}
use Rattle.command_words.specs.Starts.{survey_option}
use Rattle.command_words.specs.CommandLine.{plan_reshard}
use Rattle.command_words.proofs.command_line.plan_reshard_command.Goals as goal

pub with_options-requires-clause-own : goal.with_options-requires-clause-own
with_options-requires-clause-own c =
    subst (All (λ option. option.global ≡ false)) (sym c.in_ok-options.ensures.items)
    (each (λ option. option.global ≡ false)
    (c.nodes_option.result
    ∷ c.even_option.result
    ∷ c.cluster_option.result
    ∷ c.expect_option.result
    ∷ c.survey_option.result
    ∷ c.from_option.result
    ∷ c.to_option.result
    ∷ c.slots_option.result
    ∷ c.batch_option.result ∷ []) (
      c.nodes_option.ensures.local,
      (
        c.even_option.ensures.local,
        (
          c.cluster_option.ensures.local,
          (
            c.expect_option.ensures.local,
            (
              c.survey_option.ensures.local,
              (
                c.from_option.ensures.local,
                (
                  c.to_option.ensures.local,
                  (
                    c.slots_option.ensures.local,
                    (c.batch_option.ensures.local, tt),
                  ),
                ),
              ),
            ),
          ),
        ),
      ),
    ))

pub returns-clause-shape : goal.returns-clause-shape
returns-clause-shape c =
    let start_is : app_of c.after_help-command.result ≡ new_app (codes "plan-reshard") = search rules in
    let rules_are : map rule_of c.in_ok-options.options.items ≡ (plan_reshard c.args.kind).rules =
    ap (map rule_of) c.in_ok-options.ensures.items
    ∙ ap₂ ◌∷◌ (c.nodes_option.ensures.rule ∙ ap nodes_option c.is_even.ensures)
    (ap₂ ◌∷◌ c.even_option.ensures.rule
    (ap₂ ◌∷◌ (c.cluster_option.ensures.rule ∙ ap cluster_option c.is_cluster.ensures)
    (ap₂ ◌∷◌ c.expect_option.ensures.rule
    (ap₂ ◌∷◌ (c.survey_option.ensures.rule ∙ ap survey_option c.is_survey.ensures)
    (ap₂ ◌∷◌ c.from_option.ensures.rule
    (ap₂ ◌∷◌ c.to_option.ensures.rule
    (ap₂ ◌∷◌ c.slots_option.ensures.rule
    (ap₂ ◌∷◌ c.batch_option.ensures.rule refl)))))))) in
    IfOk-weaker c.with_options.result _ _ (λ command is. ap (λ (a : App). a.top)
    (is ∙ ap₂ (fold with_rule) start_is rules_are)) c.with_options.ensures.app
