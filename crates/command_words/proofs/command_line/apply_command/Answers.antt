use Rattle.std.proofs.Common.{rules, ◌≡◌, ◌∙◌, ◌∷◌, [], All, ap, ap₂, codes, false, fold, map, refl, subst, sym}
use Rattle.std.proofs.lemmas.Result.{IfOk-weaker}
use Rattle.clap.specs.Words.{App, app_of, new_app, rule_of, with_rule}
use Rattle.command_words.proofs.Each.{each}
use Rattle.command_words.specs.CommandLine.{apply}
use Rattle.command_words.proofs.command_line.apply_command.Goals as goal

pub with_options-requires-clause-own : goal.with_options-requires-clause-own
with_options-requires-clause-own c =
    subst (All (λ option. option.global ≡ false)) (sym c.in_ok-options.ensures.items)
    (each (λ option. option.global ≡ false)
    (c.cluster_option.result
    ∷ c.expect_option.result
    ∷ c.timeout_option.result
    ∷ c.keys_option.result
    ∷ c.log_option.result
    ∷ c.append_flag.result
    ∷ c.overwrite_flag.result
    ∷ c.stop_file_option.result
    ∷ c.wait_for_news_flag.result
    ∷ c.dead_for_good_option.result
    ∷ c.plan_option.result ∷ []) (
      c.cluster_option.ensures.local,
      (
        c.expect_option.ensures.local,
        (
          c.timeout_option.ensures.local,
          (
            c.keys_option.ensures.local,
            (
              c.log_option.ensures.local,
              (
                c.append_flag.ensures.local,
                (
                  c.overwrite_flag.ensures.local,
                  (
                    c.stop_file_option.ensures.local,
                    (
                      c.wait_for_news_flag.ensures.local,
                      (
                        c.dead_for_good_option.ensures.local,
                        (c.plan_option.ensures.local, tt),
                      ),
                    ),
                  ),
                ),
              ),
            ),
          ),
        ),
      ),
    ))

pub returns-clause-shape : goal.returns-clause-shape
returns-clause-shape c =
    let start_is : app_of c.after_help-command.result ≡ new_app (codes "apply") = search rules in
    let rules_are : map rule_of c.in_ok-options.options.items ≡ apply.rules =
    ap (map rule_of) c.in_ok-options.ensures.items
    ∙ ap₂ ◌∷◌ c.cluster_option.ensures.rule
    (ap₂ ◌∷◌ c.expect_option.ensures.rule
    (ap₂ ◌∷◌ c.timeout_option.ensures.rule
    (ap₂ ◌∷◌ c.keys_option.ensures.rule
    (ap₂ ◌∷◌ c.log_option.ensures.rule
    (ap₂ ◌∷◌ c.append_flag.ensures.rule
    (ap₂ ◌∷◌ c.overwrite_flag.ensures.rule
    (ap₂ ◌∷◌ c.stop_file_option.ensures.rule
    (ap₂ ◌∷◌ c.wait_for_news_flag.ensures.rule
    (ap₂ ◌∷◌ c.dead_for_good_option.ensures.rule
    (ap₂ ◌∷◌ c.plan_option.ensures.rule refl)))))))))) in
    IfOk-weaker c.with_options.result _ _ (λ command is. ap (λ (a : App). a.top)
    (is ∙ ap₂ (fold with_rule) start_is rules_are)) c.with_options.ensures.app
