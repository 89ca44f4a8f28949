use Rattle.std.proofs.Common.{rules, ◌≡◌, ◌∷◌, [], codes, map}
use Rattle.std.proofs.lemmas.Result.{IfOk-weaker}
use Rattle.clap.specs.Words.{HasKind, app_of}
use Rattle.command_words.specs.CommandLine.{start_kind, reshard, texts}
use Rattle.command_words.proofs.CommandLines.{apply_options, asked, command_asked, command_rehearses, drain_options}
use Rattle.command_words.proofs.CommandLines.{draw_options, forget_options}
use Rattle.command_words.proofs.CommandLines.{err_gives_nothing, explain_options, found, memory_alone, met}
use Rattle.command_words.proofs.CommandLines.{rebalance_options, rehearsal_is_taken, reshard_options, resume_options}
use Rattle.command_words.proofs.CommandLines.{serve_options, survey_options, verify_options}
use Rattle.command_words.proofs.command_line.parse.Goals as goal

pub command_of-usage-requires-clause-verified : goal.command_of-usage-requires-clause-verified
command_of-usage-requires-clause-verified c = λ rows named.
    let command_is : app_of c.in_ok-command.field-0 ≡ reshard (start_kind (texts c.args.words.now)) = search rules in
    let words_are : map (λ word. word.now) c.as_slice.result.now ≡ codes "reshard" ∷ texts c.args.words.now =
    search rules in
    verify_options _ _ (met _ _ _ c.in-Ok.matches command_is words_are c.in-Ok.ensures.matches) rows
    (found (λ kinds. kinds ≡ []) _ _ _ command_is words_are c.in-Ok.ensures.kinds) named

pub command_of-usage-requires-clause-resharded : goal.command_of-usage-requires-clause-resharded
command_of-usage-requires-clause-resharded c = λ rows named.
    let command_is : app_of c.in_ok-command.field-0 ≡ reshard (start_kind (texts c.args.words.now)) = search rules in
    let words_are : map (λ word. word.now) c.as_slice.result.now ≡ codes "reshard" ∷ texts c.args.words.now =
    search rules in
    reshard_options _ _ (met _ _ _ c.in-Ok.matches command_is words_are c.in-Ok.ensures.matches) rows
    (found (λ kinds. kinds ≡ []) _ _ _ command_is words_are c.in-Ok.ensures.kinds) named

pub command_of-usage-requires-clause-rebalanced : goal.command_of-usage-requires-clause-rebalanced
command_of-usage-requires-clause-rebalanced c = λ rows named.
    let command_is : app_of c.in_ok-command.field-0 ≡ reshard (start_kind (texts c.args.words.now)) = search rules in
    let words_are : map (λ word. word.now) c.as_slice.result.now ≡ codes "reshard" ∷ texts c.args.words.now =
    search rules in
    rebalance_options _ _ (met _ _ _ c.in-Ok.matches command_is words_are c.in-Ok.ensures.matches) rows
    (found (λ kinds. kinds ≡ []) _ _ _ command_is words_are c.in-Ok.ensures.kinds) named

pub command_of-usage-requires-clause-served : goal.command_of-usage-requires-clause-served
command_of-usage-requires-clause-served c = λ rows named.
    let command_is : app_of c.in_ok-command.field-0 ≡ reshard (start_kind (texts c.args.words.now)) = search rules in
    let words_are : map (λ word. word.now) c.as_slice.result.now ≡ codes "reshard" ∷ texts c.args.words.now =
    search rules in
    serve_options _ _ (met _ _ _ c.in-Ok.matches command_is words_are c.in-Ok.ensures.matches) rows
    (found (λ kinds. kinds ≡ []) _ _ _ command_is words_are c.in-Ok.ensures.kinds) named

pub command_of-usage-requires-clause-surveyed : goal.command_of-usage-requires-clause-surveyed
command_of-usage-requires-clause-surveyed c = λ rows named.
    let command_is : app_of c.in_ok-command.field-0 ≡ reshard (start_kind (texts c.args.words.now)) = search rules in
    let words_are : map (λ word. word.now) c.as_slice.result.now ≡ codes "reshard" ∷ texts c.args.words.now =
    search rules in
    survey_options _ _ (met _ _ _ c.in-Ok.matches command_is words_are c.in-Ok.ensures.matches) rows
    (found (λ kinds. kinds ≡ []) _ _ _ command_is words_are c.in-Ok.ensures.kinds) named

pub command_of-usage-requires-clause-applied : goal.command_of-usage-requires-clause-applied
command_of-usage-requires-clause-applied c = λ rows named.
    let command_is : app_of c.in_ok-command.field-0 ≡ reshard (start_kind (texts c.args.words.now)) = search rules in
    let words_are : map (λ word. word.now) c.as_slice.result.now ≡ codes "reshard" ∷ texts c.args.words.now =
    search rules in
    apply_options _ _ (met _ _ _ c.in-Ok.matches command_is words_are c.in-Ok.ensures.matches) rows
    (found (λ kinds. kinds ≡ []) _ _ _ command_is words_are c.in-Ok.ensures.kinds) named

pub command_of-usage-requires-clause-resumed : goal.command_of-usage-requires-clause-resumed
command_of-usage-requires-clause-resumed c = λ rows named.
    let command_is : app_of c.in_ok-command.field-0 ≡ reshard (start_kind (texts c.args.words.now)) = search rules in
    let words_are : map (λ word. word.now) c.as_slice.result.now ≡ codes "reshard" ∷ texts c.args.words.now =
    search rules in
    resume_options _ _ (met _ _ _ c.in-Ok.matches command_is words_are c.in-Ok.ensures.matches) rows
    (found (λ kinds. kinds ≡ []) _ _ _ command_is words_are c.in-Ok.ensures.kinds) named

pub command_of-usage-requires-clause-explained : goal.command_of-usage-requires-clause-explained
command_of-usage-requires-clause-explained c = λ rows named.
    let command_is : app_of c.in_ok-command.field-0 ≡ reshard (start_kind (texts c.args.words.now)) = search rules in
    let words_are : map (λ word. word.now) c.as_slice.result.now ≡ codes "reshard" ∷ texts c.args.words.now =
    search rules in
    explain_options _ _ (met _ _ _ c.in-Ok.matches command_is words_are c.in-Ok.ensures.matches) rows
    (found (λ kinds. kinds ≡ []) _ _ _ command_is words_are c.in-Ok.ensures.kinds) named

pub command_of-usage-requires-clause-drawn : goal.command_of-usage-requires-clause-drawn
command_of-usage-requires-clause-drawn c = λ rows named.
    let command_is : app_of c.in_ok-command.field-0 ≡ reshard (start_kind (texts c.args.words.now)) = search rules in
    let words_are : map (λ word. word.now) c.as_slice.result.now ≡ codes "reshard" ∷ texts c.args.words.now =
    search rules in
    draw_options _ _ (met _ _ _ c.in-Ok.matches command_is words_are c.in-Ok.ensures.matches) rows
    (found (λ kinds. kinds ≡ []) _ _ _ command_is words_are c.in-Ok.ensures.kinds) named

pub command_of-usage-requires-clause-drained : goal.command_of-usage-requires-clause-drained
command_of-usage-requires-clause-drained c = λ rows named.
    let command_is : app_of c.in_ok-command.field-0 ≡ reshard (start_kind (texts c.args.words.now)) = search rules in
    let words_are : map (λ word. word.now) c.as_slice.result.now ≡ codes "reshard" ∷ texts c.args.words.now =
    search rules in
    drain_options _ _ (met _ _ _ c.in-Ok.matches command_is words_are c.in-Ok.ensures.matches) rows
    (found (λ kinds. kinds ≡ []) _ _ _ command_is words_are c.in-Ok.ensures.kinds) named

pub command_of-usage-requires-clause-forgotten : goal.command_of-usage-requires-clause-forgotten
command_of-usage-requires-clause-forgotten c = λ rows named.
    let command_is : app_of c.in_ok-command.field-0 ≡ reshard (start_kind (texts c.args.words.now)) = search rules in
    let words_are : map (λ word. word.now) c.as_slice.result.now ≡ codes "reshard" ∷ texts c.args.words.now =
    search rules in
    forget_options _ _ (met _ _ _ c.in-Ok.matches command_is words_are c.in-Ok.ensures.matches) rows
    (found (λ kinds. kinds ≡ []) _ _ _ command_is words_are c.in-Ok.ensures.kinds) named

pub returns-in-Ok-clause-asked : goal.returns-in-Ok-clause-asked
returns-in-Ok-clause-asked c =
    let command_is : app_of c.in_ok-command.field-0 ≡ reshard (start_kind (texts c.args.words.now)) = search rules in
    let words_are : map (λ word. word.now) c.as_slice.result.now ≡ codes "reshard" ∷ texts c.args.words.now =
    search rules in
    IfOk-weaker c.command_of-usage.result _ _ (λ usage command. command_asked _ _
    (met _ _ _ c.in-Ok.matches command_is words_are c.in-Ok.ensures.matches) usage
    (found (λ kinds. kinds ≡ []) _ _ _ command_is words_are c.in-Ok.ensures.kinds) command) c.command_of-usage.ensures.command

pub returns-in-Ok-clause-rehearses : goal.returns-in-Ok-clause-rehearses
returns-in-Ok-clause-rehearses c = λ rehearsal.
    let command_is : app_of c.in_ok-command.field-0 ≡ reshard (start_kind (texts c.args.words.now)) = search rules in
    let words_are : map (λ word. word.now) c.as_slice.result.now ≡ codes "reshard" ∷ texts c.args.words.now =
    search rules in
    IfOk-weaker c.command_of-usage.result _ _ (λ usage command. command_rehearses _ _
    (met _ _ _ c.in-Ok.matches command_is words_are c.in-Ok.ensures.matches) usage command rehearsal) c.command_of-usage.ensures.command

pub returns-clause-asked : goal.returns-clause-asked
returns-clause-asked c =
    let command_is : app_of c.in_ok-command.field-0 ≡ reshard (start_kind (texts c.args.words.now)) = search rules in
    let words_are : map (λ word. word.now) c.as_slice.result.now ≡ codes "reshard" ∷ texts c.args.words.now =
    search rules in
    let among = found (λ kinds. HasKind kinds c.in-Err.error) _ _ _ command_is words_are c.in-Err.ensures.kinds in
    IfOk-weaker c.usage_of-usage.result _ _ (λ usage reported. asked _ _ usage among reported) c.usage_of-usage.ensures.reported

pub returns-clause-rehearses : goal.returns-clause-rehearses
returns-clause-rehearses c = λ rehearsal.
    let command_is : app_of c.in_ok-command.field-0 ≡ reshard (start_kind (texts c.args.words.now)) = search rules in
    let words_are : map (λ word. word.now) c.as_slice.result.now ≡ codes "reshard" ∷ texts c.args.words.now =
    search rules in
    let among = found (λ kinds. HasKind kinds c.in-Err.error) _ _ _ command_is words_are c.in-Err.ensures.kinds in
    err_gives_nothing c.usage_of-usage.result _ (c.usage_of-usage.ensures.memory (memory_alone _ c.in-Err.error among (rehearsal_is_taken _ rehearsal)))
