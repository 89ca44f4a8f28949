use Rattle.std.proofs.Common.{◌≡◌, ◌∙◌, Result, Ok, Err, IfOk, IsOkAnd, ap₂, codes}
use Rattle.std.proofs.lemmas.Result.{IfOk-weaker}
use Rattle.clap.specs.Words.{App, Shape, app_of, shape_of, with_subcommand}
use Rattle.clap.specs.Simple.{new_shape}
use Rattle.clap.specs.declared.builder.command.Command.{Command}
use Rattle.command_words.specs.CommandLine.{apply, draw, explain, forget, plan_drain, plan_rebalance, plan_reshard}
use Rattle.command_words.specs.CommandLine.{resume, serve, survey, top, verify}
use Rattle.command_words.proofs.command_line.command.Goals as goal

-- where a command was made, the program gains the shape that it is known to have
gained : {E : Type 0} (made : Result Command E) (s : Shape) (old new : Command) (a : App) → app_of old ≡ a
    → IfOk made (λ command. shape_of command ≡ s)
    → IsOkAnd made (λ command. app_of new ≡ with_subcommand (app_of old) (shape_of command))
    → app_of new ≡ with_subcommand a s
gained (Ok command) s old new a was is has = has ∙ ap₂ with_subcommand was is
gained (Err e) s old new a was is has = absurd has

pub returns : goal.returns
returns c =
    let rehearses : app_of c.in_ok-program.program ≡ with_subcommand top (new_shape (codes "rehearse")) =
    c.in_ok-program.ensures.shape c.rehearse_command.ensures.local
    ∙ ap₂ with_subcommand c.top_command.ensures c.rehearse_command.ensures.shape in
    let verifies = gained c.verify_command.result (verify c.args.kind) c.in_ok-program.program
    c.in_ok-program-2.program _
    rehearses c.verify_command.ensures.shape c.in_ok-program-2.ensures in
    let reshards = gained c.plan_reshard_command.result (plan_reshard c.args.kind) c.in_ok-program-2.program
    c.in_ok-program-3.program _
    verifies c.plan_reshard_command.ensures.shape c.in_ok-program-3.ensures in
    let rebalances = gained c.plan_rebalance_command.result (plan_rebalance c.args.kind) c.in_ok-program-3.program
    c.in_ok-program-4.program _
    reshards c.plan_rebalance_command.ensures.shape c.in_ok-program-4.ensures in
    let serves = gained c.serve_command.result serve c.in_ok-program-4.program c.in_ok-program-5.program _
    rebalances c.serve_command.ensures.shape c.in_ok-program-5.ensures in
    let surveys = gained c.survey_command.result survey c.in_ok-program-5.program c.in_ok-program-6.program _
    serves c.survey_command.ensures.shape c.in_ok-program-6.ensures in
    let applies = gained c.apply_command.result apply c.in_ok-program-6.program c.in_ok-program-7.program _
    surveys c.apply_command.ensures.shape c.in_ok-program-7.ensures in
    let resumes = gained c.resume_command.result resume c.in_ok-program-7.program c.in_ok-program-8.program _
    applies c.resume_command.ensures.shape c.in_ok-program-8.ensures in
    let explains = gained c.explain_command.result (explain c.args.kind) c.in_ok-program-8.program
    c.in_ok-program-9.program _
    resumes c.explain_command.ensures.shape c.in_ok-program-9.ensures in
    let draws = gained c.draw_command.result (draw c.args.kind) c.in_ok-program-9.program c.in_ok-program-10.program
    _
    explains c.draw_command.ensures.shape c.in_ok-program-10.ensures in
    let drains = gained c.plan_drain_command.result (plan_drain c.args.kind) c.in_ok-program-10.program
    c.in_ok-program-11.program _
    draws c.plan_drain_command.ensures.shape c.in_ok-program-11.ensures in
    IfOk-weaker c.with_command-11.result _ _ (λ command forgets. gained c.forget_command.result forget c.in_ok-program-11.program command _
    drains c.forget_command.ensures.shape forgets) c.with_command-11.ensures
