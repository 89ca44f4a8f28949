use Rattle.std.proofs.Common.{rules, ◌≡◌, ◌∙◌, OnOk, ap, sym, refl, Some, None}
use Rattle.server_runs.specs.Outcomes.{reason, stop_text}
use Rattle.server_commands.specs.Shown.{shown}
use Rattle.server_runs.proofs.Ended.{prints_stop}
use Rattle.server_runs.proofs.applying.report_stop.Goals as goal

pub returns-in-Some : goal.returns-in-Some
returns-in-Some g c =
    prints_stop c.report_stopped_by.result c.args.transcript.now c.report_stopped_by.new.self (g.P.Speaks.said c.args.port.now)
    c.args.commands c.stop_number-number.result c.shown.result.now c.args.cause c.in_default.not-Abandoned c.stop_number-number.ensures
    (c.shown.ensures ∙ ap shown c.get.ensures.value ∙ ap (λ o. reason o c.args.cause) c.in-Some.ensures) c.report_stopped_by.ensures

pub returns-in-None : goal.returns-in-None
returns-in-None g c =
    prints_stop c.report_stopped_by-in-None.result c.args.transcript.now c.report_stopped_by-in-None.new.self (g.P.Speaks.said c.args.port.now)
    c.args.commands c.stop_number-number.result c.as_bytes.result.now c.args.cause c.in_default.not-Abandoned c.stop_number-number.ensures
    (c.as_bytes.ensures.value ∙ ap (λ (t : _). t) c.stop_reason.ensures ∙ ap (λ o. reason o c.args.cause) c.in-None.ensures) c.report_stopped_by-in-None.ensures
