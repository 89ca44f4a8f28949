use Rattle.std.proofs.Common.{◌≡◌, ◌-◌, List, ℕ, length, sym, subst, arith}
use Rattle.std.specs.Prelude.{OnOk}
use Rattle.rehearsal.specs.LastCalls.{event_text, last_text}
use Rattle.transcripts.specs.OutcomeTexts.{Prints}
use Rattle.rehearsal.proofs.LastCalls.{last_of}
use Rattle.rehearsal.proofs.last_call.print_last_call.Goals as goal

pub returns-in-len1-up : goal.returns-in-len1-up
returns-in-len1-up c =
    let events = c.args.events.now in
    let event = c.event-item.result in
    let last : last_text events ≡ event_text event =
    last_of events (length events - 1) event (omega (arith, c.in-len1-up.len_at_least)) c.event-item.is in
    subst
    (λ (t : List ℕ). OnOk c.print_event.result
    (Prints c.args.transcript.now c.print_event.new.transcript t c.args.transcript.now.status))
    (sym last)
    c.print_event.ensures
