use Rattle.std.proofs.Common.{refl, Ok, Err}
use Rattle.cluster_admin.specs.declared.port_fault.PortFault.TheVariants.{Memory}
use Rattle.node_session.specs.Talk.{Sent, Looked, Unsent}
use Rattle.node_session.proofs.answering.answer.Goals as goal

pub returns-in-Ok-Here-clause-answers : goal.returns-in-Ok-Here-clause-answers
returns-in-Ok-Here-clause-answers g c =
    let asks = rw c.in-Ok-Here.field-0-is at c.in-Ok-Here.ensures.asks in
    (Unsent c.args.request (Ok c.in-Ok-Here.reply), refl, refl, asks, refl)

pub returns-in-Ok-Slots-clause-answers : goal.returns-in-Ok-Slots-clause-answers
returns-in-Ok-Slots-clause-answers g c =
    let asks = rw c.in-Ok-Slots.field-0-is at c.in-Ok-Slots.ensures.asks in
    (Looked c.args.request c.look.result, refl, refl, asks, (c.look.new.self, c.look.ensures.sends, refl))

pub returns-in-Ok-Stored-clause-answers : goal.returns-in-Ok-Stored-clause-answers
returns-in-Ok-Stored-clause-answers g c =
    let asks = rw c.in-Ok-Stored.field-0-is at c.in-Ok-Stored.ensures.asks in (
      Sent c.args.request c.in-Ok-Stored.command c.send_owned.result,
      refl,
      refl,
      asks,
      (c.send_owned.new.self, c.send_owned.ensures.sends, refl),
    )

pub returns-in-Err-clause-answers : goal.returns-in-Err-clause-answers
returns-in-Err-clause-answers g c = (Unsent c.args.request (Err Memory), refl, refl, c.in-Err.ensures.memory, refl)
