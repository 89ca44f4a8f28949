use Rattle.std.proofs.Common.{rules, ◌≡◌, ◌∙◌, ◌≤◌, ◌+◌, ap, sym, subst}
use Rattle.server_settling.specs.Asking.{Sends}
use Rattle.server_settling.specs.Opened.{Writes, opened_with}
use Rattle.server_settling.specs.declared.opened.Opened.{Opened}
use Rattle.server_settling.proofs.AllSlots.{settles_more, settles_none, slots_more, told_more}
use Rattle.server_settling.proofs.opened.settle_all.Goals as goal

pub loop-number-init : goal.loop-number-init
loop-number-init g c = (
  settles_none (Sends (record { gave = g.I.ByteIn.gave; took = g.O.ByteOut.took })) (Writes g.E.ByteOut.took g.E.ByteOut.failures) c.args.setup.now c.args.survey.now
      c.args.links.now.items c.args.errors.now,
  search rules,
  search rules,
  search rules,
)

pub loop-number-preserved : goal.loop-number-preserved
loop-number-preserved g c = (
  settles_more (Sends (record { gave = g.I.ByteIn.gave; took = g.O.ByteOut.took })) (Writes g.E.ByteOut.took g.E.ByteOut.failures) c.args.setup.now c.args.survey.now
      c.loop-number.number c.of.result c.args.links.now.items c.args.errors.now c.loop-number.opened c.loop-number.links.items c.loop-number.errors
      c.in-Ok.phase c.with-opened.result c.settle_slot.new.links.items c.settle_slot.new.errors c.of.ensures c.loop-number.invariant.0
      c.in-Ok.ensures.treats.0 c.in-Ok.ensures.treats.1 c.with-opened.ensures,
  subst (λ (o : Opened). o.slots ≤ c.loop-number.number + 1) (sym c.with-opened.ensures)
      (slots_more c.in-Ok.phase c.loop-number.opened c.loop-number.number c.loop-number.invariant.1),
  subst (λ (o : Opened). o.told ≤ c.loop-number.number + 1) (sym c.with-opened.ensures)
      (told_more c.in-Ok.phase c.loop-number.opened c.loop-number.number c.loop-number.invariant.2),
  c.in-Ok.ensures.count ∙ c.loop-number.invariant.3,
)
