use Rattle.std.proofs.Common.{◌≡◌, ◌<◌, ◌∙◌, ℕ, ap, arith, length, refl, subst, sym}
use Rattle.std.specs.Prelude.{vec_len}
use Rattle.server_commands.specs.Servers.{server_at}
use Rattle.server_infos.specs.Asking.{AreToldBy, AsksFigures}
use Rattle.server_infos.proofs.Told.{more_told, told_none, told_to}
use Rattle.server_infos.proofs.asking.servers_of.Goals as goal

pub loop-number-init : goal.loop-number-init
loop-number-init g c =
    let asks = AsksFigures (record { gave = g.I.ByteIn.gave; took = g.O.ByteOut.took }) in
    (subst (AreToldBy asks c.args.book.now 0) (sym c.new-servers.ensures.items) (told_none asks c.args.book.now), c.requires)

pub loop-number-preserved : goal.loop-number-preserved
loop-number-preserved g c = (
  more_told (AsksFigures (record { gave = g.I.ByteIn.gave; took = g.O.ByteOut.took })) c.args.book.now c.loop-number.number
      c.of-node.result c.loop-number.servers.items c.put.new.servers.items _ c.in_ok-server.server c.of-node.ensures
      c.server.ensures c.in_ok-put.ensures.ok c.in_ok-server.ensures.told c.loop-number.invariant.0,
  c.server_of.ensures.kept ∙ c.loop-number.invariant.1,
)

pub returns-clause-told : goal.returns-clause-told
returns-clause-told g c =
    told_to (AsksFigures (record { gave = g.I.ByteIn.gave; took = g.O.ByteOut.took })) c.args.book.now c.loop-number.number
    c.loop-number.servers.items (omega arith) c.loop-number.invariant.0
