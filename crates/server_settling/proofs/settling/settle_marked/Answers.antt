use Rattle.std.proofs.Common.{Ok, Err, subst, inl, inr, refl}
use Rattle.server_commands.specs.declared.book.Server.{Server}
use Rattle.server_settling.specs.Asking.{Sends}
use Rattle.server_settling.specs.Quieting.{Quiets}
use Rattle.server_settling.proofs.settling.settle_marked.Goals as goal

pub returns-in-Ok-clause-settles : goal.returns-in-Ok-clause-settles
returns-in-Ok-clause-settles g c = inl (
  c.in-Ok.ended,
  c.quiet.new.links.items,
  subst (λ (v : Server). Quiets (Sends (record { gave = g.I.ByteIn.gave; took = g.O.ByteOut.took })) c.args.open.now.target v.host c.args.links.now.items (Ok c.in-Ok.ended) c.quiet.new.links.items)
      c.server.ensures c.in-Ok.ensures.quiets,
  c.overwrite.ensures.overwrites,
)

pub returns-in-Err-clause-settles : goal.returns-in-Err-clause-settles
returns-in-Err-clause-settles g c = inr (
  c.in-Err.stop,
  subst (λ (v : Server). Quiets (Sends (record { gave = g.I.ByteIn.gave; took = g.O.ByteOut.took })) c.args.open.now.target v.host c.args.links.now.items (Err c.in-Err.stop) c.quiet.new.links.items)
      c.server.ensures c.in-Err.ensures.quiets,
  refl,
)
