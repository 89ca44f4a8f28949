use Rattle.std.proofs.Common.{inr, subst}
use Rattle.std.specs.Prelude.{MatchOption}
use Rattle.server_shards.specs.Returning.{asks_of}
use Rattle.server_shards.specs.Targets.{IsUndecided, NoneReturns, Returns}
use Rattle.cluster_inspection.proofs.Returned.{held_back, silent}
use Rattle.cluster_inspection.proofs.returning.check_targets.Goals as goal

pub returns-in-Ok-clause-away : goal.returns-in-Ok-clause-away
returns-in-Ok-clause-away g c =
    let asks = asks_of (record { gave = g.I.ByteIn.gave; took = g.O.ByteOut.took }) in
    let b = c.args.servers.book in
    let dead = c.args.dead.now in
    let lines = c.args.lines.now in
    silent (NoneReturns asks b dead c.args.servers.left_out.items lines) _ c.refused_with.result c.in-Ok.text
    c.refused_with.ensures.silent
    (subst (λ left. MatchOption c.in-Ok.text (NoneReturns asks b dead left lines)
    (λ t. Returns asks b dead left lines t.items)) c.as_slice.ensures.value c.in-Ok.ensures.said)

pub returns-in-Ok-clause-held : goal.returns-in-Ok-clause-held
returns-in-Ok-clause-held g c =
    let asks = asks_of (record { gave = g.I.ByteIn.gave; took = g.O.ByteOut.took }) in
    held_back asks c.args.servers.book c.args.dead.now c.as_slice.result.now c.args.servers.left_out.items
    c.args.lines.now (λ t. t.items)
    (NoneReturns asks c.args.servers.book c.args.dead.now c.as_slice.result.now c.args.lines.now) c.in-Ok.text
    c.refused_with.result c.as_slice.ensures.value c.in-Ok.ensures.said
    c.refused_with.ensures.told

pub returns-clause-held : goal.returns-clause-held
returns-clause-held g c =
    let asks = asks_of (record { gave = g.I.ByteIn.gave; took = g.O.ByteOut.took }) in
    inr (
      c.in-Err.fault,
      subst (λ x. IsUndecided asks c.args.servers.book c.args.dead.now x c.args.lines.now c.in-Err.fault)
          c.as_slice.ensures.value c.in-Err.ensures.undecided,
      c.in_ok-unasked-in-Err.ensures.told,
    )
