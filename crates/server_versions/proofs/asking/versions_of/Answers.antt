use Rattle.std.proofs.Common.{◌≡◌, ◌∙◌, arith, inr, subst, sym}
use Rattle.std.proofs.lemmas.Result.{err_from_is_err_and}
use Rattle.server_versions.specs.Asking.{AreToldBy, AsksVersion}
use Rattle.server_versions.proofs.Told.{more_told, told_none, told_to}
use Rattle.server_versions.proofs.asking.versions_of.Goals as goal

pub loop-number-init : goal.loop-number-init
loop-number-init g c =
    let asks = AsksVersion (record { gave = g.I.ByteIn.gave; took = g.O.ByteOut.took }) in
    (subst (AreToldBy asks 0) (sym c.new-versions.ensures.items) (told_none asks), c.requires)

pub loop-number-preserved : goal.loop-number-preserved
loop-number-preserved g c = (
  more_told (AsksVersion (record { gave = g.I.ByteIn.gave; took = g.O.ByteOut.took })) c.loop-number.number c.of.result
      c.loop-number.versions.items c.put.new.versions.items _ c.of.ensures c.in_ok-put.ensures.ok
      (_, _, c.in_ok-version.ensures.told) c.loop-number.invariant.0,
  c.version_at.ensures.kept ∙ c.loop-number.invariant.1,
)

pub returns-clause-told : goal.returns-clause-told
returns-clause-told g c =
    told_to (AsksVersion (record { gave = g.I.ByteIn.gave; took = g.O.ByteOut.took })) c.loop-number.number c.args.nodes
    c.loop-number.versions.items (omega arith) c.loop-number.invariant.0

pub returns-in_err-version-clause-untold : goal.returns-in_err-version-clause-untold
returns-in_err-version-clause-untold g c =
    let p = err_from_is_err_and c.from_residual.result c.from_residual.ensures.1 in
    rw (p.1, p.2) (inr (c.of.result, omega (arith, c.of.ensures), (_, _, c.in_err-version.ensures.told)))
