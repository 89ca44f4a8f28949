use Rattle.std.proofs.Common.{Ok, Err, inl, inr}
use Rattle.std.proofs.lemmas.Result.{err_from_is_err_and}
use Rattle.server_commands.specs.Spelling.{nodes_request}
use Rattle.server_links.specs.Links.{Exchanges}
use Rattle.cluster_survey.proofs.Listed.{viewed_by}
use Rattle.cluster_survey.proofs.listing.view_at.Goals as goal

pub returns-in_err-link : goal.returns-in_err-link
returns-in_err-link g c =
    let p = err_from_is_err_and c.from_residual.result c.from_residual.ensures.1 in
    rw (p.1, p.2) (inl c.in_err-link.ensures)

pub returns-in-Ok : goal.returns-in-Ok
returns-in-Ok g c = (
  c.in_ok-link.link,
  c.view_of.new.link,
  c.in_ok-link.ensures,
  viewed_by (Exchanges (record { gave = g.D.Input.ByteIn.gave; took = g.D.Output.ByteOut.took }) nodes_request) c.of.result 0 c.in_ok-link.link
      (Ok c.in-Ok.lines) c.view_of.new.link c.of.ensures c.in-Ok.ensures,
)

pub returns : goal.returns
returns g c = inr (
  c.in_ok-link.link,
  c.view_of.new.link,
  c.in-Err.fault,
  c.in_ok-link.ensures,
  viewed_by (Exchanges (record { gave = g.D.Input.ByteIn.gave; took = g.D.Output.ByteOut.took }) nodes_request) c.of.result 0 c.in_ok-link.link
      (Err c.in-Err.fault) c.view_of.new.link c.of.ensures c.in-Err.ensures,
  c.told_at.ensures,
)
