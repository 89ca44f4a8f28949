use Rattle.std.proofs.Common.{inl, inr}
use Rattle.std.proofs.lemmas.Result.{err_from_is_err_and}
use Rattle.cluster_survey.proofs.Opened.{let_in_with, let_in_without, new_link}
use Rattle.cluster_survey.proofs.opening.link_to.Goals as goal
use Rattle.cluster_survey.proofs.opening.link_to.Goals.{in-Some+in_ok-show, in_default}

pub returns-in_err-ends : goal.returns-in_err-ends
returns-in_err-ends g c =
    let p = err_from_is_err_and c.from_residual.result c.from_residual.ensures.1 in
    rw (p.1, p.2) (inl c.in_err-ends.ensures)

pub returns-in_err-show : goal.returns-in_err-show
returns-in_err-show g c =
    let p = err_from_is_err_and c.from_residual-in_err-show.result c.from_residual-in_err-show.ensures.1 in
    rw (p.1, p.2) (inr (inr (
      c.in-Some.credentials,
      c.in-Some.is,
      c.in_ok-link.link,
      c.show.new.link,
      new_link g.D.Reach.reaches c.args.address c.in_ok-link.link c.in_ok-ends.ends.0 c.in_ok-ends.ends.1 c.in_ok-ends.ensures
          c.in_ok-link.ensures.writer c.in_ok-link.ensures.reader c.in_ok-link.ensures.blank c.in_ok-link.ensures.there,
      c.in_err-show.ensures,
    )))

pub returns : goal.returns
returns g c = (
  c.in_ok-link.link,
  new_link g.D.Reach.reaches c.args.address c.in_ok-link.link c.in_ok-ends.ends.0 c.in_ok-ends.ends.1 c.in_ok-ends.ensures
      c.in_ok-link.ensures.writer c.in_ok-link.ensures.reader c.in_ok-link.ensures.blank c.in_ok-link.ensures.there,
  elim c.match-credentials.branch [
    | in-Some+in_ok-show w ↦ let_in_with (record { gave = g.D.Input.ByteIn.gave; took = g.D.Output.ByteOut.took }) c.args.credentials.now
        w.in-Some.credentials c.in_ok-link.link w.show.new.link c.match-credentials.link w.in-Some.is
        w.in_ok-show.ensures w.link-is
    | in_default w ↦ let_in_without (record { gave = g.D.Input.ByteIn.gave; took = g.D.Output.ByteOut.took }) c.args.credentials.now
        c.in_ok-link.link c.match-credentials.link w.in_default.is w.link-is
  ],
)
