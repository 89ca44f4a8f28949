use Rattle.std.proofs.Common.{◌≡◌, arith, inr, length, subst}
use Rattle.std.proofs.lemmas.Result.{err_from_is_err_and}
use Rattle.cluster_survey.specs.Linking.{AreLinked}
use Rattle.cluster_survey.proofs.Linked.{address_at, one_linked, put_last}
use Rattle.cluster_survey.proofs.linking.links_to.Goals as goal

pub returns-in_err-link : goal.returns-in_err-link
returns-in_err-link g c =
    let p = err_from_is_err_and c.from_residual.result c.from_residual.ensures.1 in
    rw (p.1, p.2) (inr (
      c.loop-number.number,
      c.loop-number.links.items,
      omega arith,
      c.loop-number.invariant,
      (
        c.address_of-address.result,
        address_at c.args.book.now c.loop-number.number c.of.result c.server.result.now c.address_of-address.result
            c.server.ensures c.of.ensures c.address_of-address.ensures,
        c.in_err-link.ensures,
      ),
    ))

pub loop-number-preserved : goal.loop-number-preserved
loop-number-preserved g c =
    one_linked g.D.Reach.reaches g.D.Reach.refuses (record { gave = g.D.Input.ByteIn.gave; took = g.D.Output.ByteOut.took }) c.args.credentials.now
    c.args.book.now c.loop-number.number c.loop-number.links.items c.push.new.self.items c.in_ok-link.link
    c.loop-number.invariant (
      c.address_of-address.result,
      address_at c.args.book.now c.loop-number.number c.of.result c.server.result.now c.address_of-address.result
          c.server.ensures c.of.ensures c.address_of-address.ensures,
      c.in_ok-link.ensures,
    ) (put_last g.D.Reach.reaches g.D.Reach.refuses (record { gave = g.D.Input.ByteIn.gave; took = g.D.Output.ByteOut.took }) c.args.credentials.now _
    c.loop-number.links.items c.push.new.self.items c.in_ok-link.link c.push.ensures.items c.if-is_err.ensures.negation)

pub returns : goal.returns
returns g c =
    let all : c.loop-number.number ≡ length c.args.book.now = omega arith in
    subst (λ n. AreLinked g.D.Reach.reaches g.D.Reach.refuses (record { gave = g.D.Input.ByteIn.gave; took = g.D.Output.ByteOut.took })
    c.args.credentials.now c.args.book.now n c.loop-number.links.items) all c.loop-number.invariant
