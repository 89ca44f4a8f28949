use Rattle.cluster_survey.specs.Arranging.{AreNamed}
use Rattle.cluster_survey.specs.Found.{IsFoundBeside, IsFoundIn, IsUnfoundIn}
use Rattle.cluster_survey.specs.Masters.{IsAscending}
use Rattle.node_names.specs.Names.{AreNames}
use Rattle.std.proofs.Common.{◌≡◌, [], vec_len}
use Rattle.cluster_survey.proofs.Arranged.{book_ascending, book_named, where_ok}
use Rattle.cluster_survey.proofs.Found.{found_beside}
use Rattle.cluster_survey.proofs.finding.find.Goals as goal

pub returns-clause-named : goal.returns-clause-named
returns-clause-named g c =
    where_ok (λ f. IsFoundIn g.D.Reach.reaches g.D.Reach.refuses (record { gave = g.D.Input.ByteIn.gave; took = g.D.Output.ByteOut.took })
    c.args.credentials.now c.get.result.now c.args.names.now f.book f.links.items f.surveyed.survey f.surveyed.epochs.items
    f.left_out.items)
    (λ f. AreNames c.args.names.now → AreNamed c.args.names.now f.book)
    (IsUnfoundIn g.D.Reach.reaches g.D.Reach.refuses (record { gave = g.D.Input.ByteIn.gave; took = g.D.Output.ByteOut.took })
    c.args.credentials.now g.D.Reach.over c.get.result.now c.args.names.now) c.found_in.result
    (λ f h. book_named c.get.result.now c.args.names.now f.book h.0) c.found_in.ensures.found

pub returns-clause-ascending : goal.returns-clause-ascending
returns-clause-ascending g c =
    where_ok (λ f. IsFoundIn g.D.Reach.reaches g.D.Reach.refuses (record { gave = g.D.Input.ByteIn.gave; took = g.D.Output.ByteOut.took })
    c.args.credentials.now c.get.result.now c.args.names.now f.book f.links.items f.surveyed.survey f.surveyed.epochs.items
    f.left_out.items)
    (λ f. c.args.names.now ≡ [] → IsAscending f.book)
    (IsUnfoundIn g.D.Reach.reaches g.D.Reach.refuses (record { gave = g.D.Input.ByteIn.gave; took = g.D.Output.ByteOut.took })
    c.args.credentials.now g.D.Reach.over c.get.result.now c.args.names.now) c.found_in.result
    (λ f h. book_ascending c.get.result.now c.args.names.now f.book h.0) c.found_in.ensures.found

pub returns-clause-left : goal.returns-clause-left
returns-clause-left g c =
    where_ok (λ f. IsFoundIn g.D.Reach.reaches g.D.Reach.refuses (record { gave = g.D.Input.ByteIn.gave; took = g.D.Output.ByteOut.took })
    c.args.credentials.now c.get.result.now c.args.names.now f.book f.links.items f.surveyed.survey f.surveyed.epochs.items
    f.left_out.items)
    (λ f. IsFoundBeside f.left_out.items f.book f.surveyed.survey f.surveyed.epochs.items (vec_len f.links))
    (IsUnfoundIn g.D.Reach.reaches g.D.Reach.refuses (record { gave = g.D.Input.ByteIn.gave; took = g.D.Output.ByteOut.took })
    c.args.credentials.now g.D.Reach.over c.get.result.now c.args.names.now) c.found_in.result
    (λ f h. found_beside g.D.Reach.reaches g.D.Reach.refuses (record { gave = g.D.Input.ByteIn.gave; took = g.D.Output.ByteOut.took })
    c.args.credentials.now c.get.result.now c.args.names.now f.book f.links.items f.surveyed.survey f.surveyed.epochs.items
    f.left_out.items (vec_len f.links) h f.linked) c.found_in.ensures.found
