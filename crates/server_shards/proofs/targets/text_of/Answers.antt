use Rattle.std.proofs.Common.{false, inr, true}
use Rattle.std.proofs.lemmas.Result.{err_from_is_err_and}
use Rattle.byte_texts.specs.Parts.{parts}
use Rattle.server_shards.specs.Returning.{asks_of}
use Rattle.server_shards.proofs.Checked.{checked_as, named_as}
use Rattle.server_shards.proofs.targets.text_of.Goals as goal

pub returns-in_ok-text-clause-said : goal.returns-in_ok-text-clause-said
returns-in_ok-text-clause-said g c = (
  named_as c.args.old.now.name c.get.result.now (parts 44 c.args.dead.now) c.is_named.result false c.get.ensures.value
      c.is_named.ensures c.if-is_named.false,
  checked_as (asks_of (record { gave = g.I.ByteIn.gave; took = g.O.ByteOut.took })) c.args.book.now c.args.node
      c.args.old.now c.args.links.now.items c.returns_to.new.links.items c.in_ok-returns_to.field-0 true
      c.if-branch.true c.in_ok-returns_to.ensures.checked,
  c.in_ok-text.ensures,
)

pub returns-else-branch-clause-said : goal.returns-else-branch-clause-said
returns-else-branch-clause-said g c =
    inr (checked_as (asks_of (record { gave = g.I.ByteIn.gave; took = g.O.ByteOut.took })) c.args.book.now c.args.node
    c.args.old.now c.args.links.now.items c.returns_to.new.links.items c.in_ok-returns_to.field-0 false
    c.if-branch.false c.in_ok-returns_to.ensures.checked)

pub returns-in_err-returns_to-clause-unknown : goal.returns-in_err-returns_to-clause-unknown
returns-in_err-returns_to-clause-unknown g c =
    let p = err_from_is_err_and c.from_residual.result c.from_residual.ensures.1 in
    rw (p.1, p.2) (inr (
      named_as c.args.old.now.name c.get.result.now (parts 44 c.args.dead.now) c.is_named.result false
          c.get.ensures.value c.is_named.ensures c.if-is_named.false,
      (_, _, c.in_err-returns_to.ensures.checked),
    ))
