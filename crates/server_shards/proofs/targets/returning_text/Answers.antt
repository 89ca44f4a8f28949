use Rattle.std.proofs.Common.{◌≡◌, ◌∙◌, ◌⊎◌, ℕ, arith, subst}
use Rattle.std.proofs.lemmas.Result.{err_from_is_err_and}
use Rattle.std.specs.Prelude.{MatchOption, false, true}
use Rattle.server_shards.specs.Returning.{asks_of}
use Rattle.server_shards.specs.Targets.{IsOfNode, NoneReturnsTo, is_told}
use Rattle.server_versions.proofs.More.{more}
use Rattle.server_shards.proofs.targets.returning_text.Goals as goal

pub loop-number-preserved : goal.loop-number-preserved
loop-number-preserved g c =
    let asks = asks_of (record { gave = g.I.ByteIn.gave; took = g.O.ByteOut.took }) in
    let stay : ℕ → Type 0 = λ n. (is_told n c.args.lines.now ≡ false)
    ⊎ NoneReturnsTo asks c.args.book.now c.args.dead.now n c.args.left_out.now in
    let none = subst (λ o. MatchOption o (stay c.of-node.result)
    (λ t. (is_told c.of-node.result c.args.lines.now ≡ true)
    × IsOfNode asks c.args.book.now c.args.dead.now c.of-node.result c.args.left_out.now t.items)) c.in-None.is
    c.in_ok-text.ensures.said in
    record {
      count = c.text_for.ensures.kept ∙ c.loop-number.invariant.count;
      stay = more stay c.loop-number.number c.of-node.result c.loop-number.invariant.stay c.of-node.ensures none;
    }

pub returns-clause-said : goal.returns-clause-said
returns-clause-said g c n lt =
    c.loop-number.invariant.stay n (omega (arith, lt, c.loop-number-test.false, c.nodes-number-end.ensures.value))

pub returns-in_err-text-clause-undecided : goal.returns-in_err-text-clause-undecided
returns-in_err-text-clause-undecided g c =
    let p = err_from_is_err_and c.from_residual.result c.from_residual.ensures.1 in
    rw (p.1, p.2) (
      c.of-node.result,
      omega (arith, c.of-node.ensures, c.nodes-number-end.ensures.value),
      c.in_err-text.ensures.unknown.0,
      c.in_err-text.ensures.unknown.1,
    )
