use Rattle.std.proofs.Common.{◌≡◌, ◌∙◌, ◌<◌, length, arith, refl, subst}
use Rattle.std.proofs.lemmas.Result.{err_from_is_err_and}
use Rattle.std.specs.Prelude.{MatchOption}
use Rattle.server_commands.specs.Servers.{server_at}
use Rattle.server_commands.specs.declared.book.Server.{Server}
use Rattle.server_shards.specs.Returning.{asks_of}
use Rattle.server_shards.specs.Targets.{IsOf, IsUnknown, StaysAway}
use Rattle.server_versions.proofs.More.{more}
use Rattle.server_shards.proofs.targets.text_at.Goals as goal

pub loop-place-preserved : goal.loop-place-preserved
loop-place-preserved g c =
    let asks = asks_of (record { gave = g.I.ByteIn.gave; took = g.O.ByteOut.took }) in
    let stays : Server → Type 0 = StaysAway asks c.args.book.now c.args.dead.now c.args.node in
    let none = subst (λ o. MatchOption o (stays c.master_at-old.result.now)
    (λ t. IsOf asks c.args.book.now c.args.dead.now c.args.node c.master_at-old.result.now t.items)) c.in-None.is
    c.in_ok-text.ensures.said in
    record {
      count = c.text_of.ensures.kept ∙ c.loop-place.invariant.count;
      stay = more (λ i. stays (server_at c.args.left_out.now i)) c.loop-place.place c.loop-place.place
          c.loop-place.invariant.stay refl (subst stays c.master_at-old.ensures none);
    }

pub returns-clause-said : goal.returns-clause-said
returns-clause-said g c i lt =
    c.loop-place.invariant.stay i (omega (arith, lt, c.loop-place-test.false, c.count_of-place-end.ensures))

pub returns-in-Some-clause-said : goal.returns-in-Some-clause-said
returns-in-Some-clause-said g c =
    let asks = asks_of (record { gave = g.I.ByteIn.gave; took = g.O.ByteOut.took }) in
    let stays : Server → Type 0 = StaysAway asks c.args.book.now c.args.dead.now c.args.node in
    let within : c.loop-place.place < length c.args.left_out.now =
    omega (arith, c.loop-place-test.true, c.count_of-place-end.ensures) in
    let one = subst (λ o. MatchOption o (stays c.master_at-old.result.now)
    (λ t. IsOf asks c.args.book.now c.args.dead.now c.args.node c.master_at-old.result.now t.items)) c.in-Some.is
    c.in_ok-text.ensures.said in (
      c.loop-place.place,
      within,
      subst (λ o. IsOf asks c.args.book.now c.args.dead.now c.args.node o c.in-Some.text.items) c.master_at-old.ensures
          one,
    )

pub returns-in_err-text-clause-unknown : goal.returns-in_err-text-clause-unknown
returns-in_err-text-clause-unknown g c =
    let asks = asks_of (record { gave = g.I.ByteIn.gave; took = g.O.ByteOut.took }) in
    let within : c.loop-place.place < length c.args.left_out.now =
    omega (arith, c.loop-place-test.true, c.count_of-place-end.ensures) in
    let p = err_from_is_err_and c.from_residual.result c.from_residual.ensures.1 in
    rw (p.1, p.2) (
      c.loop-place.place,
      within,
      subst (λ o. IsUnknown asks c.args.book.now c.args.dead.now c.args.node o c.in_err-text.field-0.0)
          c.master_at-old.ensures c.in_err-text.ensures.unknown,
    )
