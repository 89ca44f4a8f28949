use Rattle.std.proofs.Common.{Bor}
use Rattle.typed_values.specs.declared.value.Value.{Value}
use Rattle.store_commands.proofs.Stores.{placed_same}
use Rattle.store_commands.proofs.commit.moves.make_place.Goals as goal

pub returns-then-is_some-clause-ok : goal.returns-then-is_some-clause-ok
returns-then-is_some-clause-ok g c =
    placed_same (λ (v : Bor Value). v.now) c.get-2.result _ _ _ _ c.is_some.result c.get-2.ensures c.get.ensures.value c.is_some.ensures c.if-is_some.true
