use Rattle.std.proofs.Common.{◌∷◌, ◌++◌, [], refl, ap}
use mathlib.Core.Option.{some-injective}
use Rattle.atomic_table.specs.Table.{Me, keeps}
use Rattle.cluster_admin.specs.declared.call.AdminCall.{AdminCall}
use Rattle.std.specs.Prelude.{List}
use Rattle.redis_servers.proofs.seat.add_to.Goals as goal

pub compare_exchange_with-requires : goal.compare_exchange_with-requires
compare_exchange_with-requires c = (
  c.requires.same,
  c.requires.word,
  λ s holds len at low. (
    c.args.pass.now.me.0 ++ c.args.call.now ∷ [],
    keeps,
    tt,
    tt,
    λ said is j. (c.args.pass.now.me.0 ++ some-injective _ _ is j ∷ [], c.args.pass.now.me.1),
  ),
)

pub returns-clause-slots : goal.returns-clause-slots
returns-clause-slots c =
    ap (λ (m : Me AdminCall (List AdminCall)). m.1) (c.compare_exchange_with.ensures.2 c.args.call.now refl)
