use Rattle.std.proofs.Common.{Bor, refl, ap, ◌∙◌}
use Rattle.typed_values.specs.declared.value.Value.{Value}
use Rattle.typed_values.specs.Members.{members_without}
use Rattle.store_commands.proofs.Stores.{is_there, missing_by}
use Rattle.store_commands.proofs.Effects.{none_taken, members_taken, no_set_left}
use Rattle.store_commands.proofs.commit.moves.take_members.Goals as goal

pub returns-then-is_none : goal.returns-then-is_none
returns-then-is_none g c = none_taken _ _ c.args.members.now (missing_by (λ (v : Bor Value). v.now) c.get.result _ _ _ c.get.ensures refl c.if-is_none.ensures)

pub settle-requires : goal.settle-requires
settle-requires g c = is_there _ _ _ _ c.exchange.ensures.new

pub exchange-requires-in_default : goal.exchange-requires-in_default
exchange-requires-in_default g c = is_there _ _ _ _ c.exchange.ensures.new

pub returns-in-Set : goal.returns-in-Set
returns-in-Set g c =
    let taken = c.remove_all.ensures.after ∙ ap (λ ms. members_without ms c.args.members.now) c.get_mut.ensures.value in
    members_taken _ _ _ _ _ c.in-Set.set c.remove_all.new.self c.args.members.now c.in-Set.ensures.old c.exchange.ensures.new taken c.settle.ensures

pub returns-in_default : goal.returns-in_default
returns-in_default g c =
    no_set_left _ _ _ _ _ c.exchange.result c.exchange.result c.args.members.now c.exchange.ensures.old c.exchange.ensures.new c.in_default.not-Set refl c.exchange-in_default.ensures.new
