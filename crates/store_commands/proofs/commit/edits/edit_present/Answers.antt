use Rattle.store_commands.proofs.Stores.{is_there}
use Rattle.store_commands.proofs.Effects.{put_back, edit_made, edit_not_made}
use Rattle.store_commands.proofs.commit.edits.edit_present.Goals as goal

pub settle-requires : goal.settle-requires
settle-requires g c = is_there _ _ _ _ c.exchange-value.ensures.new

pub exchange-requires : goal.exchange-requires
exchange-requires g c = is_there _ _ _ _ c.exchange-value.ensures.new

pub exchange-requires-in-Err : goal.exchange-requires-in-Err
exchange-requires-in-Err g c = is_there _ _ _ _ c.exchange-value.ensures.new

pub returns-in-Ok-true-clause-ok : goal.returns-in-Ok-true-clause-ok
returns-in-Ok-true-clause-ok g c =
    edit_made _ _ _ _ c.args.edit _ c.exchange-value.result c.make.new.value c.in-Ok-true.field-0 c.exchange-value.ensures.old c.exchange-value.ensures.new c.in-Ok-true.field-0-test c.in-Ok-true.ensures.left c.settle.ensures

pub returns-in-Ok-false-clause-ok : goal.returns-in-Ok-false-clause-ok
returns-in-Ok-false-clause-ok g c =
    edit_not_made _ _ _ _ c.args.edit _ c.exchange-value.result c.make.new.value c.in-Ok-false.field-0 c.exchange-value.ensures.old c.exchange-value.ensures.new (c.in-Ok-false.ensures.same c.in-Ok-false.field-0-test) c.in-Ok-false.field-0-test c.in-Ok-false.ensures.left c.exchange.ensures.new

pub returns-in-Err-clause-err : goal.returns-in-Err-clause-err
returns-in-Err-clause-err g c =
    put_back _ _ _ _ _ c.exchange-value.result c.make.new.value c.exchange-value.ensures.old c.exchange-value.ensures.new c.in-Err.ensures.err c.exchange-in-Err.ensures.new
