use Rattle.store_commands.proofs.Named.{leaves_others, sees_named}
use Rattle.store_commands.proofs.laws.commands_touch_named_keys_alone.Goals as goal

pub returns : goal.returns
returns c = record { changes = leaves_others; looks = sees_named }
