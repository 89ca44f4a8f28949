use Rattle.std.proofs.Common.{◌≡◌}
use Rattle.client_commands.proofs.key_pair.KeyPair.shrink_to_fit.Given as goal

abbrev pub invariant-loop-key : goal.invariant-loop-key
invariant-loop-key l = l.key-items ≡ l.initial.key-items
