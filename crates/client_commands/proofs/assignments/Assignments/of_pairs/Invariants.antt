use Rattle.std.proofs.Common.{◌≡◌, map}
use Rattle.client_commands.proofs.assignments.Assignments.of_pairs.Given as goal

abbrev pub invariant-loop-key : goal.invariant-loop-key
invariant-loop-key l = (l.keys.items ≡ map (λ p. p.0) l.yielded) × (l.values.items ≡ map (λ p. p.1) l.yielded)
