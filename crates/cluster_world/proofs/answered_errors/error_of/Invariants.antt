use Rattle.std.proofs.Common.{◌≡◌, ◌∷◌, map, take}
use Rattle.cluster_world.proofs.answered_errors.error_of.Given as goal

abbrev pub invariant-loop-key : goal.invariant-loop-key
invariant-loop-key l = map (λ b. b.now) l.error.items ≡ l.text ∷ take l.key-index l.keys
