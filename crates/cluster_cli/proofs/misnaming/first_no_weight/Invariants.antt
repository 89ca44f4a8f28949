use Rattle.std.proofs.Common.{◌≡◌, drop, map}
use Rattle.cluster_cli.specs.Misnaming.{first_no_weight}
use Rattle.cluster_cli.proofs.misnaming.first_no_weight.Given as goal

abbrev pub invariant-loop-word : goal.invariant-loop-word
invariant-loop-word l =
    first_no_weight (map (λ w. w.now) (drop l.word-index l.words)) ≡ first_no_weight (map (λ w. w.now) l.words)
