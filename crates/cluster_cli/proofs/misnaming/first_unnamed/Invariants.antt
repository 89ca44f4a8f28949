use Rattle.std.proofs.Common.{◌≡◌, drop, map}
use Rattle.cluster_cli.specs.Misnaming.{first_unnamed}
use Rattle.cluster_cli.proofs.misnaming.first_unnamed.Given as goal

abbrev pub invariant-loop-word : goal.invariant-loop-word
invariant-loop-word l =
    first_unnamed l.nodes (map (λ w. w.now) (drop l.word-index l.words)) ≡ first_unnamed l.nodes (map (λ w. w.now) l.words)
