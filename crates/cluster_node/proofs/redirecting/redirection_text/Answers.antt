use Rattle.std.proofs.Common.{length, arith, ap, ◌∙◌}
use Rattle.cluster_node.proofs.redirecting.redirection_text.Goals as goal

pub append-requires : goal.append-requires
append-requires c =
    let word = ap length c.in_ok-text.ensures in
    let place = ap length (c.as_bytes.ensures.value ∙ c.in_ok-place.ensures.value) in
    omega (arith, word, place, c.in_ok-place.ensures.short, c.requires.word)
