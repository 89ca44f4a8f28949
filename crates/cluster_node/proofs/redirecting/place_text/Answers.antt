use Rattle.std.proofs.Common.{◌<◌, subst}
use Rattle.cluster_node.proofs.Places.{length-place}
use Rattle.cluster_node.proofs.redirecting.place_text.Goals as goal

pub returns-clause-short : goal.returns-clause-short
returns-clause-short c =
    length-place c.args.base_port c.args.slot c.args.node c.requires
    (subst (λ n. n < 16384) c.get-number.ensures.value c.get-number.ensures.within)
    (subst (λ n. n < 255) c.get.ensures.value c.get.ensures.within)
