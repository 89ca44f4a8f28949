use Rattle.std.proofs.Common.{◌≡◌, drop, vec_len}
use Rattle.cluster_survey.specs.Arranging.{arranged}
use Rattle.cluster_survey.proofs.arranging.arrange.Given as goal

-- the names before were put at their places
abbrev pub invariant-loop-node : goal.invariant-loop-node
invariant-loop-node l = record {
  whole : arranged (drop l.node-index l.names) l.servers.items ≡ arranged l.names l.initial.servers.items;
  len : vec_len l.servers ≡ vec_len l.initial.servers;
}
