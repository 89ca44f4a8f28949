use Rattle.std.specs.Prelude.{◌≡◌, vec_len}
use Rattle.server_commands.specs.Spelling.{nodes_request}
use Rattle.server_links.specs.Links.{Exchanges}
use Rattle.cluster_survey.specs.Agreeing.{AreRepeated}
use Rattle.cluster_survey.proofs.agreeing.agreed.Given as goal

-- what stood against each survey so far may pass
abbrev pub invariant-loop-round : goal.invariant-loop-round
invariant-loop-round g l = record {
  kept : vec_len l.links ≡ vec_len l.initial.links;
  repeated : AreRepeated (Exchanges (record { gave = g.D.Input.ByteIn.gave; took = g.D.Output.ByteOut.took }) nodes_request) l.book l._round
      l.initial.links.items l.links.items;
}
