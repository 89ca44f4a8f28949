use Rattle.std.proofs.Common.{◌≡◌, [], length}
use Rattle.std.specs.Prelude.{vec_len}
use Rattle.server_replicas.proofs.Put.{IsPut}
use Rattle.server_replicas.specs.Replicas.{AreNodeTexts, asking_of}
use Rattle.server_replicas.proofs.replicas.replica_lines.Given as goal

-- the texts of the nodes before are put
abbrev pub invariant-loop-number : goal.invariant-loop-number
invariant-loop-number g l = record {
  kept : vec_len l.links ≡ length l.book;
  put : IsPut
      (AreNodeTexts
      (asking_of g.D.Reach.reaches g.D.Reach.refuses
      (record { gave = g.D.Input.ByteIn.gave; took = g.D.Output.ByteOut.took }) l.credentials) l.book l.survey
      l.versions) l.number [] l.out.items;
}
