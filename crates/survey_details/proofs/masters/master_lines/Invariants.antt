use Rattle.std.proofs.Common.{◌≡◌, [], length}
use Rattle.std.specs.Prelude.{vec_len}
use Rattle.server_replicas.proofs.Put.{IsPut}
use Rattle.survey_details.specs.Asking.{telling_of}
use Rattle.survey_details.specs.Masters.{AreMasterTexts}
use Rattle.survey_details.proofs.masters.master_lines.Given as goal

-- the texts of the masters before are put
abbrev pub invariant-loop-number : goal.invariant-loop-number
invariant-loop-number g l = record {
  kept : vec_len l.links ≡ length l.book;
  put : IsPut
      (AreMasterTexts (telling_of (record { gave = g.I.ByteIn.gave; took = g.O.ByteOut.took }) l.book) l.details l.book
      l.survey) l.number [] l.out.items;
}
