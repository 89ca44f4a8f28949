use Rattle.std.proofs.Common.{◌≡◌, find, length}
use Rattle.cluster_views.specs.Surveying.{differs, dissenter}
use Rattle.cluster_views.proofs.Firsts.{numbers_from}
use Rattle.server_phases.proofs.looking.dissenter.Given as goal

-- all before tell the owner that n0 does
abbrev pub invariant-loop-number : goal.invariant-loop-number
invariant-loop-number l =
    dissenter l.survey l.slot ≡ find (differs l.survey l.slot) (numbers_from (length l.survey.rows) l.number)
