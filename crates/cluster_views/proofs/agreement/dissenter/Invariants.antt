use Rattle.std.proofs.Common.{◌≡◌, find, length}
use Rattle.cluster_views.specs.Numbers.{numbers_to}
use Rattle.cluster_views.specs.Surveying.{differs}
use Rattle.cluster_views.proofs.Firsts.{numbers_from}
use Rattle.cluster_views.proofs.agreement.dissenter.Given as goal

-- all before tell the owner that n0 does
abbrev pub invariant-loop-number : goal.invariant-loop-number
invariant-loop-number l =
    find (differs l.survey l.slot) (numbers_to (length l.survey.rows))
    ≡ find (differs l.survey l.slot) (numbers_from (length l.survey.rows) l.number)
