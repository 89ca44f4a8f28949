use Rattle.std.proofs.Common.{◌≡◌, ◌<◌, ℕ, None, length}
use Rattle.cluster_views.specs.Numbers.{first_given}
use Rattle.cluster_views.proofs.Firsts.{numbers_from}
use Rattle.cluster_admin.specs.Surveys.{migrating_at}
use Rattle.server_phases.specs.Strange.{first_going, going_at}
use Rattle.server_phases.proofs.looking.first_going.Given as goal

-- none of the nodes before has a mark
abbrev pub invariant-loop-number : goal.invariant-loop-number
invariant-loop-number l = record {
  first : first_going l.survey l.slot ≡ first_given (going_at l.survey l.slot) (numbers_from (length l.survey.rows) l.number);
  none : (n : ℕ) → n < l.number → migrating_at l.survey n l.slot ≡ None;
}
