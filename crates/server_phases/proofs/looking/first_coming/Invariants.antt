use Rattle.std.proofs.Common.{◌≡◌, ◌<◌, ℕ, None, length}
use Rattle.cluster_views.specs.Numbers.{first_given}
use Rattle.cluster_views.proofs.Firsts.{numbers_from}
use Rattle.cluster_admin.specs.Surveys.{importing_at}
use Rattle.server_phases.specs.Strange.{first_coming, coming_at}
use Rattle.server_phases.proofs.looking.first_coming.Given as goal

-- none of the nodes before has a mark
abbrev pub invariant-loop-number : goal.invariant-loop-number
invariant-loop-number l = record {
  first : first_coming l.survey l.slot ≡ first_given (coming_at l.survey l.slot) (numbers_from (length l.survey.rows) l.number);
  none : (n : ℕ) → n < l.number → importing_at l.survey n l.slot ≡ None;
}
