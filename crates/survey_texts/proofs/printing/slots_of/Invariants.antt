use Rattle.std.proofs.Common.{◌≡◌, ◌+◌, ◌≤◌}
use Rattle.std.specs.Prelude.{count_by}
use Rattle.cluster_views.specs.Numbers.{numbers_to}
use Rattle.cluster_views.proofs.Firsts.{numbers_from}
use Rattle.survey_texts.specs.Texts.{is_own}
use Rattle.survey_texts.proofs.printing.slots_of.Given as goal

-- how many of the slots before, and then of the others
abbrev pub invariant-loop-number : goal.invariant-loop-number
invariant-loop-number l = record {
  all : count_by (is_own l.survey l.node) (numbers_to 16384)
      ≡ l.count + count_by (is_own l.survey l.node) (numbers_from 16384 l.number);
  few : l.count ≤ l.number;
}
