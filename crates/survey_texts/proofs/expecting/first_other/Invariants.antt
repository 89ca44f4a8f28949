use Rattle.std.proofs.Common.{◌≡◌, drop}
use Rattle.survey_texts.specs.Expecting.{first_other}
use Rattle.survey_texts.proofs.expecting.first_other.Given as goal

-- the IDs before are the servers'
abbrev pub invariant-loop-number : goal.invariant-loop-number
invariant-loop-number l =
    first_other 0 l.ids l.servers ≡ first_other l.number (drop l.number l.ids) (drop l.number l.servers)
