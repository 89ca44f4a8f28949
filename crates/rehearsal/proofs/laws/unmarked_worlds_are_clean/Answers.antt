use Rattle.rehearsal.proofs.Merging.{unmarked_is_clean, unmarked_is_open}
use Rattle.rehearsal.proofs.laws.unmarked_worlds_are_clean.Goals as goal

pub returns-clause-clean : goal.returns-clause-clean
returns-clause-clean c = unmarked_is_clean

pub returns-clause-is_open : goal.returns-clause-is_open
returns-clause-is_open c = unmarked_is_open
