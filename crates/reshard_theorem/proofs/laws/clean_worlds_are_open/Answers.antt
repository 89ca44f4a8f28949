use Rattle.reshard_theorem.proofs.Opens.{clean_is_open, closed_is_clean}
use Rattle.reshard_theorem.proofs.laws.clean_worlds_are_open.Goals as goal

pub returns-clause-is_open : goal.returns-clause-is_open
returns-clause-is_open c = clean_is_open

pub returns-clause-clean : goal.returns-clause-clean
returns-clause-clean c = closed_is_clean
