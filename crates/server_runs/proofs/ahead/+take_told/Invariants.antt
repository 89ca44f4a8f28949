use Rattle.server_runs.proofs.ahead.+take_told.Given as goal

abbrev pub decreases-take_told : goal.decreases-take_told
decreases-take_told l = l.left
