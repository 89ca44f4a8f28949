use Rattle.live_tests.proofs.seats.an_administrator_is_answered.Given as goal

-- the cluster of this setup
abbrev pub ghosts-list_b : goal.ghosts-list_b
ghosts-list_b g a = record { setup = a.setup }
