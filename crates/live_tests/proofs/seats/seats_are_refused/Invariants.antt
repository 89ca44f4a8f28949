use Rattle.live_tests.proofs.seats.seats_are_refused.Given as goal

-- the cluster of this setup
abbrev pub ghosts-none_handed_in : goal.ghosts-none_handed_in
ghosts-none_handed_in g a = record { setup = a.setup }
