use Rattle.live_tests.proofs.marks.surveyed_of_eight.Given as goal

-- the cluster of this setup
abbrev pub ghosts-surveyed_then_marked : goal.ghosts-surveyed_then_marked
ghosts-surveyed_then_marked g a = record { setup = a.setup }
