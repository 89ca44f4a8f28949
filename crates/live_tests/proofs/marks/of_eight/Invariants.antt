use Rattle.live_tests.proofs.marks.of_eight.Given as goal

-- the cluster of this setup
abbrev pub ghosts-clean_then_marked : goal.ghosts-clean_then_marked
ghosts-clean_then_marked g a = record { setup = a.setup }
