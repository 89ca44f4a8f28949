use Rattle.live_tests.proofs.gates.calls_at_two_nodes_overlap.Given as goal

-- the cluster of this setup
abbrev pub ghosts-overlap : goal.ghosts-overlap
ghosts-overlap g a = record { setup = a.setup }
