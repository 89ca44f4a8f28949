use Rattle.live_tests.proofs.gates.calls_at_one_node_do_not.Given as goal

-- the cluster of this setup
abbrev pub ghosts-meet : goal.ghosts-meet
ghosts-meet g a = record { setup = a.setup }
