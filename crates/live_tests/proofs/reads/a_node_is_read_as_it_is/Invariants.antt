use Rattle.live_tests.proofs.reads.a_node_is_read_as_it_is.Given as goal

-- the cluster of this setup
abbrev pub ghosts-read_around_set : goal.ghosts-read_around_set
ghosts-read_around_set g a = record { setup = a.setup }
