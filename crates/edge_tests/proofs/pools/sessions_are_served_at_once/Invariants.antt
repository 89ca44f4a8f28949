use Rattle.edge_tests.proofs.pools.sessions_are_served_at_once.Given as goal

-- the cluster of this setup
abbrev pub ghosts-serve_both : goal.ghosts-serve_both
ghosts-serve_both g a = record { setup = a.setup }
