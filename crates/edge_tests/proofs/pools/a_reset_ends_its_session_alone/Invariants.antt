use Rattle.edge_tests.proofs.pools.a_reset_ends_its_session_alone.Given as goal

-- the cluster of this setup
abbrev pub ghosts-serve_both : goal.ghosts-serve_both
ghosts-serve_both g a = record { setup = a.setup }
