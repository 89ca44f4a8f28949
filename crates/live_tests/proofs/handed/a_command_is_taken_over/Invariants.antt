use Rattle.live_tests.proofs.handed.a_command_is_taken_over.Given as goal

-- the cluster of this setup
abbrev pub ghosts-closed_after : goal.ghosts-closed_after
ghosts-closed_after g a = record { setup = a.setup }
