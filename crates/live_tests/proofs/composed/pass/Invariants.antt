use Rattle.live_tests.proofs.composed.pass.Given as goal

-- the cluster of this setup
abbrev pub ghosts-pass_day : goal.ghosts-pass_day
ghosts-pass_day g a = record { setup = a.setup }
