use Rattle.probe.proofs.kept.Keeping.run.Given as goal

-- the cluster of this setup
abbrev pub ghosts-keep_running : goal.ghosts-keep_running
ghosts-keep_running g a = record { setup = a.setup }
