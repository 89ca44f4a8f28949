use Rattle.probe.proofs.live.day.Given as goal

-- the cluster of this setup
abbrev pub ghosts-pass : goal.ghosts-pass
ghosts-pass g a = record { setup = a.setup }
