use Rattle.probe.proofs.measure.honesty.search_at.Given as goal

-- the cluster of this setup
abbrev pub ghosts-search_of : goal.ghosts-search_of
ghosts-search_of g a = record { setup = a.setup }
