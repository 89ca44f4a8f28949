use Rattle.bench_jobs.proofs.calls.calls_at.Given as goal

-- the cluster of this setup
abbrev pub ghosts-calls_of : goal.ghosts-calls_of
ghosts-calls_of g a = record { setup = a.setup }
