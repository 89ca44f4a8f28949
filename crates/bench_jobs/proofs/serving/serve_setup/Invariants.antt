use Rattle.bench_jobs.proofs.serving.serve_setup.Given as goal

-- the cluster of this setup
abbrev pub ghosts-serve_cluster : goal.ghosts-serve_cluster
ghosts-serve_cluster g a = record { setup = a.setup }
