use Rattle.loopback_servers.proofs.serving.serve_from.Given as goal

-- the cluster of this setup
abbrev pub ghosts-serve_setup : goal.ghosts-serve_setup
ghosts-serve_setup g a = record { setup = a.setup }
