use Rattle.live_tests.proofs.seats.a_seat_gets_what_it_set.Given as goal

-- the cluster of this setup
abbrev pub ghosts-set_then_get : goal.ghosts-set_then_get
ghosts-set_then_get g a = record { setup = a.setup }
