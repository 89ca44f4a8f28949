use Rattle.slot_key_counts.proofs.rounds.+ask_round.Given as goal

abbrev pub decreases-ask_round : goal.decreases-ask_round
decreases-ask_round g l = l.nodes
