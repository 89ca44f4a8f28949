use Rattle.cluster_runs.proofs.runs.carry_out.Goals as goal

pub returns : goal.returns
returns g c = (c.in_ok-ran.ran, c.in_ok-ran.ensures, c.in_ok-end.ensures)
