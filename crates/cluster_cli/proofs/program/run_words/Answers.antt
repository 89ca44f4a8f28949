use Rattle.std.proofs.Common.{inl, inr, refl}
use Rattle.cluster_cli.proofs.program.run_words.Goals as goal

pub returns-in-Ok-clause-done : goal.returns-in-Ok-clause-done
returns-in-Ok-clause-done g c = inl (c.in-Ok.usage, c.in-Ok.ensures.asked, c.in-Ok.ensures.lines, c.run_usage.ensures.ends)

pub returns-in-Err-clause-done : goal.returns-in-Err-clause-done
returns-in-Err-clause-done g c = inr (c.out_of_memory.ensures.status, refl, refl, c.out_of_memory.ensures.wrote)
