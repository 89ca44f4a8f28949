-- What a run met, where the plan may continue by itself.
use Rattle.std.specs.Prelude.{ℕ, List, cond, codes, Option, None, Some}
use Rattle.byte_texts.specs.Words.{begins}
use Rattle.cluster_runs.specs.declared.trouble.Trouble.{Trouble}
use Rattle.cluster_runs.specs.declared.trouble.Trouble.TheVariants.{Late, Other, Slow}

-- a MIGRATE took longer than it may, or a node's replicas were too slow
abbrev pub trouble_in : (text : List ℕ) → Trouble
trouble_in text = cond (begins (codes "IOERR") text) Late (cond (begins (codes "replicas of ") text) Slow Other)

-- by the last words of the port
abbrev pub trouble_of : (said : Option (List ℕ)) → Trouble
trouble_of None = Other
trouble_of (Some text) = trouble_in text
