-- How a plan is gone on with.
use Rattle.std.specs.Prelude.{ℕ, List, cond, ◌==◌, codes}

-- only a plan by the rules of version 1 is gone on with by itself: in another one a slot may move again
abbrev pub resume_text : (version : ℕ) → List ℕ
resume_text v = cond (v == 1) (codes "reshard resume --cluster ADDR --plan FILE")
    (codes "reshard resume --cluster ADDR, and a plan anew for what is left")
