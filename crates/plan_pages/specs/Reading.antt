-- What can be read off a page.
use Rattle.std.specs.Prelude.{◌≡◌, ℕ, ◌<◌, ◌^◌, Bool, not, ◌==◌, ◌&&◌, List, ◌∷◌, IfSome, filter, map}
use Rattle.std.specs.List.{All, join_with_byte}
use Rattle.plan_outlines.specs.declared.nodes.NodeServer.{NodeServer}
use Rattle.plan_outlines.specs.declared.ranges.SlotRun.{SlotRun}
use Rattle.plan_pages.specs.Runs.{run_text, runs_text}
use Rattle.plan_pages.specs.Servers.{figures_line}
use Rattle.plan_pages.specs.Widths.{IsRun}

-- neither a blank nor a line break
abbrev pub is_ink : ℕ → Bool
is_ink c = not (c == 32) && not (c == 10)

-- without blanks and line breaks a list of runs has each of them in order, and commas between
abbrev pub RunsAreListed : Type 0
RunsAreListed = (room : ℕ) (r : SlotRun) (rs : List SlotRun) → All IsRun (r ∷ rs)
    → filter is_ink (runs_text room (r ∷ rs)) ≡ join_with_byte 44 (map run_text (r ∷ rs))

-- numbers of 64 bits, as far as the server told them
pub record HasFigures (s : NodeServer) : Type 0 where
  pub keys : IfSome s.keys (λ k. k < 2 ^ 64)
  pub used : IfSome s.used_memory (λ m. m < 2 ^ 64)
  pub limit : IfSome s.max_memory (λ m. m < 2 ^ 64)

-- the line of a server's figures tells them: servers with one line told the same, and the same was not told
abbrev pub FiguresAreTold : Type 0
FiguresAreTold = (s q : NodeServer) → HasFigures s → HasFigures q → figures_line s ≡ figures_line q
    → (s.keys ≡ q.keys) × (s.used_memory ≡ q.used_memory) × (s.max_memory ≡ q.max_memory)
