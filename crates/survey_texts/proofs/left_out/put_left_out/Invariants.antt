use Rattle.std.proofs.Common.{◌≡◌, ◌++◌, take}
use Rattle.survey_texts.specs.Texts.{left_out_lines}
use Rattle.survey_texts.proofs.left_out.put_left_out.Given as goal

-- the lines of those before this one
abbrev pub invariant-loop-server : goal.invariant-loop-server
invariant-loop-server l = l.out.items ≡ l.initial.out.items ++ left_out_lines (take l.server-index l.servers)
