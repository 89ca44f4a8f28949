use Rattle.std.proofs.Common.{◌≡◌, ◌++◌, drop}
use Rattle.plan_language.specs.Texts.{names_text}
use Rattle.plan_language.proofs.putting.put_names.Given as goal

-- what is put, then the lines that are left
abbrev pub invariant-loop-node : goal.invariant-loop-node
invariant-loop-node l =
    l.text.items ++ names_text (drop l.node-index l.names) ≡ l.fn.text.items ++ names_text l.names
