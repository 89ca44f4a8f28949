use Rattle.std.proofs.Common.{◌≡◌, [], drop}
use Rattle.typed_values.specs.Members.{members_with}
use Rattle.script_lines.proofs.migration.are_distinct.Given as goal

abbrev pub invariant-loop-key : goal.invariant-loop-key
invariant-loop-key l = members_with l.seen (drop l.key-index l.keys) ≡ members_with [] l.keys
