use Rattle.std.proofs.Common.{◌≡◌, ◌+◌, ◌%◌, ◌++◌, length, option_map, option_to_list}
use Rattle.std.specs.Vec.Iter.{into_iter_items}
use Rattle.client_commands.specs.Commands.{paired}
use Rattle.client_commands.proofs.arity.in_pairs.Given as goal

-- the name that waits for its value comes before what is left
abbrev pub invariant-loop-argument : goal.invariant-loop-argument
invariant-loop-argument l =
    (paired l.fn.arguments.items ≡ option_map (λ ps. l.pairs.items ++ ps) (paired (option_to_list l.name ++ into_iter_items l.argument-iterator)))
    × (length l.pairs.items + length l.pairs.items + length (option_to_list l.name ++ into_iter_items l.argument-iterator) ≡ length l.fn.arguments.items)
    × (length (option_to_list l.name ++ into_iter_items l.argument-iterator) % 2 ≡ 0)
