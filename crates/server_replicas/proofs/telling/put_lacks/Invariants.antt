use Rattle.std.proofs.Common.{◌≡◌, ◌++◌}
use Rattle.std.specs.List.{flat_map}
use Rattle.cluster_views.proofs.Firsts.{numbers_from}
use Rattle.cluster_views.specs.Numbers.{numbers_to}
use Rattle.server_replicas.specs.Telling.{lack_text}
use Rattle.server_replicas.proofs.telling.put_lacks.Given as goal

-- the lines of the slots before, and then those of the others
abbrev pub invariant-loop-number : goal.invariant-loop-number
invariant-loop-number l =
    l.fn.out.items ++ flat_map (lack_text l.survey l.node l.replica l.told) (numbers_to 16384)
    ≡ l.out.items ++ flat_map (lack_text l.survey l.node l.replica l.told) (numbers_from 16384 l.number)
