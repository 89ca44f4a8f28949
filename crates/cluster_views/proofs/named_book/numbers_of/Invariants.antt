use Rattle.std.proofs.Common.{take}
use Rattle.cluster_views.specs.Naming.{AreNumbersOf}
use Rattle.cluster_views.proofs.named_book.numbers_of.Given as goal

-- the numbers of the servers before
abbrev pub invariant-loop-number : goal.invariant-loop-number
invariant-loop-number l = AreNumbersOf (take l.number l.book) l.numbers
