use Rattle.std.proofs.Common.{◌≡◌, map}
use Rattle.resp2_wire.specs.declared.reply.Reply.TheVariants.{Bulk}
use Rattle.resp2_wire.proofs.reply.Reply.bulk_array.Given as goal

abbrev pub invariant-loop-text : goal.invariant-loop-text
invariant-loop-text l = l.replies.items ≡ map (λ t. Bulk t) l.yielded
