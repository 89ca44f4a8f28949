-- An array in a list of replies has fewer replies than the list.
use Rattle.std.specs.Prelude.{◌≤◌, max, List, [], ◌∷◌}
use Rattle.std.proofs.Common.{arith}
use Rattle.resp2_wire.specs.Tree.{count, counts}
use Rattle.resp2_wire.specs.View.{tree, trees}
use Rattle.resp2_wire.specs.declared.reply.Reply.{Reply}
use Rattle.resp2_wire.specs.declared.reply.Reply.TheVariants.{Simple, Error, Number, Bulk, Null, NullArray, Array}
use Rattle.resp2_wire.specs.declared.reply.ReplyList.TheDeep.{deep-Reply}
use denote.Param.Weighed.{most}

pub deep_le-count : (r : Reply) → deep-Reply r ≤ count (tree r)
deep_le-count (Simple s) = omega arith
deep_le-count (Error s) = omega arith
deep_le-count (Number n) = omega arith
deep_le-count (Bulk s) = omega arith
deep_le-count Null = omega arith
deep_le-count NullArray = omega arith
deep_le-count (Array ts) = omega arith

pub most_le-counts : (rs : List Reply) → max (most deep-Reply rs) 0 ≤ counts (trees rs)
most_le-counts [] = omega arith
most_le-counts (r ∷ rs) = omega (arith, deep_le-count r, most_le-counts rs)
