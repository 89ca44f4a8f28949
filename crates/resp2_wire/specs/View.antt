-- A reply of the program as a tree.
use Rattle.std.specs.Prelude.{List, [], ◌∷◌}
use Rattle.resp2_wire.specs.Tree.{Tree, simple, error, number, bulk, null, null_array, array, Trees, none, more}
use Rattle.resp2_wire.specs.declared.reply.Reply.{Reply}
use Rattle.resp2_wire.specs.declared.reply.Reply.TheVariants.{Simple, Error, Number, Bulk, Null, NullArray, Array}

abbrev pub tree : Reply → Tree
tree (Simple s) = simple s
tree (Error s) = error s
tree (Number n) = number n
tree (Bulk s) = bulk s
tree Null = null
tree NullArray = null_array
tree (Array ts) = array ts

abbrev pub trees : List Reply → Trees
trees [] = none
trees (r ∷ rs) = more (tree r) (trees rs)
