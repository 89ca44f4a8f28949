-- Replies of the usual kinds.
use Rattle.std.specs.Prelude.{ℕ, Bool, List, map, Option, Some, None, if◌then◌else◌, pos}
use Rattle.resp2_wire.specs.View.{trees}
use Rattle.resp2_wire.specs.declared.reply.Reply.{Reply}
use Rattle.resp2_wire.specs.declared.reply.Reply.TheVariants.{Number, Bulk, Null, Array}

abbrev pub count : ℕ → Reply
count n = Number (pos n)

abbrev pub truth : Bool → Reply
truth b = count (if b then 1 else 0)

abbrev pub bulk_or_null : Option (List ℕ) → Reply
bulk_or_null None = Null
bulk_or_null (Some t) = Bulk t

abbrev pub bulk_array : List (List ℕ) → Reply
bulk_array ts = Array (trees (map (λ t. Bulk t) ts))
