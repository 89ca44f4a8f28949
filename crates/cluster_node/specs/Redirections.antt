-- The texts of verdicts and of CLUSTER SLOTS (Redis Cluster specification, "Redirection and resharding"; the page of
-- CLUSTER SLOTS).
use Rattle.std.specs.Prelude.{ℕ, ◌+◌, ◌/◌, ◌%◌, List, [], ◌∷◌, ◌++◌, map, replicate, codes, pos}
use Rattle.std.specs.Fmt.{decimal}
use Rattle.byte_texts.specs.Hexadecimal.{hex_digit}
use Rattle.key_slots.specs.Ranges.{owner_ranges}
use Rattle.key_slots.specs.declared.slot_range.SlotRange.{SlotRange}
use Rattle.resp2_wire.specs.Tree.{Tree, number, bulk, array, none, more, trees_of}
use Rattle.resp2_wire.specs.declared.reply.Reply.{Reply}
use Rattle.resp2_wire.specs.declared.reply.Reply.TheVariants.{Error, Array}
use Rattle.slot_marks.specs.declared.verdict.Verdict.{Verdict}
use Rattle.slot_marks.specs.declared.verdict.Verdict.TheVariants.{Serve, Moved, Ask, TryAgain, CrossSlot}

abbrev pub ip : List ℕ
ip = codes "127.0.0.1"

-- a node's address: its port is the base port plus its number
abbrev pub address : (port node : ℕ) → List ℕ
address port n = ip ++ 58 ∷ decimal (port + n)

-- the slot and the node's address, each after a space
abbrev pub place : (port slot node : ℕ) → List ℕ
place port s n = (32 ∷ decimal s) ++ 32 ∷ address port n

abbrev pub redirect_to : List ℕ → (port slot node : ℕ) → Reply
redirect_to word port s n = Error (word ++ place port s n)

abbrev pub try_again : Reply
try_again = Error (codes "TRYAGAIN Multiple keys request during rehashing of slot")

abbrev pub cross_slot : Reply
cross_slot = Error (codes "CROSSSLOT Keys in request don't hash to the same slot")

-- the reply to a command of this slot by the verdict on it; to a command that is served the verdict gives none
unfoldable pub redirection : (port slot : ℕ) → Verdict → Reply
redirection port s Serve = Error []
redirection port s (Moved n) = redirect_to (codes "MOVED") port s n
redirection port s (Ask n) = redirect_to (codes "ASK") port s n
redirection port s TryAgain = try_again
redirection port s CrossSlot = cross_slot

-- a node's id: its number as 40 hexadecimal digits
abbrev pub id_of : ℕ → List ℕ
id_of n = replicate 38 48 ++ hex_digit (n / 16) ∷ hex_digit (n % 16) ∷ []

-- first slot, last slot, and the owner's address and id
abbrev pub range_tree : (port : ℕ) → SlotRange → Tree
range_tree port r =
    array (more (number (pos r.first)) (more (number (pos r.last))
    (more (array (more (bulk ip) (more (number (pos (port + r.owner))) (more (bulk (id_of r.owner)) none)))) none)))

unfoldable pub slots_reply : (port : ℕ) → List ℕ → Reply
slots_reply port owners = Array (trees_of (map (range_tree port) (owner_ranges owners)))
