-- How replies are read of what a node sends (the RESP specification).
use Rattle.std.specs.Prelude.{◌≡◌, ◌⊎◌, ℕ, ◌+◌, Bool, true, false, List, [], ◌++◌, Ok, codes}
use Rattle.resp2_wire.specs.Replies.{Read, reply_at}
use Rattle.resp2_wire.specs.Tree.{Tree, simple}
use Rattle.resp2_wire.specs.declared.limits.TheConstants.{MAX_DEPTH}
use Rattle.server_links.specs.Streams.{Source}

-- the reply at the beginning of the bytes, and the bytes after it
abbrev pub first_reply : List ℕ → Read Tree
first_reply bytes = reply_at MAX_DEPTH bytes

-- the bytes begin with no whole reply
abbrev pub IsUnfinished : List ℕ → Type 0
IsUnfinished bytes = (t : Tree) (rest : List ℕ) → first_reply bytes ≡ Ok (t, rest) → ⊥

-- Nothing was read, or no reply was whole yet before the last of these reads.
abbrev pub IsReadInTime : {I : Type 0} → (gave : I → ℕ → List ℕ → I → Type 0) → Source I → (reads : ℕ)
    → (input : List ℕ) → (reader' : I) → Type 0
IsReadInTime {I} gave s reads input reader' = (reads ≡ 0) ⊎ ((k : ℕ) × (mid : I) × (before piece : List ℕ)
    × gave s.reader k before mid × gave mid 1 piece reader' × (reads ≡ k + 1) × (input ≡ before ++ piece)
    × IsUnfinished (s.unread ++ before))

-- By what the reader gave meanwhile, the bytes that were not read yet begin with this reply, since the last read and no
-- sooner. What stands after it is not read yet.
abbrev pub ReadsReply : {I : Type 0} → (gave : I → ℕ → List ℕ → I → Type 0) → Source I → Tree → Source I → Type 0
ReadsReply gave s t s' = (n : ℕ) × (input : List ℕ) × gave s.reader n input s'.reader
    × (first_reply (s.unread ++ input) ≡ Ok (t, s'.unread)) × IsReadInTime gave s n input s'.reader

-- the reply to ASKING
abbrev pub ok_tree : Tree
ok_tree = simple (codes "OK")

-- The reply to a request, after that to its ASKING, if it has one. Nothing stands after it.
abbrev pub IsAnswered : {I : Type 0} → (gave : I → ℕ → List ℕ → I → Type 0) → (asking : Bool) → Source I → Tree
    → (reader' : I) → Type 0
IsAnswered {I} gave true s t reader' = (mid : I) × (rest : List ℕ)
    × ReadsReply gave s ok_tree (record { reader = mid; unread = rest })
    × ReadsReply gave (record { reader = mid; unread = rest }) t (record { reader = reader'; unread = [] })
IsAnswered gave false s t reader' = ReadsReply gave s t (record { reader = reader'; unread = [] })
