-- The wait until no MIGRATE of the source can act late at the target: what is sent before a connection is closed is
-- still read by the server after it, so each connection over which keys may come is ended there, and a second look
-- finds one that was not accepted yet at the first (the pages of CLIENT LIST and CLIENT KILL).
use Rattle.std.specs.Prelude.{◌≡◌, ◌⊎◌, ℕ, zero, suc, ◌+◌, Bool, true, false, ◌&&◌, ◌==◌, List, length, codes}
use Rattle.std.specs.Prelude.{Some, None, Result, Ok, Err}
use Rattle.resp2_wire.specs.declared.reply.Reply.{Reply}
use Rattle.resp2_wire.specs.declared.reply.Reply.TheVariants as reply
use Rattle.byte_texts.specs.Words.{begins, is}
use Rattle.server_links.specs.Limits.{line_limit, list_limit}
use Rattle.server_settling.specs.Asking.{Asks, Each, Tells, Then}
use Rattle.server_settling.specs.Clients.{Connection, clients_of_text, late_ids}
use Rattle.server_settling.specs.Stops.{Accepts, IsUseless, stop_by}
use Rattle.server_settling.specs.Words.{clients_words, kill_words}
use Rattle.server_settling.specs.declared.fault.SettleFault.TheVariants as fault
use Rattle.server_settling.specs.declared.stop.SettleStop.{SettleStop}

-- the connections from the host over which keys may come, as the target's list shows them
abbrev pub ShowsIn : (target : ℕ) → (host : List ℕ) → (text : List ℕ) → Result (List ℕ) SettleStop → Type 0
ShowsIn t host text (Ok ids) = (cs : List Connection) × (clients_of_text text ≡ Some cs) × (ids ≡ late_ids host cs)
ShowsIn t host text (Err e) =
    ((clients_of_text text ≡ None) × (e ≡ stop_by (fault.Strange t))) ⊎ (e ≡ stop_by fault.Memory)

abbrev pub NoList : (target : ℕ) → Reply → Result (List ℕ) SettleStop → Type 0
NoList t r (Ok ids) = ⊥
NoList t r (Err e) = IsUseless t r e

abbrev pub Shows : (target : ℕ) → (host : List ℕ) → Reply → Result (List ℕ) SettleStop → Type 0
Shows t host (reply.Bulk text) r = ShowsIn t host text r
Shows t host other r = NoList t other r

-- the reply to CLIENT KILL says that the connection is gone
abbrev pub is_gone : Reply → Bool
is_gone (reply.Simple t) = is (codes "OK") t
is_gone (reply.Number k) = true
is_gone (reply.Error t) = begins (codes "ERR No such client") t
is_gone other = false

-- none was shown twice in a row
abbrev pub is_second : (quiet : Bool) → (count : ℕ) → Bool
is_second quiet count = quiet && (count == 0)

module _ {S : Type 0} (asks : Asks S) where
  abbrev pub Looks : (target : ℕ) → (host : List ℕ) → S → Result (List ℕ) SettleStop → S → Type 0
  Looks t host s r s' = Tells asks (Shows t host)
      (record { node = t; words = clients_words; limit = list_limit }) s r s'

  abbrev pub Ends : (target : ℕ) → (id : ℕ) → S → Result (Unit {0}) SettleStop → S → Type 0
  Ends t id s r s' = Tells asks (λ reply. Accepts (is_gone reply) t reply)
      (record { node = t; words = kill_words id; limit = line_limit }) s r s'

  -- all these are ended, in their order
  abbrev pub EndsAll : (target : ℕ) → (ids : List ℕ) → S → Result ℕ SettleStop → S → Type 0
  EndsAll t ids s (Ok count) s' = Each (Ends t) ids s (Ok tt) s' × (count ≡ length ids)
  EndsAll t ids s (Err e) s' = Each (Ends t) ids s (Err e) s'

  -- a look, after which what is shown is ended: how many these were
  abbrev pub Round : (target : ℕ) → (host : List ℕ) → S → Result ℕ SettleStop → S → Type 0
  Round t host s r s' = Then (Looks t host) (EndsAll t) s r s'

  -- so many rounds, none of which was the end of the wait: how many were ended, and whether the last look showed none
  abbrev pub Rounds : (target : ℕ) → (host : List ℕ) → (rounds : ℕ) → S → (ended : ℕ) → (quiet : Bool) → S → Type 0
  Rounds t host zero s ended quiet s' = (ended ≡ 0) × (quiet ≡ false) × (s' ≡ s)
  Rounds t host (suc k) s ended quiet s' = (before : ℕ) × (was : Bool) × (count : ℕ) × (mid : S)
      × Rounds t host k s before was mid × Round t host mid (Ok count) s' × (is_second was count ≡ false)
      × (ended ≡ before + count) × (quiet ≡ (count == 0))

  -- The wait: rounds up to a second look in a row that shows none. Or it is given up, or a round is cut short.
  abbrev pub Quiets : (target : ℕ) → (host : List ℕ) → S → Result ℕ SettleStop → S → Type 0
  Quiets t host s (Ok ended) s' = (k : ℕ) × (was : Bool) × (count : ℕ) × (mid : S)
      × Rounds t host k s ended was mid × Round t host mid (Ok count) s' × (is_second was count ≡ true)
  Quiets t host s (Err e) s' = (k : ℕ) × (ended : ℕ) × (was : Bool) × (mid : S) × Rounds t host k s ended was mid
      × (Round t host mid (Err e) s' ⊎ ((s' ≡ mid) × (e ≡ stop_by (fault.Restless t))))
