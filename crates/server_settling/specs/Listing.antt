-- The keys of a slot, as its source and its target list them (the pages of CLUSTER COUNTKEYSINSLOT and CLUSTER
-- GETKEYSINSLOT).
use Rattle.std.specs.Prelude.{◌≡◌, ◌⊎◌, ◌<◌, ℕ, ◌+◌, ℤ, min, pos, cond, nat_le, List, length, Option, Some, None}
use Rattle.std.specs.Prelude.{IsSorted, Result, Ok, Err}
use Rattle.std.specs.Ordering.{nat_cmp}
use Rattle.std.specs.Cmp.Lexicographic.{slice_cmp}
use Rattle.cluster_admin.specs.declared.admin.AdminCommand.TheVariants.{KeysIn}
use Rattle.cluster_admin.specs.declared.admin.AdminReply.{AdminReply}
use Rattle.cluster_admin.specs.declared.admin.AdminReply.TheVariants as admin
use Rattle.resp2_wire.specs.declared.reply.Reply.{Reply}
use Rattle.resp2_wire.specs.declared.reply.Reply.TheVariants as reply
use Rattle.server_commands.specs.Answers.{Says}
use Rattle.server_commands.specs.Spelling.{count_words, listing_words}
use Rattle.server_commands.specs.declared.answers.Answered.{Answered}
use Rattle.server_commands.specs.declared.answers.Answered.TheVariants as told
use Rattle.server_links.specs.Limits.{line_limit, texts_limit}
use Rattle.server_settling.specs.Asking.{Asks, Tells, Then}
use Rattle.server_settling.specs.Stops.{IsUseless, stop_by}
use Rattle.server_settling.specs.declared.fault.SettleFault.TheVariants as fault
use Rattle.server_settling.specs.declared.listing.Held.{Held}
use Rattle.server_settling.specs.declared.setup.OpenSlot.{OpenSlot}
use Rattle.server_settling.specs.declared.stop.SettleStop.{SettleStop}

-- ---- how many

-- the number is the count, or it is none of 32 bits
abbrev pub IsNumber : (node : ℕ) → ℤ → Result ℕ SettleStop → Type 0
IsNumber n z (Ok k) = z ≡ pos k
IsNumber n z (Err e) = (e ≡ stop_by (fault.Strange n)) × ((k : ℕ) → k < 4294967296 → z ≡ pos k → ⊥)

abbrev pub NoCount : (node : ℕ) → Reply → Result ℕ SettleStop → Type 0
NoCount n r (Ok k) = ⊥
NoCount n r (Err e) = IsUseless n r e

abbrev pub Counts : (node : ℕ) → Reply → Result ℕ SettleStop → Type 0
Counts n (reply.Number z) r = IsNumber n z r
Counts n other r = NoCount n other r

-- ---- which

-- Some more than were counted are asked for, as keys may come in between, and servers list the newest first.
abbrev pub asked_for : (count : ℕ) → ℕ
asked_for count = min (count + 1000) 4294967295

-- however many keys a node says that it has, a list has at most the bytes of one of 1,000 keys
abbrev pub listing_limit : (most : ℕ) → ℕ
listing_limit most = texts_limit (min most 1000)

-- the keys of a listing, if they are not more than were asked for
abbrev pub few_in : (most : ℕ) → List (List ℕ) → Option (List (List ℕ))
few_in most ks = cond (nat_le (length ks) most) (Some ks) None

abbrev pub few_of : (most : ℕ) → AdminReply → Option (List (List ℕ))
few_of most (admin.Keys ks) = few_in most ks
few_of most other = None

abbrev pub few_keys : (most : ℕ) → Answered → Option (List (List ℕ))
few_keys most (told.Reply r) = few_of most r
few_keys most other = None

-- a listing is in the order of its bytes
abbrev pub SortsKeysOf : AdminReply → Type 0
SortsKeysOf (admin.Keys ks) = IsSorted (slice_cmp nat_cmp) ks
SortsKeysOf other = Unit {0}

abbrev pub SortsKeys : Answered → Type 0
SortsKeys (told.Reply r) = SortsKeysOf r
SortsKeys other = Unit {0}

-- The keys that the reply lists, ascending by their bytes; or it is no listing of so many keys at most, or there is no
-- memory.
abbrev pub Lists : (node slot most : ℕ) → Reply → Result (List (List ℕ)) SettleStop → Type 0
Lists n slot most r (Ok ks) = (a : Answered) × Says n (KeysIn slot 0) r a × (few_keys most a ≡ Some ks)
Lists n slot most r (Err e) = ((a : Answered) × Says n (KeysIn slot 0) r a × (few_keys most a ≡ None) × IsUseless n r e)
    ⊎ (e ≡ stop_by fault.Memory)

module _ {S : Type 0} (asks : Asks S) where
  abbrev pub IsCountAt : (node slot : ℕ) → S → Result ℕ SettleStop → S → Type 0
  IsCountAt n slot s r s' = Tells asks (Counts n)
      (record { node = n; words = count_words slot; limit = line_limit }) s r s'

  abbrev pub IsListAt : (node slot most : ℕ) → S → Result (List (List ℕ)) SettleStop → S → Type 0
  IsListAt n slot most s r s' = Tells asks (Lists n slot most)
      (record { node = n; words = listing_words slot most; limit = listing_limit most }) s r s'

  -- the node is asked how many keys of the slot it has, and then for all of them
  abbrev pub AreKeysAt : (node slot : ℕ) → S → Result (List (List ℕ)) SettleStop → S → Type 0
  AreKeysAt n slot s r s' = Then (IsCountAt n slot) (λ count. IsListAt n slot (asked_for count)) s r s'

  -- first at the source, and then at the target
  abbrev pub AreHeld : OpenSlot → S → Result Held SettleStop → S → Type 0
  AreHeld o s (Ok held) s' = (mid : S) × AreKeysAt o.source o.slot s (Ok held.at_source) mid
      × AreKeysAt o.target o.slot mid (Ok held.at_target) s'
  AreHeld o s (Err e) s' = AreKeysAt o.source o.slot s (Err e) s' ⊎ ((keys : List (List ℕ)) × (mid : S)
      × AreKeysAt o.source o.slot s (Ok keys) mid × AreKeysAt o.target o.slot mid (Err e) s')
