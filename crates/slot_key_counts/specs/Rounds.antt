-- How several servers are asked for the keys of many slots, in rounds.
use Rattle.std.specs.Prelude.{◌≡◌, ◌⊎◌, ℕ, zero, suc, ◌≤◌, ◌+◌, ◌*◌, ◌==◌, ◌&&◌, Bool, true, false, cond}
use Rattle.std.specs.Prelude.{List, [], ◌∷◌, ◌++◌}
use Rattle.std.specs.Prelude.{Option, None, Some, Result, Ok, Err}
use Rattle.cluster_admin.specs.declared.port_fault.PortFault.{PortFault}
use Rattle.cluster_views.specs.declared.fault.SurveyFault.{SurveyFault}
use Rattle.cluster_views.specs.declared.fault.SurveyFault.TheVariants as fault
use Rattle.server_links.specs.Asking.{AsksAt}
use Rattle.server_links.specs.Exchanges.{Answer}
use Rattle.server_links.specs.Links.{Sends}
use Rattle.server_links.specs.Series.{ReceivesOf}
use Rattle.server_links.specs.Streams.{Streams}
use Rattle.server_links.specs.declared.link.Link as link
use Rattle.slot_key_counts.specs.Counting.{Counts, count_request}

-- ---- what was told

-- the keys of each slot at each node that told them
abbrev pub Told : Type 0
Told = (node slot : ℕ) → Option ℕ

abbrev pub nothing : Told
nothing n s = None

abbrev pub with_keys : Told → (node slot keys : ℕ) → Told
with_keys told node slot keys n s = cond ((node == n) && (slot == s)) (Some keys) (told n s)

-- ---- a batch

-- which slots a node is asked for
abbrev pub Wants : Type 0
Wants = (node slot : ℕ) → Bool

-- Of the slots r, r + 64, r + 128 .. so many, those that are asked for. A round goes through 256 slots, so no batch has
-- more.
unfoldable pub batch : (asked : ℕ → Bool) → (round count : ℕ) → List ℕ
batch asked r zero = []
batch asked r (suc k) = batch asked r k ++ cond (asked (r + 64 * k)) ((r + 64 * k) ∷ []) []

-- the requests for these slots, one after the other
abbrev pub requests_for : List ℕ → List ℕ
requests_for [] = []
requests_for (s ∷ ss) = count_request s ++ requests_for ss

abbrev pub is_last : List ℕ → Bool
is_last [] = true
is_last (s ∷ ss) = false

-- how a request is sent over a connection, and how one of several replies is read
pub record Talk (L : Type 0) : Type 1 where
  pub sends : (request : List ℕ) → L → Result (Unit {0}) PortFault → L → Type 0
  pub hears : (is_last : Bool) → L → Answer → L → Type 0

abbrev pub talk : {I O : Type 0} → Streams I O → Talk (link.Link I O)
talk by = record { sends = Sends by; hears = ReceivesOf by }

module _ {L : Type 0} (by : Talk L) where
  -- The requests for these slots go out in one go over the node's own connection; or memory ran out before that; or the
  -- connection is gone.
  abbrev pub SendsAll : (node : ℕ) → List ℕ → List L → Result (Unit {0}) SurveyFault → List L → Type 0
  SendsAll n ss links (Ok u) links' = AsksAt (by.sends (requests_for ss)) links n (Ok u) links'
  SendsAll n ss links (Err e) links' = ((e ≡ fault.Memory) × (links' ≡ links))
      ⊎ ((f : PortFault) × AsksAt (by.sends (requests_for ss)) links n (Err f) links' × (e ≡ fault.NoAnswer n))

  -- nothing is sent where there is none
  abbrev pub SendsBatch : (node : ℕ) → List ℕ → List L → Result (Unit {0}) SurveyFault → List L → Type 0
  SendsBatch n [] links r links' = (r ≡ Ok tt) × (links' ≡ links)
  SendsBatch n (s ∷ ss) links r links' = SendsAll n (s ∷ ss) links r links'

  -- a reply is read, and is a number of keys, or none
  abbrev pub HearsKeys : (node : ℕ) → (is_last : Bool) → List L → Result ℕ SurveyFault → List L → Type 0
  HearsKeys n last links r links' = (answer : Answer) × AsksAt (by.hears last) links n answer links' × Counts n answer r

  -- The replies to a batch are read, one after the other: each is to the request for the slot in its place. The first
  -- that is no number is the last that is read.
  abbrev pub HearsBatch : (node : ℕ) → List ℕ → Told → List L → Result Told SurveyFault → List L → Type 0
  HearsBatch n [] told links r links' = (r ≡ Ok told) × (links' ≡ links)
  HearsBatch n (s ∷ ss) told links r links' =
      ((keys : ℕ) × (mid : List L) × HearsKeys n (is_last ss) links (Ok keys) mid
      × HearsBatch n ss (with_keys told n s keys) mid r links')
      ⊎ ((e : SurveyFault) × HearsKeys n (is_last ss) links (Err e) links' × (r ≡ Err e))

  -- ---- rounds

  -- To each of the nodes its batch is sent, from the last one on, and only then the replies are read, from those of the
  -- first one on. A fault ends it at once.
  unfoldable pub IsRound : (batches : (node : ℕ) → List ℕ) → (nodes : ℕ) → Told → List L → Result Told SurveyFault
      → List L → Type 0
  IsRound batches zero told links r links' = (r ≡ Ok told) × (links' ≡ links)
  IsRound batches (suc n) told links r links' =
      ((mid : List L) × (next : Told) × (heard : List L) × SendsBatch n (batches n) links (Ok tt) mid
      × IsRound batches n told mid (Ok next) heard × HearsBatch n (batches n) next heard r links')
      ⊎ (((mid : List L) × (e : SurveyFault) × SendsBatch n (batches n) links (Ok tt) mid
      × IsRound batches n told mid (Err e) links' × (r ≡ Err e))
      ⊎ (((e : SurveyFault) × SendsBatch n (batches n) links (Err e) links' × (r ≡ Err e))
      ⊎ ((links' ≡ links) × (r ≡ Err fault.Memory))))

  -- so many rounds, one after the other, up to one that fails
  unfoldable pub AreRounds : Wants → (nodes rounds : ℕ) → Told → List L → Result Told SurveyFault → List L → Type 0
  AreRounds wants nodes zero told links r links' = (r ≡ Ok told) × (links' ≡ links)
  AreRounds wants nodes (suc k) told links r links' = (next : Told) × (mid : List L)
      × AreRounds wants nodes k told links (Ok next) mid
      × IsRound (λ n. batch (wants n) k 256) nodes next mid r links'

  -- all slots are asked for, in 64 rounds
  abbrev pub AreAsked : Wants → (nodes : ℕ) → List L → Told → List L → Type 0
  AreAsked wants nodes links told links' = AreRounds wants nodes 64 nothing links (Ok told) links'

  -- one of them fails, or memory ran out before the first one
  abbrev pub AreNotAsked : Wants → (nodes : ℕ) → List L → SurveyFault → List L → Type 0
  AreNotAsked wants nodes links e links' = ((e ≡ fault.Memory) × (links' ≡ links))
      ⊎ ((k : ℕ) × (k ≤ 64) × AreRounds wants nodes k nothing links (Err e) links')
