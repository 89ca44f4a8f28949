-- How servers show what they have to: each duty in its turn.
use Rattle.std.specs.Prelude.{◌≡◌, ◌⊎◌, ℕ, Bool, true, false, List, [], ◌∷◌, Option, None, Some, Result, Ok, Err}
use Rattle.listed_nodes.specs.declared.node_line.NodeLine.{NodeLine}
use Rattle.resp2_wire.specs.declared.reply.Reply.{Reply}
use Rattle.server_commands.specs.Servers.{server_at}
use Rattle.server_links.specs.Streams.{Question}
use Rattle.redis_servers.specs.Asking.{nodes_question}
use Rattle.redis_servers.specs.RunHistories.{RunHistory, IsEmptied}
use Rattle.redis_servers.specs.Hearing.{Waits}
use Rattle.redis_servers.specs.Looking.{AsksRole, LastLook, LooksAt, LooksUntil, ShowsNews, StopsWith}
use Rattle.redis_servers.specs.Looking.{owns_slot, shows_owner}
use Rattle.redis_servers.specs.Unmet.{disowned_text, late_text, lost_writes_text, replica_text, unmet_text}
use Rattle.redis_servers.specs.declared.duty.Duty.{Duty}
use Rattle.redis_servers.specs.declared.duty.Duty.TheVariants.{KnowsEpoch, HasNews, IsMaster, OwnsSlot, IsStillMaster}
use Rattle.redis_servers.specs.declared.duty.Duty.TheVariants.{ShowsOwner}
use Rattle.redis_servers.specs.declared.port_stop.PortStop.{PortStop}
use Rattle.redis_servers.specs.declared.hearers.Hearer.{Hearer}
use Rattle.redis_servers.specs.declared.setup.PortSetup.{PortSetup}

-- what is waited for, where the duty is a wait for what one server's list shows
abbrev pub Shows : PortSetup → RunHistory → Duty → List NodeLine → Type 0
Shows x history (HasNews t) ns = ShowsNews x history t ns
Shows x history (ShowsOwner n slot t) ns = shows_owner (server_at x.book t).name slot ns ≡ true
Shows x history other ns = ⊥

module _ {L : Type 0} (asks : Question → List L → (node : ℕ) → Result Reply PortStop → List L → Type 0)
    (x : PortSetup) where
  -- the source is asked once, and is a master
  abbrev pub ShowsMaster : (source : ℕ) → List L → Result (Unit {0}) PortStop → List L → Type 0
  ShowsMaster s links (Ok u) links' = AsksRole asks x.credentials links s (Ok true) links'
  ShowsMaster s links (Err h) links' = AsksRole asks x.credentials links s (Err h) links'
      ⊎ (AsksRole asks x.credentials links s (Ok false) links' × StopsWith (replica_text s) h)

  -- the target is asked once, and owns the slot
  abbrev pub ShowsOwned : (target slot : ℕ) → List L → Result (Unit {0}) PortStop → List L → Type 0
  ShowsOwned t slot links (Ok u) links' = (ns : List NodeLine)
      × LooksAt asks x.credentials nodes_question links t (Ok ns) links' × (owns_slot slot ns ≡ true)
  ShowsOwned t slot links (Err h) links' = LooksAt asks x.credentials nodes_question links t (Err h) links'
      ⊎ ((ns : List NodeLine) × LooksAt asks x.credentials nodes_question links t (Ok ns) links'
      × (owns_slot slot ns ≡ false) × StopsWith (disowned_text t) h)

  module _ (history : RunHistory) where
    -- The source is asked once more, and is a master still; or it was emptied, and may be a replica by then.
    abbrev pub ShowsStill : (source slot : ℕ) → List L → Result (Unit {0}) PortStop → List L → Type 0
    ShowsStill s slot links (Ok u) links' = (b : Bool) × AsksRole asks x.credentials links s (Ok b) links'
        × ((b ≡ true) ⊎ IsEmptied history x.survey s slot)
    ShowsStill s slot links (Err h) links' = AsksRole asks x.credentials links s (Err h) links'
        ⊎ (AsksRole asks x.credentials links s (Ok false) links' × (IsEmptied history x.survey s slot → ⊥)
        × StopsWith (lost_writes_text s) h)

    abbrev pub Meets : Duty → List L → Result (Unit {0}) PortStop → List L → Type 0
    Meets (KnowsEpoch s t) links r links' =
        Waits (asks nodes_question) x.credentials (server_at x.book s).name s t links r links'
    Meets (HasNews t) links r links' = LooksUntil asks x.credentials nodes_question (Shows x history (HasNews t)) t
        (unmet_text (HasNews t)) links r links'
    Meets (IsMaster s) links r links' = ShowsMaster s links r links'
    Meets (OwnsSlot t slot) links r links' = ShowsOwned t slot links r links'
    Meets (IsStillMaster s slot) links r links' = ShowsStill s slot links r links'
    Meets (ShowsOwner n slot t) links r links' = LooksUntil asks x.credentials nodes_question
        (Shows x history (ShowsOwner n slot t)) n (unmet_text (ShowsOwner n slot t)) links r links'

    -- one after the other, up to the first that is not met
    abbrev pub MeetsAll : List Duty → List L → Result (Unit {0}) PortStop → List L → Type 0
    MeetsAll [] links (Ok u) links' = links' ≡ links
    MeetsAll [] links (Err h) links' = ⊥
    MeetsAll (d ∷ ds) links (Ok u) links' = (mid : List L) × Meets d links (Ok tt) mid × MeetsAll ds mid (Ok u) links'
    MeetsAll (d ∷ ds) links (Err h) links' = Meets d links (Err h) links'
        ⊎ ((mid : List L) × Meets d links (Ok tt) mid × MeetsAll ds mid (Err h) links')

    -- ---- news of a slot's new owner

    -- the last look at the server's list: whether it shows the slot's owner, or why there is no list
    abbrev pub Hears : Hearer → List L → Result Bool PortStop → List L → Type 0
    Hears h links r links' = LastLook asks x.credentials nodes_question
        (Shows x history (ShowsOwner h.node h.slot h.owner)) h.node links r links'

    -- the first server that does not show it when the time is over is named, or there is no list of it
    abbrev pub EndsAt : Hearer → List L → Result (Option (List ℕ)) PortStop → List L → Type 0
    EndsAt h links (Ok None) links' = ⊥
    EndsAt h links (Ok (Some text)) links' = Hears h links (Ok false) links' × (text ≡ late_text h)
    EndsAt h links (Err port_stop) links' = Hears h links (Err port_stop) links'

    -- One after the other shows it, up to the first that does not in time: after that none is waited for.
    abbrev pub HearsAll : List Hearer → List L → Result (Option (List ℕ)) PortStop → List L → Type 0
    HearsAll [] links r links' = (r ≡ Ok None) × (links' ≡ links)
    HearsAll (h ∷ hs) links r links' = ((mid : List L) × Hears h links (Ok true) mid × HearsAll hs mid r links')
        ⊎ EndsAt h links r links'
