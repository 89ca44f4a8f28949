-- No fault of a connection is that memory ran out, so none of what a command waits for is.
use Rattle.std.proofs.Common.{◌≡◌, ◌≢◌, ℕ, List, [], ◌∷◌, Option, None, Some, Ok, Err, inl, inr, subst, sym, ◌∙◌}
use Rattle.std.specs.Prelude.{Result}
use Rattle.cluster_admin.specs.declared.admin.AdminCommand.{AdminCommand}
use Rattle.cluster_admin.specs.declared.admin.AdminReply.{AdminReply}
use Rattle.listed_nodes.specs.declared.node_line.NodeLine.{NodeLine}
use Rattle.cluster_admin.specs.declared.port_fault.PortFault.{PortFault}
use Rattle.cluster_admin.specs.declared.port_fault.PortFault.TheVariants.{Memory, Wire}
use Rattle.server_commands.specs.Servers.{server_at}
use Rattle.server_commands.specs.Spelling.{request_of}
use Rattle.server_commands.specs.declared.credentials.Credentials.{Credentials}
use Rattle.server_links.specs.Links.{Exchanges}
use Rattle.server_links.specs.Streams.{Question, Streams}
use Rattle.server_links.specs.declared.link.Link as link
use Rattle.redis_servers.specs.Asking.{AsksNode, nodes_question}
use Rattle.redis_servers.specs.Calls.{Commands, Confirms, Given, IsHeard, Sends, limit_of}
use Rattle.redis_servers.specs.RunHistories.{RunHistory}
use Rattle.redis_servers.specs.Duties.{duties_before, duties_done}
use Rattle.redis_servers.specs.Hearing.{LooksUp, Turn, Waits}
use Rattle.redis_servers.specs.Hearers.{hearers_done}
use Rattle.redis_servers.specs.Looking.{AsksRole, LooksAt, LooksUntil, role_question}
use Rattle.redis_servers.specs.Meeting.{HearsAll, Meets, MeetsAll, Shows}
use Rattle.redis_servers.specs.Unmet.{unmet_text}
use Rattle.redis_servers.specs.declared.duty.Duty.{Duty}
use Rattle.redis_servers.specs.declared.duty.Duty.TheVariants.{KnowsEpoch, HasNews, IsMaster, OwnsSlot, IsStillMaster, ShowsOwner}
use Rattle.redis_servers.specs.declared.port_stop.PortStop.{PortStop}
use Rattle.redis_servers.specs.declared.hearers.Hearer.{Hearer}
use Rattle.redis_servers.specs.declared.commanding.Outcome.{Outcome}
use Rattle.redis_servers.specs.declared.setup.PortSetup.{PortSetup}

wire_is : (f : PortFault) → f ≡ Wire → f ≢ Memory
wire_is f e same = not_both (sym e ∙ same)
  where
    not_both : Wire ≡ Memory → ⊥
    not_both e = cc

module _ {I O : Type 0} (by : Streams I O) where
  abbrev Links : Type 0
  Links = List (link.Link I O)

  asked : (q : Question) (links links' : Links) (n : ℕ) (h : PortStop) → AsksNode by q links n (Err h) links' → h.fault ≢ Memory
  asked q links links' n h way same = subst (λ (f : PortFault). Exchanges by q.request way.0.0 (Err f) way.0.1) same way.0.3

  looked_up : (login : Option Credentials) (name : List ℕ) (links links' : Links) (n : ℕ) (h : PortStop)
      → LooksUp (AsksNode by nodes_question) login name links n (Err h) links' → h.fault ≢ Memory
  looked_up login name links links' n h (inl way) = asked nodes_question links links' n h way
  looked_up login name links links' n h (inr way) = wire_is h.fault way.2.0

  turned : (login : Option Credentials) (name : List ℕ) (s t : ℕ) (links links' : Links) (h : PortStop)
      → Turn (AsksNode by nodes_question) login name s t links (Err h) links' → h.fault ≢ Memory
  turned login name s t links links' h (inl way) = looked_up login name links links' s h way
  turned login name s t links links' h (inr way) = looked_up login name way.1 links' t h way.3

  waited : (login : Option Credentials) (name : List ℕ) (s t : ℕ) (links links' : Links) (h : PortStop)
      → Waits (AsksNode by nodes_question) login name s t links (Err h) links' → h.fault ≢ Memory
  waited login name s t links links' h (inl last) = turned login name s t last.1 links' h last.3
  waited login name s t links links' h (inr over) = wire_is h.fault over.1

  read : (login : Option Credentials) (links links' : Links) (n : ℕ) (h : PortStop)
      → LooksAt (AsksNode by) login nodes_question links n (Err h) links' → h.fault ≢ Memory
  read login links links' n h (inl way) = asked nodes_question links links' n h way
  read login links links' n h (inr way) = wire_is h.fault way.2.0

  looked_until : (login : Option Credentials) (Shows : List NodeLine → Type 0) (n : ℕ) (words : List ℕ) (links links' : Links) (h : PortStop)
      → LooksUntil (AsksNode by) login nodes_question Shows n words links (Err h) links' → h.fault ≢ Memory
  looked_until login Shows n words links links' h (inl last) = read login last.1 links' n h last.3
  looked_until login Shows n words links links' h (inr over) = wire_is h.fault over.1.0

  role : (login : Option Credentials) (links links' : Links) (n : ℕ) (h : PortStop)
      → AsksRole (AsksNode by) login links n (Err h) links' → h.fault ≢ Memory
  role login links links' n h (inl way) = asked role_question links links' n h way
  role login links links' n h (inr way) = wire_is h.fault way.2.0

  module _ (x : PortSetup) (history : RunHistory) where
    met : (d : Duty) (links links' : Links) (h : PortStop) → Meets (AsksNode by) x history d links (Err h) links' → h.fault ≢ Memory
    met (KnowsEpoch s t) links links' h way = waited x.credentials (server_at x.book s).name s t links links' h way
    met (HasNews t) links links' h way =
        looked_until x.credentials (Shows x history (HasNews t)) t (unmet_text (HasNews t)) links links' h way
    met (ShowsOwner n slot t) links links' h way =
        looked_until x.credentials (Shows x history (ShowsOwner n slot t)) n (unmet_text (ShowsOwner n slot t)) links links' h way
    met (IsMaster s) links links' h (inl way) = role x.credentials links links' s h way
    met (IsMaster s) links links' h (inr way) = wire_is h.fault way.1.0
    met (OwnsSlot t slot) links links' h (inl way) = read x.credentials links links' t h way
    met (OwnsSlot t slot) links links' h (inr way) = wire_is h.fault way.3.0
    met (IsStillMaster s slot) links links' h (inl way) = role x.credentials links links' s h way
    met (IsStillMaster s slot) links links' h (inr way) = wire_is h.fault way.2.0

    all_met : (ds : List Duty) (links links' : Links) (h : PortStop) → MeetsAll (AsksNode by) x history ds links (Err h) links'
        → h.fault ≢ Memory
    all_met [] links links' h way = absurd way
    all_met (d ∷ ds) links links' h (inl way) = met d links links' h way
    all_met (d ∷ ds) links links' h (inr way) = all_met ds way.0 links' h way.2

    all_heard : (hs : List Hearer) (links links' : Links) (h : PortStop)
        → HearsAll (AsksNode by) x history hs links (Err h) links' → h.fault ≢ Memory
    all_heard [] links links' h way = absurd (no_end h way.0)
      where
        no_end : (h : PortStop) → ◌≡◌ {A = Result (Option (List ℕ)) PortStop} (Err h) (Ok None) → ⊥
        no_end h e = cc
    all_heard (s ∷ hs) links links' h (inl way) = all_heard hs way.0 links' h way.2
    all_heard (s ∷ hs) links links' h (inr last) = read x.credentials last.1 links' s.node h last.3

    ok_is : (r : AdminReply) → ◌≢◌ {A = Given} (Ok r) (Err Memory)
    ok_is r e = cc

    err_is : (f : PortFault) → f ≢ Memory → ◌≢◌ {A = Given} (Err f) (Err Memory)
    err_is f not e = not (same f e)
      where
        same : (f : PortFault) → ◌≡◌ {A = Given} (Err f) (Err Memory) → f ≡ Memory
        same f e = cc

    commanded : (request : List ℕ) (n : ℕ) (c : AdminCommand) (links links' : Links) (given : Given) (said : Option (List ℕ))
        → Commands (AsksNode by) x history request n c links given said links' → given ≢ Err Memory
    commanded request n c links links' (Ok reply) said way = ok_is reply
    commanded request n c links links' (Err f) said (inl way) =
        err_is f (asked (record { request = request; limit = limit_of c }) links links' n (record { fault = f; said = said }) way)
    commanded request n c links links' (Err f) said (inr way) = err_is f (wire_is f way.2.0)

    given_by : (given other : Given) → given ≡ other → other ≢ Err Memory → given ≢ Err Memory
    given_by given other same not e = not (sym same ∙ e)

    -- a command that was begun is never answered by memory that ran out
    pub sent : (n : ℕ) (c : AdminCommand) (links links' : Links) (given : Given) (said : Option (List ℕ))
        → Sends (AsksNode by) x history n c links given said links' → given ≢ Err Memory
    sent n c links links' given said (inl way) = confirmed way.5
      where
        confirmed : Confirms (AsksNode by) x history n c way.1 way.2 given said links' → given ≢ Err Memory
        confirmed (inl stands) = heard stands.2.0 stands.2.1 stands.2.2
          where
            own : way.1.given ≢ Err Memory
            own = commanded (request_of x.book x.timeout x.credentials c) n c way.0 way.2 way.1.given way.1.said way.4

            heard : (result : Result (Option (List ℕ)) PortStop)
                → HearsAll (AsksNode by) x history (hearers_done x.waits_for_news x.survey n c way.1.given) stands.0
                result links'
                → IsHeard way.1 result given said → given ≢ Err Memory
            heard (Ok None) hears is = given_by given way.1.given is.0 own
            heard (Ok (Some text)) hears is = given_by given way.1.given is.0 own
            heard (Err h) hears is = given_by given (Err h.fault) is.0 (err_is h.fault
                (all_heard (hearers_done x.waits_for_news x.survey n c way.1.given) stands.0 links' h hears))
        confirmed (inr stops) = given_by given (Err stops.0.fault) stops.2
            (err_is stops.0.fault (all_met (duties_done history x.survey n c way.1.given) way.2 links' stops.0 stops.1))
    sent n c links links' given said (inr way) = given_by given (Err way.0.fault) way.2
        (err_is way.0.fault (all_met (duties_before x.waits_for_news history x.survey n c) links links' way.0 way.1))
