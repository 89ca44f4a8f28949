-- What a run of calls writes to one connection.
use Rattle.std.proofs.Common.{◌≡◌, ◌≢◌, ◌∙◌, ℕ, zero, suc, ◌<◌, ◌==◌, Bool, true, false, cond, List, [], ◌∷◌, ◌++◌, length, Option, Some, None}
use Rattle.std.proofs.Common.{Ok, Err, refl, sym, ap, subst, inl, inr, get_or, set, append_assoc, append-nil, eq-eqb, ne_eqb, arith}
use Rattle.std.specs.Prelude.{slice_get, Result}
use Rattle.std.proofs.lemmas.Bool.{cases_eq}
use Rattle.std.proofs.lemmas.List.{get_or-set_same, get_or-set_other, length-set}
use Rattle.std.proofs.lemmas.Option.{slice_get-get_or, slice_get_within, get_or_from_slice_get}
use Rattle.cluster_admin.specs.declared.admin.AdminCommand.{AdminCommand}
use Rattle.listed_nodes.specs.declared.node_line.NodeLine.{NodeLine}
use Rattle.cluster_admin.specs.declared.admin.AdminFault.{AdminFault}
use Rattle.cluster_admin.specs.declared.admin.AdminReply.{AdminReply}
use Rattle.cluster_admin.specs.declared.call.AdminCall.{AdminCall}
use Rattle.cluster_admin.specs.declared.port_fault.PortFault.{PortFault}
use Rattle.resp2_wire.specs.declared.reply.Reply.{Reply}
use Rattle.server_commands.specs.Servers.{server_at}
use Rattle.server_commands.specs.Spelling.{nodes_request, request_of}
use Rattle.server_commands.specs.declared.credentials.Credentials.{Credentials}
use Rattle.server_links.specs.Links.{Exchanges}
use Rattle.server_links.specs.Asking.{AsksAt}
use Rattle.redis_servers.specs.Asking.{AsksNode, nodes_question}
use Rattle.server_links.specs.Streams.{Question, Streams}
use Rattle.server_links.specs.declared.link.Link as link
use Rattle.redis_servers.specs.Calls.{AnswersBy, Commands, Confirms, Given, IsHeard, Sends, limit_of, unsent_fault}
use Rattle.redis_servers.specs.RunHistories.{RunHistory}
use Rattle.redis_servers.specs.Duties.{duties_before, duties_done}
use Rattle.redis_servers.specs.Hearing.{LooksUp, Turn, Turns, Waits}
use Rattle.redis_servers.specs.Hearers.{hearers_done}
use Rattle.redis_servers.specs.Looking.{AsksRole, LastLook, LookTurns, LooksAt, LooksUntil, role_question, role_request}
use Rattle.redis_servers.specs.Meeting.{Hears, HearsAll, Meets, MeetsAll, Shows}
use Rattle.redis_servers.proofs.Listeners.{own_reply}
use Rattle.redis_servers.specs.Unmet.{unmet_text}
use Rattle.redis_servers.specs.Ports.{Moves}
use Rattle.redis_servers.specs.Runs.{AreSpellings, GoOn, Runs, RunsWriteSpellings, Takes, look, looks, sent_to, sent_unless}
use Rattle.redis_servers.specs.declared.commanding.Outcome.{Outcome}
use Rattle.redis_servers.specs.declared.duty.Duty.{Duty}
use Rattle.redis_servers.specs.declared.duty.Duty.TheVariants.{KnowsEpoch, HasNews, IsMaster, OwnsSlot, IsStillMaster, ShowsOwner}
use Rattle.redis_servers.specs.declared.port_stop.PortStop.{PortStop}
use Rattle.redis_servers.specs.declared.hearers.Hearer.{Hearer}
use Rattle.redis_servers.specs.declared.port.ServersPort as port
use Rattle.redis_servers.specs.declared.setup.PortSetup.{PortSetup}

no_halt : (late : Option (List ℕ)) (h : PortStop) → ◌≡◌ {A = Result (Option (List ℕ)) PortStop} (Err h) (Ok late) → ⊥
no_halt late h e = cc

-- ---- places of a list

pub some_at : {L : Type 0} (ls : List L) (n : ℕ) → n < length ls → (l : L) × (slice_get ls n ≡ Some l)
some_at [] n h = absurd (omega arith)
some_at (x ∷ xs) n h = (get_or (x ∷ xs) n x, slice_get-get_or (x ∷ xs) n x h)

pub set_here : {L : Type 0} (ls : List L) (n : ℕ) (l : L) → n < length ls → slice_get (set ls n l) n ≡ Some l
set_here ls n l h =
    slice_get-get_or (set ls n l) n l (subst (λ k. n < k) (sym (length-set ls n l)) h)
    ∙ ap (λ x. Some x) (get_or-set_same ls n l l h)

pub set_beside : {L : Type 0} (ls : List L) (m n : ℕ) (l old : L) → n ≢ m → slice_get ls n ≡ Some old
    → slice_get (set ls m l) n ≡ Some old
set_beside ls m n l old ne is =
    slice_get-get_or (set ls m l) n old (subst (λ k. n < k) (sym (length-set ls m l)) (slice_get_within ls n old is))
    ∙ ap (λ x. Some x) (get_or-set_other ls m n l old ne ∙ get_or_from_slice_get ls n old old is)

pub some_same : {L : Type 0} (a b : L) → Some a ≡ Some b → a ≡ b
some_same a b e = cc

-- ---- CLUSTER NODES and ROLE

-- some of them
abbrev AreLooks : List ℕ → Type 0
AreLooks bytes = (bs : List Bool) × (bytes ≡ looks bs)

looks_join : (bs cs : List Bool) → AreLooks (looks bs ++ looks cs)
looks_join [] cs = (cs, refl)
looks_join (b ∷ bs) cs =
    let more = looks_join bs cs in
    (b ∷ more.0, append_assoc (look b) (looks bs) (looks cs) ∙ ap (λ bs. look b ++ bs) more.1)

both_looks : (a b : List ℕ) → AreLooks a → AreLooks b → AreLooks (a ++ b)
both_looks a b x y =
    let both = looks_join x.0 y.0 in
    (both.0, ap (λ t. t ++ b) x.1 ∙ ap (λ t. looks x.0 ++ t) y.1 ∙ both.1)

looks_if : (role here : Bool) → AreLooks (cond here (look role) [])
looks_if role true = (role ∷ [], sym (append-nil (look role)))
looks_if role false = ([], refl)

-- ---- one connection

module _ {I O : Type 0} (by : Streams I O) (none : (x : O) → by.took x [] x)
    (both : (x y z : O) (a b : List ℕ) → by.took x a y → by.took y b z → by.took x (a ++ b) z) where
  abbrev There : List (link.Link I O) → ℕ → Type 0
  There links n = (l : link.Link I O) × (slice_get links n ≡ Some l)

  stays : (links : List (link.Link I O)) (n : ℕ) → There links n → Takes by links n [] links
  stays links n there = (there.0, there.0, there.1, there.1, none there.0.wire.writer)

  joins : (a b c : List (link.Link I O)) (n : ℕ) (x y : List ℕ) → Takes by a n x b → Takes by b n y c
      → Takes by a n (x ++ y) c
  joins a b c n x y first next = (
    first.0,
    next.1,
    first.2,
    next.3,
    both first.0.wire.writer first.1.wire.writer next.1.wire.writer x y first.4
        (subst (λ (l : link.Link I O). by.took l.wire.writer y next.1.wire.writer)
        (some_same next.0 first.1 (sym next.2 ∙ first.3)) next.4),
  )

  after_takes : (links links' : List (link.Link I O)) (n : ℕ) (bytes : List ℕ) → Takes by links n bytes links' → There links' n
  after_takes links links' n bytes takes = (takes.1, takes.3)

  asked : (links links' : List (link.Link I O)) (m n : ℕ) (q : Question) (r : Reply) → There links n
      → AsksNode by q links m (Ok r) links' → Takes by links n (cond (m == n) q.request []) links'
  asked links links' m n q r there way = elim (cases_eq n m) [
    | inl e ↦ subst (λ (b : Bool). Takes by links n (cond b q.request []) links') (sym (eq-eqb m n (sym e))) (here e)
    | inr ne ↦ subst (λ (b : Bool). Takes by links n (cond b q.request []) links') (sym (ne_eqb m n (λ e. ne (sym e)))) (beside ne)
  ]
    where
      asks : AsksAt (Exchanges by q.request) links m (Ok r) links'
      asks = way.0

      here : n ≡ m → Takes by links n q.request links'
      here e = (
        asks.0,
        asks.1,
        subst (λ k. slice_get links k ≡ Some asks.0) (sym e) asks.2,
        subst (λ (ls : List (link.Link I O)). slice_get ls n ≡ Some asks.1) (sym asks.4)
            (subst (λ k. slice_get (set links m asks.1) k ≡ Some asks.1) (sym e) (set_here links m asks.1 (slice_get_within links m asks.0 asks.2))),
        asks.3.1.0,
      )

      beside : n ≢ m → Takes by links n [] links'
      beside ne = (
        there.0,
        there.0,
        there.1,
        subst (λ (ls : List (link.Link I O)). slice_get ls n ≡ Some there.0) (sym asks.4) (set_beside links m n asks.1 there.0 ne there.1),
        none there.0.wire.writer,
      )

  -- how a server is asked for its nodes
  abbrev asks_nodes : List (link.Link I O) → ℕ → Result Reply PortStop → List (link.Link I O) → Type 0
  asks_nodes = AsksNode by nodes_question

  -- CLUSTER NODES and ROLE, some of them
  abbrev TakesLooks : List (link.Link I O) → ℕ → List (link.Link I O) → Type 0
  TakesLooks links n links' = (bytes : List ℕ) × AreLooks bytes × Takes by links n bytes links'

  no_looks : (links : List (link.Link I O)) (n : ℕ) → There links n → TakesLooks links n links
  no_looks links n there = ([], ([], refl), stays links n there)

  more_looks : (a b c : List (link.Link I O)) (n : ℕ) → TakesLooks a n b → TakesLooks b n c → TakesLooks a n c
  more_looks a b c n x y = (x.0 ++ y.0, both_looks x.0 y.0 x.1 y.1, joins a b c n x.0 y.0 x.2 y.2)

  looked_up : (login : Option Credentials) (name : List ℕ) (links links' : List (link.Link I O)) (m n : ℕ) (o : Option ℕ) → There links n
      → LooksUp asks_nodes login name links m (Ok o) links' → TakesLooks links n links'
  looked_up login name links links' m n o there looked =
      (cond (m == n) nodes_request [], looks_if false (m == n), asked links links' m n nodes_question looked.0 there looked.1)

  turned : (login : Option Credentials) (name : List ℕ) (links links' : List (link.Link I O)) (s t n : ℕ) (heard : Bool) → There links n
      → Turn asks_nodes login name s t links (Ok heard) links' → TakesLooks links n links'
  turned login name links links' s t n heard there turn =
      let first = looked_up login name links turn.2 s n turn.0 there turn.3 in
      more_looks links turn.2 links' n first
      (looked_up login name turn.2 links' t n turn.1 (after_takes links turn.2 n first.0 first.2) turn.4)

  all_turned : (login : Option Credentials) (name : List ℕ) (links links' : List (link.Link I O)) (s t n k : ℕ) → There links n
      → Turns asks_nodes login name s t k links links' → TakesLooks links n links'
  all_turned login name links links' s t n zero there turns =
      subst (λ (ls : List (link.Link I O)). TakesLooks links n ls) (sym turns) (no_looks links n there)
  all_turned login name links links' s t n (suc k) there turns =
      let before = all_turned login name links turns.0 s t n k there turns.1 in
      more_looks links turns.0 links' n before
      (turned login name turns.0 links' s t n false (after_takes links turns.0 n before.0 before.2) turns.2)

  waited : (login : Option Credentials) (name : List ℕ) (links links' : List (link.Link I O)) (s t n : ℕ) (u : Unit {0}) → There links n
      → Waits asks_nodes login name s t links (Ok u) links' → TakesLooks links n links'
  waited login name links links' s t n u there waits =
      let before = all_turned login name links waits.1 s t n waits.0 there waits.2 in
      more_looks links waits.1 links' n before
      (turned login name waits.1 links' s t n true (after_takes links waits.1 n before.0 before.2) waits.3)

  -- ---- one look

  lines_read : (login : Option Credentials) (links links' : List (link.Link I O)) (m n : ℕ) (ns : List NodeLine) → There links n
      → LooksAt (AsksNode by) login nodes_question links m (Ok ns) links' → TakesLooks links n links'
  lines_read login links links' m n ns there looks =
      (cond (m == n) nodes_request [], looks_if false (m == n), asked links links' m n nodes_question looks.0 there looks.1)

  role_read : (login : Option Credentials) (links links' : List (link.Link I O)) (m n : ℕ) (b : Bool) → There links n
      → AsksRole (AsksNode by) login links m (Ok b) links' → TakesLooks links n links'
  role_read login links links' m n b there asks =
      (cond (m == n) role_request [], looks_if true (m == n), asked links links' m n role_question asks.0 there asks.1)

  module _ (login : Option Credentials) (Shows : List NodeLine → Type 0) where
    all_looked : (links links' : List (link.Link I O)) (m n k : ℕ) → There links n
        → LookTurns (AsksNode by) login nodes_question Shows m k links links' → TakesLooks links n links'
    all_looked links links' m n zero there turns =
        subst (λ (ls : List (link.Link I O)). TakesLooks links n ls) (sym turns) (no_looks links n there)
    all_looked links links' m n (suc k) there turns =
        let before = all_looked links turns.0 m n k there turns.1 in
        more_looks links turns.0 links' n before
        (lines_read login turns.0 links' m n turns.2.0 (after_takes links turns.0 n before.0 before.2) turns.2.1)

    looked_last : (links links' : List (link.Link I O)) (m n : ℕ) (shown : Bool) → There links n
        → LastLook (AsksNode by) login nodes_question Shows m links (Ok shown) links' → TakesLooks links n links'
    looked_last links links' m n shown there waits =
        let before = all_looked links waits.1 m n waits.0 there waits.2 in
        more_looks links waits.1 links' n before
        (lines_read login waits.1 links' m n waits.3.0 (after_takes links waits.1 n before.0 before.2) waits.3.1)

    looked_until : (words : List ℕ) (links links' : List (link.Link I O)) (m n : ℕ) → There links n
        → LooksUntil (AsksNode by) login nodes_question Shows m words links (Ok tt) links' → TakesLooks links n links'
    looked_until words links links' m n there waits = looked_last links links' m n true there waits

  -- ---- what servers have to show

  module _ (x : PortSetup) (history : RunHistory) where
    met : (d : Duty) (links links' : List (link.Link I O)) (n : ℕ) → There links n
        → Meets (AsksNode by) x history d links (Ok tt) links' → TakesLooks links n links'
    met (KnowsEpoch s t) links links' n there meets =
        waited x.credentials (server_at x.book s).name links links' s t n tt there meets
    met (HasNews t) links links' n there meets =
        looked_until x.credentials (Shows x history (HasNews t)) (unmet_text (HasNews t)) links links' t n there meets
    met (ShowsOwner m slot t) links links' n there meets =
        looked_until x.credentials (Shows x history (ShowsOwner m slot t)) (unmet_text (ShowsOwner m slot t)) links links' m n there meets
    met (IsMaster s) links links' n there meets = role_read x.credentials links links' s n true there meets
    met (OwnsSlot t slot) links links' n there meets =
        lines_read x.credentials links links' t n meets.0 there meets.1
    met (IsStillMaster s slot) links links' n there meets =
        role_read x.credentials links links' s n meets.0 there meets.1

    all_met : (ds : List Duty) (links links' : List (link.Link I O)) (n : ℕ) → There links n
        → MeetsAll (AsksNode by) x history ds links (Ok tt) links' → TakesLooks links n links'
    all_met [] links links' n there meets =
        subst (λ (ls : List (link.Link I O)). TakesLooks links n ls) (sym meets) (no_looks links n there)
    all_met (d ∷ ds) links links' n there meets =
        let first = met d links meets.0 n there meets.1 in
        more_looks links meets.0 links' n first
        (all_met ds meets.0 links' n (after_takes links meets.0 n first.0 first.2) meets.2)

    heard : (h : Hearer) (shown : Bool) (links links' : List (link.Link I O)) (n : ℕ) → There links n
        → Hears (AsksNode by) x history h links (Ok shown) links' → TakesLooks links n links'
    heard h shown links links' n there hears =
        looked_last x.credentials (Shows x history (ShowsOwner h.node h.slot h.owner)) links links' h.node n shown there
        hears

    all_heard : (hs : List Hearer) (result : Result (Option (List ℕ)) PortStop) (links links' : List (link.Link I O))
        (n : ℕ) → ((o : Option (List ℕ)) × (result ≡ Ok o)) → There links n
        → HearsAll (AsksNode by) x history hs links result links' → TakesLooks links n links'
    all_heard [] result links links' n ok there hears =
        subst (λ (ls : List (link.Link I O)). TakesLooks links n ls) (sym hears.1) (no_looks links n there)
    all_heard (h ∷ hs) result links links' n ok there (inl hears) =
        let first = heard h true links hears.0 n there hears.1 in
        more_looks links hears.0 links' n first
        (all_heard hs result hears.0 links' n ok (after_takes links hears.0 n first.0 first.2) hears.2)
    all_heard (h ∷ hs) (Ok None) links links' n ok there (inr ends) = absurd ends
    all_heard (h ∷ hs) (Ok (Some text)) links links' n ok there (inr ends) =
        heard h false links links' n there ends.0
    all_heard (h ∷ hs) (Err port_stop) links links' n ok there (inr ends) = absurd (no_halt ok.0 port_stop ok.1)

  -- ---- one call

  -- what is sent for the sake of the call, with CLUSTER NODES and ROLE before it and after it
  abbrev TakesCall : List (link.Link I O) → ℕ → (sent : List ℕ) → List (link.Link I O) → Type 0
  TakesCall links n sent links' =
      (before : List Bool) × (after : List Bool) × Takes by links n (looks before ++ (sent ++ looks after)) links'

  commanded : (x : PortSetup) (history : RunHistory) (request : List ℕ) (m n : ℕ) (c : AdminCommand) (links links' : List (link.Link I O))
      (given : Given) (reply : AdminReply) (said : Option (List ℕ)) → There links n → given ≡ Ok reply
      → Commands (AsksNode by) x history request m c links given said links' → Takes by links n (cond (m == n) request []) links'
  commanded x history request m n c links links' given reply said there is way =
      let ok = subst (λ (g : Given). Commands (AsksNode by) x history request m c links g said links') is way in
      asked links links' m n (record { request = request; limit = limit_of c }) ok.0 there ok.1

  not_both : (r : AdminReply) (f : PortFault) → ◌≡◌ {A = Result AdminReply PortFault} (Ok r) (Err f) → ⊥
  not_both r f e = cc

  -- a reply that stands comes of servers that were all asked
  some_heard : (o : Outcome) (heard : Result (Option (List ℕ)) PortStop) (r : AdminReply) (said : Option (List ℕ))
      → IsHeard o heard (Ok r) said → (late : Option (List ℕ)) × (heard ≡ Ok late)
  some_heard o (Ok late) r said is = (late, refl)
  some_heard o (Err h) r said is = absurd (not_both r h.fault is.0)

  abbrev spelt : PortSetup → AdminCommand → List ℕ
  spelt x c = request_of x.book x.timeout x.credentials c

  sent : (x : PortSetup) (history : RunHistory) (m n : ℕ) (c : AdminCommand) (links links' : List (link.Link I O)) (reply : AdminReply)
      (said : Option (List ℕ)) → There links n → Sends (AsksNode by) x history m c links (Ok reply) said links'
      → TakesCall links n (cond (m == n) (spelt x c) []) links'
  sent x history m n c links links' reply said there (inl way) = confirmed way.5
    where
      before : TakesLooks links n way.0
      before = all_met x history (duties_before x.waits_for_news history x.survey m c) links way.0 n there way.3

      confirmed : Confirms (AsksNode by) x history m c way.1 way.2 (Ok reply) said links'
          → TakesCall links n (cond (m == n) (spelt x c) []) links'
      confirmed (inl stands) =
          let heard = stands.2.0 in
          let own : way.1.given ≡ Ok reply = own_reply way.1 heard reply said stands.2.2 in
          let now : Takes by way.0 n (cond (m == n) (spelt x c) []) way.2 =
          commanded x history (spelt x c) m n c way.0 way.2 way.1.given reply way.1.said
          (after_takes links way.0 n before.0 before.2) own way.4 in
          let met = all_met x history (duties_done history x.survey m c way.1.given) way.2 stands.0 n
          (after_takes way.0 way.2 n (cond (m == n) (spelt x c) []) now) stands.1 in
          let after = more_looks way.2 stands.0 links' n met
          (all_heard x history (hearers_done x.waits_for_news x.survey m c way.1.given) heard stands.0 links' n
          (some_heard way.1 heard reply said stands.2.2) (after_takes way.2 stands.0 n met.0 met.2) stands.2.1) in (
            before.1.0,
            after.1.0,
            subst (λ (front : List ℕ). Takes by links n (front ++ (cond (m == n) (spelt x c) [] ++ looks after.1.0)) links') before.1.1
                (subst (λ (back : List ℕ). Takes by links n (before.0 ++ (cond (m == n) (spelt x c) [] ++ back)) links') after.1.1
                (joins links way.0 links' n before.0 (cond (m == n) (spelt x c) [] ++ after.0) before.2
                (joins way.0 way.2 links' n (cond (m == n) (spelt x c) []) after.0 now after.2))),
          )
      confirmed (inr stops) = absurd (not_both reply stops.0.fault stops.2)
  sent x history m n c links links' reply said there (inr way) = absurd (not_both reply way.0.fault way.2)

  answered : (o : Option AdminFault) (x : PortSetup) (history : RunHistory) (m n : ℕ) (c : AdminCommand) (links links' : List (link.Link I O))
      (reply : AdminReply) (said : Option (List ℕ)) → There links n
      → AnswersBy (AsksNode by) o x history m c links (Ok reply) said links'
      → TakesCall links n (sent_unless o (m == n) (request_of x.book x.timeout x.credentials c)) links'
  answered (Some f) x history m n c links links' reply said there way =
      ([], [], subst (λ (ls : List (link.Link I O)). Takes by links n [] ls) (sym way.2) (stays links n there))
  answered None x history m n c links links' reply said there way = sent x history m n c links links' reply said there way

  -- ---- a run

  module _ {P : Type 0} where
    moved : (p q : port.ServersPort I O P) (c : AdminCall) (n : ℕ) → There p.links.items n → Moves by p c q
        → TakesCall p.links.items n (sent_to p.setup n c) q.links.items
    moved p q c n there moves =
        answered (unsent_fault (length p.setup.book) c.node c.command) p.setup p.history c.node n c.command p.links.items q.links.items
        c.reply q.said there moves.answers

    ran : (p q : port.ServersPort I O P) (calls : List AdminCall) (n : ℕ) → There p.links.items n → Runs by p calls q
        → (bytes : List ℕ) × Takes by p.links.items n bytes q.links.items × AreSpellings p.setup n calls bytes
    ran p q [] n there runs =
        ([], subst (λ (r : port.ServersPort I O P). Takes by p.links.items n [] r.links.items) (sym runs) (stays p.links.items n there), refl)
    ran p q (c ∷ cs) n there runs =
        let mid = runs.0 in
        let sent : List ℕ = sent_to p.setup n c in
        let first = moved p mid c n there runs.1 in
        let later = ran mid q cs n (after_takes p.links.items mid.links.items n (looks first.0 ++ (sent ++ looks first.1)) first.2) runs.2 in (
          (looks first.0 ++ (sent ++ looks first.1)) ++ later.0,
          joins p.links.items mid.links.items q.links.items n (looks first.0 ++ (sent ++ looks first.1)) later.0 first.2 later.1,
          (
            first.0,
            first.1,
            later.0,
            append_assoc (looks first.0) (sent ++ looks first.1) later.0
                ∙ ap (λ (back : List ℕ). looks first.0 ++ back) (append_assoc sent (looks first.1) later.0),
            subst (λ (x : PortSetup). AreSpellings x n cs later.0) runs.1.setup later.2,
          ),
        )

    goes_on : (p q : port.ServersPort I O P) (calls : List AdminCall) → Runs by p calls q → GoOn calls
    goes_on p q [] runs = tt
    goes_on p q (c ∷ []) runs = tt
    goes_on p q (c ∷ (next ∷ cs)) runs =
        (sym runs.1.stopped ∙ runs.2.1.open_before, goes_on runs.0 q (next ∷ cs) runs.2)

  pub runs_write : (P : Type 0) → RunsWriteSpellings by P
  runs_write P p q calls many runs = (
    goes_on p q calls runs,
    λ n h. ran p q calls n (some_at p.links.items n (subst (λ k. n < k) (sym many) h)) runs,
  )
