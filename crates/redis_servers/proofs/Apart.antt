-- What goes over the connection to one node has nothing to do with the others.
use Rattle.std.proofs.Common.{◌≡◌, ◌≢◌, ◌∙◌, ℕ, ◌==◌, false, List, [], ◌∷◌, length, Option, Some, Ok, Err}
use Rattle.std.proofs.Common.{refl, sym, ap, subst, inl, inr, set, eq-eqb, set-set}
use Rattle.std.specs.Prelude.{slice_get, Result}
use Rattle.std.proofs.lemmas.Bool.{both_ways, or_parts}
use Rattle.std.proofs.lemmas.List.{length-set, set_comm}
use Rattle.std.proofs.lemmas.Option.{slice_get_within}
use Rattle.cluster_admin.specs.declared.admin.AdminCommand.{AdminCommand}
use Rattle.cluster_admin.specs.Phases.{among}
use Rattle.resp2_wire.specs.declared.reply.Reply.{Reply}
use Rattle.server_links.proofs.InTwo.{sent_then_received}
use Rattle.server_links.specs.Asking.{AsksAt}
use Rattle.server_links.specs.Links.{Exchanges, Receives, Sends}
use Rattle.server_links.specs.Streams.{Question, Streams}
use Rattle.server_links.specs.declared.link.Link as link
use Rattle.redis_servers.proofs.Writing.{set_beside, set_here, some_same}
use Rattle.redis_servers.specs.Asking.{AsksNode, HearsFrom, IsSilent, SendsTo}
use Rattle.redis_servers.specs.Calls.{Commands, Given, limit_of}
use Rattle.redis_servers.specs.RunHistories.{RunHistory}
use Rattle.redis_servers.specs.InOneGo.{Finishes, TellsEach}
use Rattle.redis_servers.specs.Saying.{SaysWhy}
use Rattle.redis_servers.specs.declared.commanding.Outcome.{Outcome}
use Rattle.redis_servers.specs.declared.port_stop.PortStop.{PortStop}
use Rattle.redis_servers.specs.declared.setup.PortSetup.{PortSetup}

-- ---- numbers that are not in a list

pub other_than : (m n : ℕ) (ns : List ℕ) → among m (n ∷ ns) ≡ false → n ≢ m
other_than m n ns e same = both_ways (m == n) (or_parts (m == n) (among m ns) e).0 (eq-eqb m n (sym same))

pub not_later : (m n : ℕ) (ns : List ℕ) → among m (n ∷ ns) ≡ false → among m ns ≡ false
not_later m n ns e = (or_parts (m == n) (among m ns) e).1

-- ---- one of several places

module _ {L A : Type 0} (asks : L → A → L → Type 0) where
  -- another place holds something else
  at_beside : (links links' : List L) (n m : ℕ) (a : A) (x : L) → n ≢ m → AsksAt asks links n a links'
      → AsksAt asks (set links m x) n a (set links' m x)
  at_beside links links' n m a x ne way = (
    way.0,
    way.1,
    set_beside links m n x way.0 ne way.2,
    way.3,
    ap (λ (ls : List L). set ls m x) way.4 ∙ set_comm links n m way.1 x ne,
  )

  -- and stays as it is
  at_stays : (links links' : List L) (n m : ℕ) (a : A) (l : L) → n ≢ m → AsksAt asks links n a links'
      → slice_get links m ≡ Some l → slice_get links' m ≡ Some l
  at_stays links links' n m a l ne way is =
      subst (λ (ls : List L). slice_get ls m ≡ Some l) (sym way.4) (set_beside links n m way.1 l (λ e. ne (sym e)) is)

  at_length : (links links' : List L) (n : ℕ) (a : A) → AsksAt asks links n a links' → length links' ≡ length links
  at_length links links' n a way = ap length way.4 ∙ length-set links n way.1

-- ---- connections

module _ {I O : Type 0} (by : Streams I O) where
  abbrev Links : Type 0
  Links = List (link.Link I O)

  silent_beside : (links : Links) (n m : ℕ) (x : link.Link I O) (said : Option (List ℕ)) → n ≢ m
      → IsSilent n links said → IsSilent n (set links m x) said
  silent_beside links n m x said ne is = (is.0, set_beside links m n x is.0 ne is.1, is.2)

  node_beside : (q : Question) (links links' : Links) (n m : ℕ) (r : Result Reply PortStop) (x : link.Link I O) → n ≢ m
      → AsksNode by q links n r links' → AsksNode by q (set links m x) n r (set links' m x)
  node_beside q links links' n m (Ok r) x ne way =
      (at_beside (Exchanges by q.request) links links' n m (Ok r) x ne way.0, way.1)
  node_beside q links links' n m (Err h) x ne way = (
    at_beside (Exchanges by q.request) links links' n m (Err h.fault) x ne way.0,
    silent_beside links' n m x h.said ne way.1,
  )

  node_stays : (q : Question) (links links' : Links) (n m : ℕ) (r : Result Reply PortStop) (l : link.Link I O) → n ≢ m
      → AsksNode by q links n r links' → slice_get links m ≡ Some l → slice_get links' m ≡ Some l
  node_stays q links links' n m (Ok r) l ne way is =
      at_stays (Exchanges by q.request) links links' n m (Ok r) l ne way.0 is
  node_stays q links links' n m (Err h) l ne way is =
      at_stays (Exchanges by q.request) links links' n m (Err h.fault) l ne way.0 is

  node_length : (q : Question) (links links' : Links) (n : ℕ) (r : Result Reply PortStop) → AsksNode by q links n r links'
      → length links' ≡ length links
  node_length q links links' n (Ok r) way = at_length (Exchanges by q.request) links links' n (Ok r) way.0
  node_length q links links' n (Err h) way = at_length (Exchanges by q.request) links links' n (Err h.fault) way.0

  -- ---- commands

  module _ (setup : PortSetup) (history : RunHistory) (request : List ℕ) (c : AdminCommand) where
    abbrev asked : Question
    asked = record { request = request; limit = limit_of c }

    abbrev heard : Question
    heard = record { request = []; limit = limit_of c }

    command_beside : (links links' : Links) (n m : ℕ) (given : Given) (said : Option (List ℕ)) (x : link.Link I O) → n ≢ m
        → Commands (AsksNode by) setup history request n c links given said links'
        → Commands (AsksNode by) setup history request n c (set links m x) given said (set links' m x)
    command_beside links links' n m (Ok reply) said x ne way =
        (way.0, node_beside asked links links' n m (Ok way.0) x ne way.1, way.2)
    command_beside links links' n m (Err f) said x ne (inl way) =
        inl (node_beside asked links links' n m (Err (record { fault = f; said = said })) x ne way)
    command_beside links links' n m (Err f) said x ne (inr way) =
        inr (way.0, node_beside asked links links' n m (Ok way.0) x ne way.1, way.2)

    command_stays : (links links' : Links) (n m : ℕ) (given : Given) (said : Option (List ℕ)) (l : link.Link I O) → n ≢ m
        → Commands (AsksNode by) setup history request n c links given said links' → slice_get links m ≡ Some l
        → slice_get links' m ≡ Some l
    command_stays links links' n m (Ok reply) said l ne way is = node_stays asked links links' n m (Ok way.0) l ne way.1 is
    command_stays links links' n m (Err f) said l ne (inl way) is =
        node_stays asked links links' n m (Err (record { fault = f; said = said })) l ne way is
    command_stays links links' n m (Err f) said l ne (inr way) is =
        node_stays asked links links' n m (Ok way.0) l ne way.1 is

    pub command_length : (links links' : Links) (n : ℕ) (given : Given) (said : Option (List ℕ))
        → Commands (AsksNode by) setup history request n c links given said links' → length links' ≡ length links
    command_length links links' n (Ok reply) said way = node_length asked links links' n (Ok way.0) way.1
    command_length links links' n (Err f) said (inl way) =
        node_length asked links links' n (Err (record { fault = f; said = said })) way
    command_length links links' n (Err f) said (inr way) = node_length asked links links' n (Ok way.0) way.1

    -- ---- several nodes

    each_beside : (ns : List ℕ) (links links' : Links) (m : ℕ) (os : List Outcome) (x : link.Link I O) → among m ns ≡ false
        → TellsEach (AsksNode by) setup history request c links ns os links'
        → TellsEach (AsksNode by) setup history request c (set links m x) ns os (set links' m x)
    each_beside [] links links' m os x apart each = (each.0, ap (λ (ls : Links). set ls m x) each.1)
    each_beside (n ∷ ns) links links' m os x apart each = (
      each.0,
      each.1,
      set each.2 m x,
      each.3,
      command_beside links each.2 n m each.0.given each.0.said x (other_than m n ns apart) each.4,
      each_beside ns each.2 links' m each.1 x (not_later m n ns apart) each.5,
    )

    each_stays : (ns : List ℕ) (links links' : Links) (m : ℕ) (os : List Outcome) (l : link.Link I O) → among m ns ≡ false
        → TellsEach (AsksNode by) setup history request c links ns os links' → slice_get links m ≡ Some l
        → slice_get links' m ≡ Some l
    each_stays [] links links' m os l apart each is =
        subst (λ (ls : Links). slice_get ls m ≡ Some l) (sym each.1) is
    each_stays (n ∷ ns) links links' m os l apart each is =
        each_stays ns each.2 links' m each.1 l (not_later m n ns apart) each.5
        (command_stays links each.2 n m each.0.given each.0.said l (other_than m n ns apart) each.4 is)

    -- ---- a node that was sent to, and is heard later

    -- the connection to the node is another one in both lists, and over the first the node was asked at once
    abbrev Heard : (ask : Links → Links → Type 0) → (links later later' : Links) → (n : ℕ) → Type 0
    Heard ask links later later' n = (x : link.Link I O) × (later' ≡ set later n x) × ask links (set links n x)

    heard_after : (links mid later later' : Links) (n : ℕ) (u : Unit {0}) (r : Result Reply PortStop)
        (sent : AsksAt (Sends by request) links n (Ok u) mid) → slice_get later n ≡ Some sent.1
        → HearsFrom by heard later n r later' → Heard (λ a b. AsksNode by asked a n r b) links later later' n
    heard_after links mid later later' n u (Ok r) sent there hears =
        let same : sent.1 ≡ hears.0.0 = some_same sent.1 hears.0.0 (sym there ∙ hears.0.2) in (
          hears.0.1,
          hears.0.4,
          (
            (
              sent.0,
              hears.0.1,
              sent.2,
              sent_then_received by request sent.0 sent.1 hears.0.1 u (Ok r) sent.3
                  (subst (λ (l : link.Link I O). Receives by l (Ok r) hears.0.1) (sym same) hears.0.3),
              refl,
            ),
            hears.1,
          ),
        )
    heard_after links mid later later' n u (Err h) sent there hears =
        let same : sent.1 ≡ hears.0.0 = some_same sent.1 hears.0.0 (sym there ∙ hears.0.2) in
        let here : slice_get later' n ≡ Some hears.0.1 =
        ap (λ (ls : Links). slice_get ls n) hears.0.4
        ∙ set_here later n hears.0.1 (slice_get_within later n hears.0.0 hears.0.2) in
        let this : hears.1.0 ≡ hears.0.1 = some_same hears.1.0 hears.0.1 (sym hears.1.1 ∙ here) in (
          hears.0.1,
          hears.0.4,
          (
            (
              sent.0,
              hears.0.1,
              sent.2,
              sent_then_received by request sent.0 sent.1 hears.0.1 u (Err h.fault) sent.3
                  (subst (λ (l : link.Link I O). Receives by l (Err h.fault) hears.0.1) (sym same) hears.0.3),
              refl,
            ),
            (
              hears.0.1,
              set_here links n hears.0.1 (slice_get_within links n sent.0 sent.2),
              subst (λ (l : link.Link I O). SaysWhy n l.fault h.said) this hears.1.2,
            ),
          ),
        )

    commanded_after : (links mid later later' : Links) (n : ℕ) (u : Unit {0}) (given : Given) (said : Option (List ℕ))
        (sent : AsksAt (Sends by request) links n (Ok u) mid) → slice_get later n ≡ Some sent.1
        → Commands (HearsFrom by) setup history [] n c later given said later'
        → Heard (λ a b. Commands (AsksNode by) setup history request n c a given said b) links later later' n
    commanded_after links mid later later' n u (Ok reply) said sent there way =
        let x = heard_after links mid later later' n u (Ok way.0) sent there way.1 in (x.0, x.1, (way.0, x.2, way.2))
    commanded_after links mid later later' n u (Err f) said sent there (inl way) =
        let x = heard_after links mid later later' n u (Err (record { fault = f; said = said })) sent there way in
        (x.0, x.1, inl x.2)
    commanded_after links mid later later' n u (Err f) said sent there (inr way) =
        let x = heard_after links mid later later' n u (Ok way.0) sent there way.1 in (x.0, x.1, inr (way.0, x.2, way.2))

    -- the node is sent to, the others are told, and then the node is heard
    pub around : (links mid later later' : Links) (n : ℕ) (ns : List ℕ) (sent : Result (Unit {0}) PortStop) (o : Outcome)
        (os : List Outcome) → among n ns ≡ false → SendsTo by request links n sent mid
        → TellsEach (AsksNode by) setup history request c mid ns os later
        → Finishes (HearsFrom by) setup history n c sent later o.given o.said later'
        → TellsEach (AsksNode by) setup history request c links (n ∷ ns) (o ∷ os) later'
    around links mid later later' n ns (Ok u) o os apart sent each way =
        let here : slice_get mid n ≡ Some sent.1 =
        ap (λ (ls : Links). slice_get ls n) sent.4
        ∙ set_here links n sent.1 (slice_get_within links n sent.0 sent.2) in
        let x = commanded_after links mid later later' n u o.given o.said sent
        (each_stays ns mid later n os sent.1 apart each here) way in
        let replaced : set mid n x.0 ≡ set links n x.0 =
        ap (λ (ls : Links). set ls n x.0) sent.4 ∙ set-set links n sent.1 x.0 in (
          o,
          os,
          set links n x.0,
          refl,
          x.2,
          subst (λ (a : Links). TellsEach (AsksNode by) setup history request c a ns os later') replaced
              (subst (λ (b : Links). TellsEach (AsksNode by) setup history request c (set mid n x.0) ns os b) (sym x.1)
              (each_beside ns mid later n os x.0 apart each)),
        )
    around links mid later later' n ns (Err h) o os apart sent each way = (
      o,
      os,
      mid,
      refl,
      subst (λ (g : Given). Commands (AsksNode by) setup history request n c links g o.said mid) (sym way.0)
          (subst (λ (t : Option (List ℕ)). Commands (AsksNode by) setup history request n c links (Err h.fault) t mid) (sym way.1) (inl sent)),
      subst (λ (b : Links). TellsEach (AsksNode by) setup history request c mid ns os b) (sym way.2) each,
    )
