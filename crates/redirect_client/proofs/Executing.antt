-- The ASKING of what clients execute.
use Rattle.std.proofs.Common.{◌≡◌, ℕ, Bool, true, ◌⊎◌, List, [], ◌∷◌, ◌++◌, Result, Ok, Err, refl, sym, ap, subst, ◌∙◌, inl, inr, append_assoc, append-nil, length}
use Rattle.resp2_wire.specs.declared.reply.Reply.{Reply}
use Rattle.client_commands.specs.declared.command.Command.{Command}
use Rattle.key_slots.specs.Owners.{Owners}
use Rattle.cluster_world.specs.Worlds.{World}
use Rattle.cluster_world.specs.Steps.{Run}
use Rattle.cluster_world.specs.Static.{AreClients}
use Rattle.cluster_world.specs.Ports as call
use Rattle.cluster_world.specs.Ports.{Answer, Call, Execute, Send, Chain, IsSent}
use Rattle.cluster_world.specs.Sends.{event_of, events_of}
use Rattle.cluster_world.specs.Honesty.{IsNoImport}
use Rattle.cluster_admin.specs.declared.port_fault.PortFault.{PortFault}
use Rattle.cluster_admin.specs.declared.port_fault.PortFault.TheVariants.{Memory}
use Rattle.cluster_world.specs.declared.event.Event.{Event}
use Rattle.cluster_world.specs.declared.event.Event.TheVariants.{Client, Look, Admin}
use Rattle.cluster_world.proofs.Chained.{sends_are_runs}
use Rattle.redirect_client.specs.ClientView.{ClientView}
use Rattle.redirect_client.specs.Turns.{Turn, call_of, slot_of_command, IsRedirected}
use Rattle.redirect_client.specs.Executions.{Follows, first_turn, Executes, Ends, last_send}
use Rattle.redirect_client.specs.HonestClients.{IsSend, StandIn, AsksNext, AsksByClients}
use Rattle.redirect_client.specs.WorldExecutions.{ExecutionsAreRuns, AskingJoins}
use Rattle.redirect_client.specs.declared.client_fault.ClientFault.{ClientFault}
use Rattle.redirect_client.proofs.Following.{chain_more}
use Rattle.redirect_client.proofs.Honestly.{call_is}

-- ---- sends that stand among events

module _ (P : Event → Type 0) where
  stands_later : (xs : List Send) (e : Event) (es : List Event) → StandIn P xs es → StandIn P xs (e ∷ es)
  stands_later [] e es s = tt
  stands_later (x ∷ xs) e es s = inr s

  stands_after : (es : List Event) (xs : List Send) (fs : List Event) → StandIn P xs fs → StandIn P xs (es ++ fs)
  stands_after [] xs fs s = s
  stands_after (e ∷ es) xs fs s = stands_later xs e (es ++ fs) (stands_after es xs fs s)

  one_stands : (x : Send) (e : Event) → IsSend x e → (es : List Event) → StandIn P (x ∷ []) (es ++ e ∷ [])
  one_stands x e is [] = inl (is, tt, λ _. tt)
  one_stands x e is (y ∷ es) = inr (one_stands x e is es)

  some_sent : (xs : List Send) (x : Send) → xs ++ x ∷ [] ≡ [] → ⊥
  some_sent [] x e = cc
  some_sent (y ∷ ys) x e = cc

  stands_more : (xs : List Send) (es : List Event) (x : Send) (e : Event) → IsSend x e → StandIn P xs es → StandIn P (xs ++ x ∷ []) (es ++ e ∷ [])
  stands_more [] es x e is s = one_stands x e is es
  stands_more (z ∷ zs) [] x e is s = absurd s
  stands_more (z ∷ zs) (y ∷ es) x e is (inl s) = inl (s.0, stands_more zs es x e is s.1, λ none. absurd (some_sent zs x none))
  stands_more (z ∷ zs) (y ∷ es) x e is (inr s) = inr (stands_more (z ∷ zs) es x e is s)

-- ---- events one after the other

abbrev Splits : List Event → List Event → List Event → Event → List Event → Type 0
Splits es fs prefix e rest = ((r : List Event) × (es ≡ prefix ++ e ∷ r)) ⊎ ((f : List Event) × (prefix ≡ es ++ f) × (fs ≡ f ++ e ∷ rest))

first_same : (x y : Event) (xs ys : List Event) → x ∷ xs ≡ y ∷ ys → x ≡ y
first_same x y xs ys e = cc

rest_same : (x y : Event) (xs ys : List Event) → x ∷ xs ≡ y ∷ ys → xs ≡ ys
rest_same x y xs ys e = cc

splits : (es fs prefix : List Event) (e : Event) (rest : List Event) → es ++ fs ≡ prefix ++ e ∷ rest → Splits es fs prefix e rest
splits [] fs prefix e rest is = inr (prefix, refl, is)
splits (x ∷ es) fs [] e rest is = inl (es, ap (λ y. y ∷ es) (first_same x e (es ++ fs) rest is))
splits (x ∷ es) fs (y ∷ prefix) e rest is = elim (splits es fs prefix e rest (rest_same x y (es ++ fs) (prefix ++ e ∷ rest) is)) [
  | inl a ↦ inl (a.0, ap (λ z. z ∷ es) (first_same x y (es ++ fs) (prefix ++ e ∷ rest) is) ∙ ap (λ l. y ∷ l) a.1)
  | inr b ↦ inr (b.0, ap (λ z. z ∷ prefix) (sym (first_same x y (es ++ fs) (prefix ++ e ∷ rest) is)) ∙ ap (λ l. x ∷ l) b.1, b.2)
]

after_more : (P : Event → Type 0) (port : ℕ) (es so_far : List Event) (n : ℕ) (c : Command) → AsksNext P port so_far n c → AsksNext P port (es ++ so_far) n c
after_more P port es so_far n c a = record {
  believed = a.believed;
  sent = a.sent;
  turn = a.turn;
  follows = a.follows;
  lies = stands_after P es a.sent so_far a.lies;
  next = a.next;
}

joined : (port : ℕ) (es fs : List Event) → AsksByClients port es → AsksByClients port fs → AsksByClients port (es ++ fs)
joined port es fs a b so_far rest seat n c r is = elim (splits es fs so_far (Client seat n true c r) rest is) [
  | inl x ↦ a so_far x.0 seat n c r x.1
  | inr y ↦ (let P : Event → Type 0 = IsNoImport (slot_of_command c) n in
      subst (λ l. AsksNext P port l n c) (sym y.1) (after_more P port es y.0 n c (b y.0 rest seat n c r y.2)))
]

pub asking_joins : AskingJoins
asking_joins = record { joined = joined; others = λ port es none so_far rest seat n c r is. absurd (none so_far rest seat n c r is) }

-- ---- one execution

abbrev AsksAfter : (port : ℕ) → List Event → List Event → Type 0
AsksAfter port pre events = (prefix rest : List Event) (seat n : ℕ) (c : Command) (r : Reply) → events ≡ prefix ++ Client seat n true c r ∷ rest
    → AsksNext (IsNoImport (slot_of_command c) n) port (pre ++ prefix) n c

nil_after : (es : List Event) → es ++ [] ≡ es
nil_after [] = refl
nil_after (e ∷ es) = ap (λ l. e ∷ l) (nil_after es)

none_asks : (port : ℕ) (pre : List Event) → AsksAfter port pre []
none_asks port pre prefix rest seat n c r is = absurd (nothing prefix (Client seat n true c r) is)
  where
    nothing : (prefix : List Event) (e : Event) → [] ≡ prefix ++ e ∷ rest → ⊥
    nothing [] e is = cc
    nothing (x ∷ xs) e is = cc

node_is : (k m l n : ℕ) (b a : Bool) (c d : Command) (r q : Reply) → Client k m b c r ≡ Client l n a d q → m ≡ n
node_is k m l n b a c d r q e = cc

asking_is : (k m l n : ℕ) (b a : Bool) (c d : Command) (r q : Reply) → Client k m b c r ≡ Client l n a d q → b ≡ a
asking_is k m l n b a c d r q e = cc

command_is : (k m l n : ℕ) (b a : Bool) (c d : Command) (r q : Reply) → Client k m b c r ≡ Client l n a d q → c ≡ d
command_is k m l n b a c d r q e = cc

module _ (port seat : ℕ) (c : Command) (believed : Owners) where
  -- the event of the next call, with some reply
  here_asks : (pre : List Event) (sent : List Send) (t : Turn) → Follows port c believed sent t → ((P : Event → Type 0) → StandIn P sent pre)
      → (m : ℕ) (b : Bool) (r : Reply) → call_of c t ≡ Execute m b c
      → (l n : ℕ) (d : Command) (q : Reply) → Client seat m b c r ≡ Client l n true d q → AsksNext (IsNoImport (slot_of_command d) n) port pre n d
  here_asks pre sent t follows lies m b r call l n d q e =
      subst (λ x. AsksNext (IsNoImport (slot_of_command x) n) port pre n x) (command_is seat m l n b true c d r q e) (record {
        believed = believed;
        sent = sent;
        turn = t;
        follows = follows;
        lies = lies (IsNoImport (slot_of_command c) n);
        next = call ∙ (λ i. Execute (node_is seat m l n b true c d r q e i) (asking_is seat m l n b true c d r q e i) c);
      })

  first_asks : (pre : List Event) (sent : List Send) (t : Turn) → Follows port c believed sent t → ((P : Event → Type 0) → StandIn P sent pre)
      → (m : ℕ) (b : Bool) (r : Reply) → call_of c t ≡ Execute m b c → (es : List Event)
      → AsksAfter port (pre ++ Client seat m b c r ∷ []) es → AsksAfter port pre (Client seat m b c r ∷ es)
  first_asks pre sent t follows lies m b r call es later [] rest l n d q is =
      subst (λ p. AsksNext (IsNoImport (slot_of_command d) n) port p n d) (sym (nil_after pre))
      (here_asks pre sent t follows lies m b r call l n d q (first_same (Client seat m b c r) (Client l n true d q) es rest is))
  first_asks pre sent t follows lies m b r call es later (y ∷ prefix) rest l n d q is =
      subst (λ p. AsksNext (IsNoImport (slot_of_command d) n) port p n d)
      (append_assoc pre (Client seat m b c r ∷ []) prefix ∙ ap (λ z. pre ++ z ∷ prefix) (first_same (Client seat m b c r) y es (prefix ++ Client l n true d q ∷ rest) is))
      (later prefix rest l n d q (rest_same (Client seat m b c r) y es (prefix ++ Client l n true d q ∷ rest) is))

  last_asks : (pre : List Event) (sent : List Send) (t : Turn) → Follows port c believed sent t → ((P : Event → Type 0) → StandIn P sent pre)
      → (answer : Answer) → AsksAfter port pre (event_of seat (call_of c t) answer ++ [])
  last_asks pre sent t follows lies (Ok r) =
      let call = call_is c t.owners.owners t.next in
      subst (λ es. AsksAfter port pre es) (sym (ap (λ k. event_of seat k (Ok r) ++ []) call.2))
      (first_asks pre sent t follows lies call.0 call.1 r call.2 [] (none_asks port (pre ++ Client seat call.0 call.1 c r ∷ [])))
  last_asks pre sent t follows lies (Err f) =
      let call = call_is c t.owners.owners t.next in
      subst (λ es. AsksAfter port pre es) (sym (ap (λ k. event_of seat k (Err f) ++ []) call.2)) (none_asks port pre)

  asks_on : (xs : List Send) (pre : List Event) (sent : List Send) (t u : Turn) → Follows port c believed sent t → ((P : Event → Type 0) → StandIn P sent pre)
      → Chain (IsRedirected port c) t xs u → (answer : Answer)
      → AsksAfter port pre (events_of seat (xs ++ record { call = call_of c u; answer = answer } ∷ []))
  asks_on [] pre sent t u follows lies chain answer =
      last_asks pre sent u (subst (λ v. Follows port c believed sent v) chain follows) lies answer
  asks_on (x ∷ xs) pre sent t u follows lies chain answer =
      let is = chain.1 in
      let call = call_is c t.owners.owners t.next in
      let sends = is.sent ∙ call.2 in
      let event : List Event = Client seat call.0 call.1 c is.reply ∷ [] in
      let more : List Event = events_of seat (xs ++ record { call = call_of c u; answer = answer } ∷ []) in
      let one : x ≡ record { call = Execute call.0 call.1 c; answer = Ok is.reply } = λ i. record { call = sends i; answer = is.answer i } in
      let lie : (P : Event → Type 0) → StandIn P (sent ++ x ∷ []) (pre ++ event) = λ P.
      stands_more P sent pre x (Client seat call.0 call.1 c is.reply) (ap (λ z. z ∷ []) (sym one)) (lies P) in
      subst (λ es. AsksAfter port pre (es ++ more)) (sym (λ i. event_of seat (sends i) (is.answer i)))
      (first_asks pre sent t follows lies call.0 call.1 is.reply call.2 more
      (asks_on xs (pre ++ event) (sent ++ x ∷ []) chain.0 u
      (chain_more (IsRedirected port c) (first_turn believed) t chain.0 sent x follows is) lie chain.2 answer))

-- ---- over a world

clients_more : (seat : ℕ) (call : Call) (answer : Answer) (es : List Event) → AreClients es → AreClients (event_of seat call answer ++ es)
clients_more seat (Execute n a c) (Ok r) es h = h
clients_more seat (call.Look n) (Ok r) es h = h
clients_more seat (Execute n a c) (Err f) es h = h
clients_more seat (call.Look n) (Err f) es h = h

are_clients : (seat : ℕ) (xs : List Send) → AreClients (events_of seat xs)
are_clients seat [] = tt
are_clients seat (x ∷ xs) = clients_more seat x.call x.answer (events_of seat xs) (are_clients seat xs)

none_more : (seat : ℕ) (xs : List Send) (c : Command) (u : Turn) (f : PortFault) → events_of seat (xs ++ record { call = call_of c u; answer = Err f } ∷ []) ≡ events_of seat xs
none_more seat [] c u f = ap (λ k. event_of seat k (Err f) ++ []) (call_is c u.owners.owners u.next).2
none_more seat (x ∷ xs) c u f = ap (λ l. event_of seat x.call x.answer ++ l) (none_more seat xs c u f)

module _ (first : World) (client : ClientView) (c : Command) (result : Result Reply ClientFault) (last : World) (client' : ClientView) (port_is : client.base_port ≡ first.base_port) (x : Executes (record { sends = IsSent; before = first; after = last }) client c result client') where
  abbrev IsRunOf : List Event → Type 0
  IsRunOf es = Run first es last × AreClients es × AsksByClients first.base_port es

  by_ends : (e : Ends (record { sends = IsSent; before = x.mid; after = last }) client.base_port c (length x.redirected) x.turn result)
      → IsRunOf (events_of 0 (x.redirected ++ last_send (record { sends = IsSent; before = x.mid; after = last }) client.base_port c (length x.redirected) x.turn result e))
  by_ends (inl e) = subst (λ sends. IsRunOf (events_of 0 sends)) (sym (append-nil x.redirected)) (
    ((sends_are_runs first x.redirected last).0 (subst (λ w. Chain IsSent first x.redirected w) (sym e.2) x.chain)).1,
    are_clients 0 x.redirected,
    subst (λ p. AsksByClients p (events_of 0 x.redirected)) port_is
        (subst (λ es. AsksByClients client.base_port es) (none_more 0 x.redirected c x.turn Memory)
        (asks_on client.base_port 0 c client.owners x.redirected [] [] (first_turn client.owners) x.turn refl (λ P. tt) x.follows (Err Memory))),
  )
  by_ends (inr e) =
      let all : List Send = x.redirected ++ record { call = call_of c x.turn; answer = e.0 } ∷ [] in (
        ((sends_are_runs first all last).0 (chain_more IsSent first x.mid last x.redirected (record { call = call_of c x.turn; answer = e.0 }) x.chain e.2)).1,
        are_clients 0 all,
        subst (λ p. AsksByClients p (events_of 0 all)) port_is
            (asks_on client.base_port 0 c client.owners x.redirected [] [] (first_turn client.owners) x.turn refl (λ P. tt) x.follows e.0),
      )

pub executions_are_runs : ExecutionsAreRuns
executions_are_runs first client c result last client' port_is x =
    by_ends first client c result last client' port_is x x.ends
