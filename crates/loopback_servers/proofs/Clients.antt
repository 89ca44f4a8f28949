-- The clients of a worker, and their IDs.
use Rattle.std.proofs.Common.{◌≡◌, ℕ, zero, suc, ◌+◌, ◌<◌, ◌≤◌, ◌*◌, ◌^◌, Bool, false, List, [], ◌∷◌, ◌++◌, length, map}
use Rattle.std.proofs.Common.{refl, ap, sym, subst, arith, inl, inr, ◌∙◌, Option, Some, None, cond}
use Rattle.std.proofs.lemmas.List.{length-append, map-append}
use Rattle.byte_streams.specs.Streams.{Input, Output}
use Rattle.resp2_wire.specs.Stream.{Words}
use Rattle.cluster_world.specs.Ports.{Answer, Chain, Send}
use Rattle.cluster_world.specs.Worlds.{World}
use Rattle.cluster_world.specs.declared.event.Event.{Event}
use Rattle.node_session.specs.Conversations.{AreTold, Consulted, Conversation}
use Rattle.node_session.specs.Talk.{Exchange, Sent, Looked, Unsent, Told, Lent, Said, Talk}
use Rattle.client_questions.specs.Questions.{is_question}
use Rattle.client_questions.specs.declared.caller.Caller.{Caller}
use Rattle.live_cluster.specs.Sends.{IsListed}
use Rattle.node_session.specs.declared.session_end.SessionEnd.{SessionEnd}
use Rattle.loopback_servers.specs.Asking.{IsToldSession, Tells}
use Rattle.loopback_servers.specs.Clients.{AreClients, IdsDiffer, IsClient, firsts, id_after, id_at}
use Rattle.loopback_servers.specs.Working.{AreSessions, IsPlain, IsSession}

-- a chain over ports is one over what they have
pub chain_of : {P S : Type 0} (seat : P → S) (sends : S → Send → S → Type 0) (p : P) (xs : List Send) (q : P)
    → Chain (λ a x b. sends (seat a) x (seat b)) p xs q → Chain sends (seat p) xs (seat q)
chain_of seat sends p [] q is = ap seat is
chain_of seat sends p (x ∷ xs) q is = (seat is.0, is.1, chain_of seat sends is.0 xs q is.2)

-- what is told of the questions of one node is told of its callers
pub told_of : {Q C : Type 0} (node : Q → ℕ) (caller : Q → C) (tells : ℕ → C → Words → Answer → C → Type 0)
    (n : ℕ) (s : Q) (xs : List Exchange) (t : Q) → node s ≡ n
    → AreTold (λ a q answer b. (node b ≡ node a) × tells (node a) (caller a) q answer (caller b)) s xs t
    → AreTold (tells n) (caller s) xs (caller t)
told_of node caller tells n s [] t at is = ap caller is
told_of node caller tells n s (Sent r c a ∷ xs) t at is =
    (caller is.0, ap caller is.1, told_of node caller tells n is.0 xs t (ap node (sym is.1) ∙ at) is.2)
told_of node caller tells n s (Looked r a ∷ xs) t at is =
    (caller is.0, ap caller is.1, told_of node caller tells n is.0 xs t (ap node (sym is.1) ∙ at) is.2)
told_of node caller tells n s (Unsent r a ∷ xs) t at is =
    (caller is.0, ap caller is.1, told_of node caller tells n is.0 xs t (ap node (sym is.1) ∙ at) is.2)
told_of node caller tells n s (Told r a ∷ xs) t at is = (
  caller is.0,
  subst (λ m. tells m (caller s) r a (caller is.0)) at is.1.1,
  told_of node caller tells n is.0 xs t (is.1.0 ∙ at) is.2,
)

-- the conversation of a port and of questions is one of the port's seat and of the questions' caller
pub seen : {P Q W : Type 0} (seat : P → ℕ × List Event) (node : Q → ℕ) (caller : Q → Caller) (opening : World) (n : ℕ)
    (p p' : P) (s s' : Q) (writer : Output W) (said : Said) → node s ≡ n
    → Conversation (record { sends = λ a x b. IsListed (seat a) x (seat b); node = n; before = p; after = p' })
    (record {
      hears = is_question;
      tells = λ a q answer b. (node b ≡ node a) × Tells opening (node a) (caller a) q answer (caller b);
      before = s;
      after = s';
    })
    writer said
    → Conversation (record { sends = IsListed; node = n; before = seat p; after = seat p' })
    (record { hears = is_question; tells = Tells opening n; before = caller s; after = caller s' }) writer said
seen seat node caller opening n p p' s s' writer said at c = record {
  exchanges = c.exchanges;
  told = told_of node caller (Tells opening) n s said.exchanges s' at c.told;
  chain = chain_of seat IsListed p _ p' c.chain;
  written = c.written;
  count = c.count;
}

-- the talk of a port is one of the port's seat
pub talked : {P W : Type 0} (seat : P → ℕ × List Event) (n : ℕ) (p p' : P) (writer : Output W) (said : Said)
    → Talk (record { sends = λ a x b. IsListed (seat a) x (seat b); node = n; before = p; after = p' }) writer said
    → Talk (record { sends = IsListed; node = n; before = seat p; after = seat p' }) writer said
talked seat n p p' writer said t = record {
  exchanges = t.exchanges;
  chain = chain_of seat IsListed p _ p' t.chain;
  written = t.written;
  count = t.count;
}

-- a session that hears no question, by its seat
pub plain_of : {I O P : Type 0} (seat : P → ℕ × List Event) (opening : World)
    (reader : I → I → Input I) (writer : O → O → Output O) (n : ℕ) (p p' : P) (first last : I) (empty full : O)
    (end : SessionEnd) (sent : ℕ) → n < length opening.nodes
    → IsSession (reader first last) (writer empty full)
    (record { sends = λ a x b. IsListed (seat a) x (seat b); node = n; before = p; after = p' }) end sent
    → IsPlain opening reader writer (seat p) (seat p')
plain_of seat opening reader writer n p p' first last empty full end sent there t =
    inr (
      n,
      first,
      last,
      empty,
      full,
      end,
      sent,
      there,
      (t.0, t.1, t.2, t.3, t.4, talked seat n p p' (writer empty full) _ t.5, t.6),
    )

-- a session whose questions are told of, by its seat and its caller
pub client_of : {I O P Q : Type 0} (seat : P → ℕ × List Event) (node : Q → ℕ) (caller : Q → Caller) (opening : World)
    (reader : I → I → Input I) (writer : O → O → Output O) (n id : ℕ) (p p' : P) (s s' : Q)
    (first last : I) (empty full : O) (end : SessionEnd) (sent : ℕ)
    → n < length opening.nodes → node s ≡ n → caller s ≡ record { id = id; name = [] }
    → IsToldSession (reader first last) (writer empty full)
    (record { sends = λ a x b. IsListed (seat a) x (seat b); node = n; before = p; after = p' })
    (record {
      hears = is_question;
      tells = λ a q answer b. (node b ≡ node a) × Tells opening (node a) (caller a) q answer (caller b);
      before = s;
      after = s';
    })
    end sent
    → IsClient opening reader writer id (seat p) (seat p')
client_of seat node caller opening reader writer n id p p' s s' first last empty full end sent there at fresh t =
    let said : Said =
    record { asking = false; exchanges = t.2; out = t.3; sent_before = 0; sent = sent } in
    let heard = seen seat node caller opening n p p' s s' (writer empty full) said at t.5 in
    inr (
      n,
      first,
      last,
      empty,
      full,
      caller s',
      end,
      sent,
      there,
      (
        t.0,
        t.1,
        t.2,
        t.3,
        t.4,
        subst (λ (c : Caller). Conversation (record { sends = IsListed; node = n; before = seat p; after = seat p' })
            (record { hears = is_question; tells = Tells opening n; before = c; after = caller s' })
            (writer empty full) said)
            fresh heard,
        t.6,
        t.7,
        t.8,
      ),
    )

-- one session more
pub session_then : (Session : ℕ × List Event → ℕ × List Event → Type 0) (count : ℕ) (s t u : ℕ × List Event)
    → AreSessions Session count s t → Session t u → (k : ℕ) × AreSessions Session k s u
session_then Session count s t u before then = (suc count, (t, before, then))

-- one client more
pub client_then : (Client : (id : ℕ) → ℕ × List Event → ℕ × List Event → Type 0) (first count id next : ℕ)
    (s t u : ℕ × List Event) → id ≡ id_at first count → next ≡ id_after id → AreClients Client first count s t
    → Client id t u → (k : ℕ) × (next ≡ id_at first k) × AreClients Client first k s u
client_then Client first count id next s t u is after before then =
    (suc count, after ∙ ap id_after is, (t, before, subst (λ i. Client i t u) is then))

-- sessions lead to where a worker's seat goes
pub sessions_between : (Session : ℕ × List Event → ℕ × List Event → Type 0) (count : ℕ) (s s' t t' : ℕ × List Event)
    → s' ≡ s → t' ≡ t → AreSessions Session count s' t → (k : ℕ) × AreSessions Session k s t'
sessions_between Session count s s' t t' first last are =
    let ends : AreSessions Session count s' t' =
    subst (λ (y : ℕ × List Event). AreSessions Session count s' y) (sym last) are in
    (count, subst (λ (x : ℕ × List Event). AreSessions Session count x t') first ends)

-- clients do, too
pub clients_between : (Client : (id : ℕ) → ℕ × List Event → ℕ × List Event → Type 0) (first count : ℕ)
    (s s' t t' : ℕ × List Event) → s' ≡ s → t' ≡ t → AreClients Client first count s' t
    → (k : ℕ) × AreClients Client first k s t'
clients_between Client first count s s' t t' starts last are =
    let ends : AreClients Client first count s' t' =
    subst (λ (y : ℕ × List Event). AreClients Client first count s' y) (sym last) are in
    (count, subst (λ (x : ℕ × List Event). AreClients Client first count x t') starts ends)

-- ---- the IDs

pub firsts_then : {S W : Type 0} (first : W → Option ℕ) (told : Bool) (ws : List W) (ys : List S) (w : W) (s : S)
    → map first ws ≡ firsts told (length ys) → length ws ≡ length ys → first w ≡ cond told (Some (length ws + 1)) None
    → map first (ws ++ w ∷ []) ≡ firsts told (length (ys ++ s ∷ []))
firsts_then first told ws ys w s are same is =
    let longer : length (ys ++ s ∷ []) ≡ suc (length ys) = length-append ys (s ∷ []) ∙ omega arith in
    map-append first ws (w ∷ []) ∙ rw (longer, are, is, same) refl

-- one worker more
pub workers_then : {S W : Type 0} (seat : W → S) (first : W → Option ℕ) (told : Bool) (ws new : List W) (ys : List S)
    (w : W) (s : S) → new ≡ ws ++ w ∷ [] → seat w ≡ s → first w ≡ cond told (Some (length ws + 1)) None
    → map seat ws ≡ ys → length ws ≡ length ys → map first ws ≡ firsts told (length ys)
    → (map seat new ≡ ys ++ s ∷ []) × (length new ≡ length (ys ++ s ∷ []))
    × (map first new ≡ firsts told (length (ys ++ s ∷ [])))
workers_then {S} {W} seat first told ws new ys w s is at begins seats same are =
    let grown : length (ws ++ w ∷ []) ≡ suc (length ws) = length-append ws (w ∷ []) ∙ omega arith in
    let longer : length (ys ++ s ∷ []) ≡ suc (length ys) = length-append ys (s ∷ []) ∙ omega arith in
    let mapped : map seat (ws ++ w ∷ []) ≡ ys ++ s ∷ [] = map-append seat ws (w ∷ []) ∙ rw (seats, at) refl in (
      ap (λ (xs : List W). map seat xs) is ∙ mapped,
      ap (λ (xs : List W). length xs) is ∙ (grown ∙ (ap suc same ∙ sym longer)),
      ap (λ (xs : List W). map first xs) is ∙ firsts_then first told ws ys w s are same begins,
    )

id_is : (first n : ℕ) → first ≤ 32 → n < 2 ^ 58 → id_at first n ≡ first + 32 * n
id_is first zero low small = omega arith
id_is first (suc n) low small =
    let before : id_at first n ≡ first + 32 * n = id_is first n low (omega (arith, small)) in
    omega (arith, before, small, low)

pub ids_differ : IdsDiffer
ids_differ first other n m least low most high small few same =
    let one = id_is first n low small in
    let two = id_is other m high few in
    (omega (arith, one, two, same, least, low, most, high), omega (arith, one, two, same, least, low, most, high))
