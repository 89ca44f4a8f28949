-- One request, and lists of them.
use Rattle.std.proofs.Common.{◌≡◌, ◌≢◌, ℕ, ◌+◌, ◌≤◌, ◌<◌, Bool, true, false, List, [], ◌∷◌, ◌++◌, length, map, min, Result, Ok, Err, refl, sym, append_assoc, arith}
use Rattle.std.specs.Prelude.{IfErr, OnOk}
use Rattle.std.proofs.lemmas.List.{append-nil, length-append}
use Rattle.byte_streams.specs.Streams.{Output}
use Rattle.resp2_wire.specs.Stream.{Words, Gave}
use Rattle.cluster_world.specs.Ports.{Send, Answer, Chain}
use Rattle.node_session.specs.declared.session_end.SessionEnd.{SessionEnd}
use Rattle.node_session.specs.declared.session_end.SessionEnd.TheVariants.{Closed, Cut, Protocol, ReadFailed, WriteFailed, Memory, Quit}
use Rattle.node_session.specs.Requests.{is_asking, is_quit}
use Rattle.node_session.specs.SessionBytes.{answer_text}
use Rattle.node_session.specs.Talk.{Exchange, Sent, Looked, Unsent, Told, IsExchange, request_of, answer_of, texts, asks, sent_of, sends_of, most, Lent, Said, Answers}
use Rattle.node_session.specs.Conversations.{Consulted, Conversation, IsHeard, AreHeard, IsTold, AreTold}
use Rattle.node_session.specs.Ends.{WritesPrefix, OneEnd, OneSaid, is_left}

-- a port, one who tells and a writer that were lent, and what was said by them

abbrev pub port_lent : {P : Type 0} → (P → Send → P → Type 0) → ℕ → P → P → Lent P
port_lent sends node port port' = record { sends = sends; node = node; before = port; after = port' }

abbrev pub consulted : {Q : Type 0} → (Words → Bool) → (Q → Words → Answer → Q → Type 0) → Q → Q → Consulted Q
consulted hears tells first last = record { hears = hears; tells = tells; before = first; after = last }

abbrev pub writer_lent : {W : Type 0} → (W → List ℕ → W → Type 0) → (W → ℕ) → W → W → Output W
writer_lent took failures writer writer' = record { took = took; failures = failures; before = writer; after = writer' }

abbrev pub said : Bool → List Exchange → List ℕ → (sent sent' : ℕ) → Said
said before xs out sent sent' = record { asking = before; exchanges = xs; out = out; sent_before = sent; sent = sent' }

pub some_words : (r : Words) → r ≢ [] → 0 < length r
some_words [] h = absurd (h refl)
some_words (w ∷ ws) h = omega arith

-- ---- one request

heard_plain : (hears : Words → Bool) (x : Exchange) → hears (request_of x) ≡ false → IsExchange x → IsHeard hears x
heard_plain hears (Sent r c a) other is = (other, is)
heard_plain hears (Looked r a) other is = (other, is)
heard_plain hears (Unsent r a) other is = (other, is)
heard_plain hears (Told r a) other is = absurd is

told_nothing : {Q : Type 0} (tells : Q → Words → Answer → Q → Type 0) (q : Q) (x : Exchange) → IsExchange x → IsTold tells q x q
told_nothing tells q (Sent r c a) is = refl
told_nothing tells q (Looked r a) is = refl
told_nothing tells q (Unsent r a) is = refl
told_nothing tells q (Told r a) is = absurd is

pub plain_goes_on : (x : Exchange) → IsExchange x → is_left x ≡ false
plain_goes_on (Sent r c a) is = refl
plain_goes_on (Looked r a) is = refl
plain_goes_on (Unsent r a) is = refl
plain_goes_on (Told r a) is = absurd is

said_plain : (result : Result (Unit {0}) SessionEnd) (out : List ℕ) (x : Exchange) → IsExchange x → OneEnd result out (answer_text (answer_of x)) → OneSaid result out x
said_plain (Ok u) out x is end = (end, plain_goes_on x is)
said_plain (Err WriteFailed) out x is end = end
said_plain (Err Memory) out x is end = end
said_plain (Err Closed) out x is end = absurd end
said_plain (Err Cut) out x is end = absurd end
said_plain (Err (Protocol f)) out x is end = absurd end
said_plain (Err ReadFailed) out x is end = absurd end
said_plain (Err Quit) out x is end = absurd end

-- the answer to a question went out
pub said_behind : (result : Result (Unit {0}) SessionEnd) (out : List ℕ) (r : Words) (a : Answer) → OnOk result (is_quit r ≡ false) → IfErr result (λ end. (end ≡ Quit) × (is_quit r ≡ true)) → out ≡ answer_text a → OneSaid result out (Told r a)
said_behind (Ok u) out r a goes quits same = (same, goes)
said_behind (Err Quit) out r a goes quits same = (same, quits.1)
said_behind (Err WriteFailed) out r a goes quits same = let is : WriteFailed ≡ Quit = quits.0 in absurd cc
said_behind (Err Memory) out r a goes quits same = let is : Memory ≡ Quit = quits.0 in absurd cc
said_behind (Err Closed) out r a goes quits same = let is : Closed ≡ Quit = quits.0 in absurd cc
said_behind (Err Cut) out r a goes quits same = let is : Cut ≡ Quit = quits.0 in absurd cc
said_behind (Err (Protocol f)) out r a goes quits same = let is : Protocol f ≡ Quit = quits.0 in absurd cc
said_behind (Err ReadFailed) out r a goes quits same = let is : ReadFailed ≡ Quit = quits.0 in absurd cc

-- the answer to a question broke off
pub said_broken : (e : SessionEnd) (out : List ℕ) (r : Words) (a : Answer) → OneEnd (Err e) out (answer_text a) → OneSaid (Err e) out (Told r a)
said_broken WriteFailed out r a end = end
said_broken Memory out r a end = end
said_broken Closed out r a end = absurd end
said_broken Cut out r a end = absurd end
said_broken (Protocol f) out r a end = absurd end
said_broken ReadFailed out r a end = absurd end
said_broken Quit out r a end = absurd end

module _ (P Q W : Type 0) (sends : P → Send → P → Type 0) (hears : Words → Bool) (tells : Q → Words → Answer → Q → Type 0) (took : W → List ℕ → W → Type 0) (failures : W → ℕ) (node : ℕ) where
  abbrev One : (port port' : P) (q q' : Q) (writer writer' : W) (sent sent' : ℕ) (before : Bool) → Words → Result (Unit {0}) SessionEnd → Type 0
  One port port' q q' writer writer' sent sent' before r result = (x : Exchange) × (out : List ℕ) × (request_of x ≡ r) × Conversation (port_lent sends node port port') (consulted hears tells q q') (writer_lent took failures writer writer') (said before (x ∷ []) out sent sent') × OneSaid result out x

  -- a request that was answered, and whose answer went out or a part of it
  pub answered_one : (port port' : P) (q q' : Q) (writer writer' : W) (sent sent' : ℕ) (before : Bool) (r : Words) (a : Answer) (result : Result (Unit {0}) SessionEnd) → (hears r ≡ false) × (q' ≡ q) → Answers (port_lent sends node port port') before r a → WritesPrefix (writer_lent took failures writer writer') sent sent' (λ out. OneEnd result out (answer_text a))
      → One port port' q q' writer writer' sent sent' before r result
  answered_one port port' q q' writer writer' sent sent' before r a result other s p =
      (s.0, p.0, s.1, record { exchanges = (heard_plain hears s.0 (rw s.1 other.0) s.3, tt); told = (q, told_nothing tells q s.0 s.3, sym other.1); chain = rw (append-nil (sent_of node before s.0)) s.4; written = p.1; count = p.2 }, said_plain result p.0 s.0 s.3 (rw s.2 p.3))

  -- a question that was told of
  pub told_one : (port : P) (q q' : Q) (writer writer' : W) (sent sent' : ℕ) (before : Bool) (r : Words) (a : Answer) (result : Result (Unit {0}) SessionEnd) → (hears r ≡ true) × tells q r a q' → WritesPrefix (writer_lent took failures writer writer') sent sent' (λ out. OneSaid result out (Told r a))
      → One port port q q' writer writer' sent sent' before r result
  told_one port q q' writer writer' sent sent' before r a result heard t =
      (Told r a, t.0, refl, record { exchanges = (heard.0, tt); told = (q', heard.1, refl); chain = refl; written = t.1; count = t.2 }, t.3)

-- ---- one after the other

abbrev pub GoesOn : List ℕ → List ℕ → List Exchange → Type 0
GoesOn left left' xs = (stream : List ℕ) (given : List Words) → Gave stream given left → Gave stream (given ++ map request_of xs) left'

-- how many bytes went out, whether the last request is a right ASKING, and what is left of the input, before and after
pub record Heard : Type 0 where
  pub sent_before : ℕ
  pub sent : ℕ
  pub asking_before : Bool
  pub asking : Bool
  pub left_before : List ℕ
  pub left : List ℕ

pub record Talked {P Q W : Type 0} (port : Lent P) (questions : Consulted Q) (writer : Output W) (h : Heard) (xs : List Exchange) : Type 0 where
  pub talk : Conversation port questions writer (record { asking = h.asking_before; exchanges = xs; out = texts xs; sent_before = h.sent_before; sent = h.sent })
  pub goes : GoesOn h.left_before h.left xs
  pub asked : h.asking ≡ asks h.asking_before xs

chain_then : {P : Type 0} (sends : P → Send → P → Type 0) (a b c : P) (xs ys : List Send) → Chain sends a xs b → Chain sends b ys c → Chain sends a (xs ++ ys) c
chain_then sends a b c [] ys t u = rw t u
chain_then sends a b c (x ∷ xs) ys t u = (t.0, t.1, chain_then sends t.0 b c xs ys t.2 u)

told_then : {Q : Type 0} (tells : Q → Words → Answer → Q → Type 0) (a b c : Q) (xs ys : List Exchange) → AreTold tells a xs b → AreTold tells b ys c → AreTold tells a (xs ++ ys) c
told_then tells a b c [] ys t u = rw t u
told_then tells a b c (x ∷ xs) ys t u = (t.0, t.1, told_then tells t.0 b c xs ys t.2 u)

sends_of-append : (node : ℕ) (before : Bool) (xs ys : List Exchange) → sends_of node before (xs ++ ys) ≡ sends_of node before xs ++ sends_of node (asks before xs) ys
sends_of-append node before [] ys = refl
sends_of-append node before (x ∷ xs) ys = rw (sends_of-append node (is_asking (request_of x)) xs ys) (sym (append_assoc (sent_of node before x) (sends_of node (is_asking (request_of x)) xs) (sends_of node (asks (is_asking (request_of x)) xs) ys)))

heard_then : (hears : Words → Bool) (xs ys : List Exchange) → AreHeard hears xs → AreHeard hears ys → AreHeard hears (xs ++ ys)
heard_then hears [] ys t u = u
heard_then hears (x ∷ xs) ys t u = (t.0, heard_then hears xs ys t.1 u)

pub texts-append : (xs ys : List Exchange) → texts (xs ++ ys) ≡ texts xs ++ texts ys
texts-append [] ys = refl
texts-append (x ∷ xs) ys = rw (texts-append xs ys) (sym (append_assoc (answer_text (answer_of x)) (texts xs) (texts ys)))

pub asks-append : (before : Bool) (xs ys : List Exchange) → asks before (xs ++ ys) ≡ asks (asks before xs) ys
asks-append before [] ys = refl
asks-append before (x ∷ xs) ys = asks-append (is_asking (request_of x)) xs ys

module _ (P Q W : Type 0) (sends : P → Send → P → Type 0) (hears : Words → Bool) (tells : Q → Words → Answer → Q → Type 0) (took : W → List ℕ → W → Type 0) (failures : W → ℕ) (none : (x : W) → took x [] x) (then : (x y z : W) (a b : List ℕ) → took x a y → took y b z → took x (a ++ b) z) (node : ℕ) where
  abbrev Talks : (port port' : P) (q q' : Q) (writer writer' : W) → Said → Type 0
  Talks port port' q q' writer writer' s = Conversation (port_lent sends node port port') (consulted hears tells q q') (writer_lent took failures writer writer') s

  pub talk_then : (port port' port'' : P) (q q' q'' : Q) (writer writer' writer'' : W) (sent sent' sent'' : ℕ) (before : Bool) (xs ys : List Exchange) (out out' : List ℕ) → Talks port port' q q' writer writer' (said before xs out sent sent') → Talks port' port'' q' q'' writer' writer'' (said (asks before xs) ys out' sent' sent'') → Talks port port'' q q'' writer writer'' (said before (xs ++ ys) (out ++ out') sent sent'')
  talk_then port port' port'' q q' q'' writer writer' writer'' sent sent' sent'' before xs ys out out' a b = record {
    exchanges = heard_then hears xs ys a.exchanges b.exchanges;
    told = told_then tells q q' q'' xs ys a.told b.told;
    chain = rw (sends_of-append node before xs ys) (chain_then sends port port' port'' (sends_of node before xs) (sends_of node (asks before xs) ys) a.chain b.chain);
    written = then writer writer' writer'' out out' a.written b.written;
    count = rw (length-append out out') (omega (arith, a.count, b.count));
  }

  pub talk_none : (port : P) (q : Q) (writer : W) (sent : ℕ) (before : Bool) → sent ≤ most → Talks port port q q writer writer (said before [] [] sent sent)
  talk_none port q writer sent before le = record { exchanges = tt; told = refl; chain = refl; written = none writer; count = omega arith }

  -- more is written, and nothing sent
  pub more_written : (port port' : P) (q q' : Q) (writer writer' writer'' : W) (sent sent' sent'' : ℕ) (before : Bool) (xs : List Exchange) (out out' : List ℕ) → Talks port port' q q' writer writer' (said before xs out sent sent') → took writer' out' writer'' → sent'' ≡ min (sent' + length out') most → Talks port port' q q' writer writer'' (said before xs (out ++ out') sent sent'')
  more_written port port' q q' writer writer' writer'' sent sent' sent'' before xs out out' a t c = record {
    exchanges = a.exchanges;
    told = a.told;
    chain = a.chain;
    written = then writer writer' writer'' out out' a.written t;
    count = rw (length-append out out') (omega (arith, a.count, c));
  }
