-- How what is said of the requests ends.
use Rattle.std.proofs.Common.{◌≡◌, ◌≢◌, ℕ, Bool, true, false, List, [], ◌∷◌, ◌++◌, map, Result, Ok, Err, refl, sym, ap, subst, ◌∙◌, append_assoc, arith, inl, inr}
use Rattle.std.proofs.lemmas.List.{append-nil, map-append}
use Rattle.resp2_wire.specs.declared.fault.WireFault.{WireFault}
use Rattle.resp2_wire.specs.declared.fault.WireFault.TheVariants as faults
use Rattle.resp2_wire.specs.declared.fault.Stop.TheVariants.{Unfinished, Fault}
use Rattle.resp2_wire.specs.Reading.{request_at, count_at}
use Rattle.resp2_wire.specs.Stream.{Words, Gave, Ends, Next, requested}
use Rattle.resp2_wire.proofs.Ahead.{fault_is}
use Rattle.byte_texts.specs.Outcomes.{IsAnswered}
use Rattle.byte_streams.specs.Streams.{Output}
use Rattle.cluster_world.specs.Ports.{Send, Answer}
use Rattle.node_session.specs.declared.session_end.SessionEnd.{SessionEnd}
use Rattle.node_session.specs.declared.session_end.SessionEnd.TheVariants.{Closed, Cut, Protocol, ReadFailed, WriteFailed, Memory, Quit}
use Rattle.node_session.specs.Requests.{is_asking}
use Rattle.node_session.specs.SessionBytes.{answer_text, fault_line}
use Rattle.node_session.specs.Talk.{Exchange, Sent, Looked, Unsent, Told, IsExchange, AreExchanges, request_of, answer_of, asks, texts, Talk, Said, Lent}
use Rattle.node_session.specs.Conversations.{Conversation, AreHeard}
use Rattle.node_session.specs.Ends.{Lacks, HasNoFault, EndsSo, OneEnd, OneSaid, AllEnd, AllLeave, LeavesSo, GoOn, GoOnToLast, is_left, Refused, EndOfInput, IsInterrupted}
use Rattle.node_session.proofs.Answered.{Heard, Talked, port_lent, consulted, said, writer_lent, GoesOn, plain_goes_on, talk_then, texts-append, asks-append}

pub kept_by_fault : (old new : List ℕ) (f : WireFault) → Next old (Err f) new → new ≡ old
kept_by_fault old new f n = n.1

-- out of memory hides no fault
no_fault : (old new : List ℕ) → Next old (Err faults.Memory) new → HasNoFault new
no_fault old new n f begins =
    let there : request_at old ≡ Err (Fault f) = ap request_at (sym n.1) ∙ begins in
    subst (λ r. IsAnswered (requested r)) there n.0

text_one : (x : Exchange) → texts (x ∷ []) ≡ answer_text (answer_of x)
text_one x = append-nil (answer_text (answer_of x))

goes_more : (left mid new : List ℕ) (xs : List Exchange) (x : Exchange) → GoesOn left mid xs → ((stream : List ℕ) (given : List Words) → Gave stream given mid → Gave stream (given ++ request_of x ∷ []) new) → GoesOn left new (xs ++ x ∷ [])
goes_more left mid new xs x h k stream given g =
    let e : given ++ map request_of (xs ++ x ∷ []) ≡ (given ++ map request_of xs) ++ request_of x ∷ [] = rw (map-append request_of xs (x ∷ []), append_assoc) refl in
    rw e (k stream (given ++ map request_of xs) (h stream given g))

-- the session ended at one request
pub broke_off : (e : SessionEnd) (left out : List ℕ) (xs : List Exchange) (x : Exchange) → OneSaid (Err e) out x → AllEnd (Err e) left (texts xs ++ out) (xs ++ x ∷ [])
broke_off WriteFailed left out xs x h = inl (xs, x ∷ [], h.0, refl, omega arith, rw (text_one x, h.1) refl)
broke_off Memory left out xs x h = inl (xs, x, refl, rw (h, append-nil (texts xs)) refl)
broke_off Quit left out xs x h = rw (texts-append xs (x ∷ []), text_one x, h.0) refl
broke_off Closed left out xs x h = absurd h
broke_off Cut left out xs x h = absurd h
broke_off (Protocol f) left out xs x h = absurd h
broke_off ReadFailed left out xs x h = absurd h

pub left_at : (e : SessionEnd) (out : List ℕ) (xs : List Exchange) (x : Exchange) → GoOn xs → OneSaid (Err e) out x → LeavesSo e (xs ++ x ∷ [])
left_at WriteFailed out xs x on h = (xs, x ∷ [], refl, omega arith, on)
left_at Memory out xs x on h = (xs, x ∷ [], refl, omega arith, on)
left_at Quit out xs x on h = (xs, x, refl, on, h.1)
left_at Closed out xs x on h = absurd h
left_at Cut out xs x on h = absurd h
left_at (Protocol f) out xs x on h = absurd h
left_at ReadFailed out xs x on h = absurd h

pub go_on_then : (xs ys : List Exchange) → GoOn xs → GoOn ys → GoOn (xs ++ ys)
go_on_then [] ys t u = u
go_on_then (x ∷ xs) ys t u = (t.0, go_on_then xs ys t.1 u)

to_last_then : (xs ys : List Exchange) → GoOn xs → GoOnToLast ys → GoOnToLast (xs ++ ys)
to_last_then xs ys on h = (xs ++ h.0, h.1, rw (h.2, append_assoc) refl, h.3, go_on_then xs h.0 on h.4)

-- a QUIT may stand where it may in the rest
pub leaves_after : (e : SessionEnd) (xs ys : List Exchange) → GoOn xs → LeavesSo e ys → LeavesSo e (xs ++ ys)
leaves_after Closed xs ys on h = go_on_then xs ys on h
leaves_after Cut xs ys on h = go_on_then xs ys on h
leaves_after (Protocol f) xs ys on h = go_on_then xs ys on h
leaves_after ReadFailed xs ys on h = go_on_then xs ys on h
leaves_after WriteFailed xs ys on h = to_last_then xs ys on h
leaves_after Memory xs ys on h = to_last_then xs ys on h
leaves_after Quit xs ys on h = (xs ++ h.0, h.1, rw (h.2, append_assoc) refl, go_on_then xs h.0 on h.3, h.4)

-- none was left
pub leaves_none : (e : SessionEnd) (xs : List Exchange) → e ≢ Quit → GoOn xs → LeavesSo e xs
leaves_none Closed xs stays on = on
leaves_none Cut xs stays on = on
leaves_none (Protocol f) xs stays on = on
leaves_none ReadFailed xs stays on = on
leaves_none WriteFailed xs stays on = (xs, [], sym (append-nil xs), omega arith, on)
leaves_none Memory xs stays on = (xs, [], sym (append-nil xs), omega arith, on)
leaves_none Quit xs stays on = absurd (stays refl)

pub fault_no_quit : (f : WireFault) (e : SessionEnd) (out : List ℕ) → Refused f e out → e ≢ Quit
fault_no_quit f e out h is = subst (λ (x : SessionEnd). Refused f x out) is h

pub end_no_quit : (e : SessionEnd) (left : List ℕ) → EndOfInput e left → e ≢ Quit
end_no_quit e left (inl h) r = let s = h.0 in absurd cc
end_no_quit e left (inr h) r = let s = h.0 in absurd cc

-- the end at a fault
pub at_fault : (e : SessionEnd) (f : WireFault) (old new out : List ℕ) (xs : List Exchange) → Next old (Err f) new → Refused f e out → AllEnd (Err e) new (texts xs ++ out) xs
at_fault Memory f old new out xs n r = inr (no_fault old new (subst (λ (g : WireFault). Next old (Err g) new) r.0 n), rw (r.1, append-nil (texts xs)) refl)
at_fault (Protocol g) f old new out xs n r = (rw (n.1, r.0) (fault_is old new f r.1 n), rw (r.2, r.0) refl)
at_fault WriteFailed f old new out xs n r = inr (f, r.1, rw n.1 (fault_is old new f r.0 n), rw r.2 refl)
at_fault Closed f old new out xs n r = absurd r
at_fault Cut f old new out xs n r = absurd r
at_fault ReadFailed f old new out xs n r = absurd r
at_fault Quit f old new out xs n r = absurd r

pub refused_from : (f : WireFault) (e : SessionEnd) (out : List ℕ) → f ≢ faults.Memory → e ≡ WriteFailed → OneEnd (Err e) out (fault_line f) → Refused f e out
refused_from f WriteFailed out ne is h = (ne, h.0, h.1)
refused_from f Memory out ne is h = cc
refused_from f Closed out ne is h = absurd h
refused_from f Cut out ne is h = absurd h
refused_from f (Protocol g) out ne is h = absurd h
refused_from f ReadFailed out ne is h = absurd h
refused_from f Quit out ne is h = absurd h

-- one request more is answered
module _ (P Q W : Type 0) (sends : P → Send → P → Type 0) (hears : Words → Bool) (tells : Q → Words → Answer → Q → Type 0) (took : W → List ℕ → W → Type 0) (failures : W → ℕ) (then : (x y z : W) (a b : List ℕ) → took x a y → took y b z → took x (a ++ b) z) (none : (x : W) → took x [] x) (node : ℕ) where
  abbrev heard : (sent sent' : ℕ) → (before after : Bool) → (left left' : List ℕ) → Heard
  heard sent sent' before after left left' = record { sent_before = sent; sent = sent'; asking_before = before; asking = after; left_before = left; left = left' }

  abbrev Says : (port port' : P) (q q' : Q) (writer writer' : W) → Said → Type 0
  Says port port' q q' writer writer' s = Conversation (port_lent sends node port port') (consulted hears tells q q') (writer_lent took failures writer writer') s

  abbrev Spoke : (port port' : P) (q q' : Q) (writer writer' : W) → Heard → List Exchange → Type 0
  Spoke port port' q q' writer writer' h xs = Talked (port_lent sends node port port') (consulted hears tells q q') (writer_lent took failures writer writer') h xs

  pub more_talk : (port mid port' : P) (q qmid q' : Q) (writer wmid writer' : W) (sent tmid sent' : ℕ) (before after : Bool) (left lmid left' : List ℕ) (xs : List Exchange) (x : Exchange) (out : List ℕ) → Spoke port mid q qmid writer wmid (heard sent tmid before after left lmid) xs → Says mid port' qmid q' wmid writer' (said after (x ∷ []) out tmid sent') → Says port port' q q' writer writer' (said before (xs ++ x ∷ []) (texts xs ++ out) sent sent')
  more_talk port mid port' q qmid q' writer wmid writer' sent tmid sent' before after left lmid left' xs x out t m =
      let asked : after ≡ asks before xs = t.asked in
      talk_then P Q W sends hears tells took failures none then node port mid port' q qmid q' writer wmid writer' sent tmid sent' before xs (x ∷ []) (texts xs) out t.talk (rw asked at m)

  pub more_goes : (port mid : P) (q qmid : Q) (writer wmid : W) (sent tmid : ℕ) (before after : Bool) (left lmid left' : List ℕ) (xs : List Exchange) (x : Exchange) → Spoke port mid q qmid writer wmid (heard sent tmid before after left lmid) xs → ((stream : List ℕ) (given : List Words) → Gave stream given lmid → Gave stream (given ++ request_of x ∷ []) left') → GoesOn left left' (xs ++ x ∷ [])
  more_goes port mid q qmid writer wmid sent tmid before after left lmid left' xs x t k = goes_more left lmid left' xs x t.goes k

  pub talked_more : (port mid port' : P) (q qmid q' : Q) (writer wmid writer' : W) (sent tmid sent' : ℕ) (before after : Bool) (left lmid left' : List ℕ) (xs : List Exchange) (x : Exchange) (out : List ℕ) → Spoke port mid q qmid writer wmid (heard sent tmid before after left lmid) xs → Says mid port' qmid q' wmid writer' (said after (x ∷ []) out tmid sent') → out ≡ answer_text (answer_of x) → ((stream : List ℕ) (given : List Words) → Gave stream given lmid → Gave stream (given ++ request_of x ∷ []) left') → Spoke port port' q q' writer writer' (heard sent sent' before (is_asking (request_of x)) left left') (xs ++ x ∷ [])
  talked_more port mid port' q qmid q' writer wmid writer' sent tmid sent' before after left lmid left' xs x out t m e k =
      let same : texts xs ++ out ≡ texts (xs ++ x ∷ []) = rw (texts-append xs (x ∷ []), text_one x, e) refl in
      record {
        talk = rw same at (more_talk port mid port' q qmid q' writer wmid writer' sent tmid sent' before after left lmid left' xs x out t m);
        goes = goes_more left lmid left' xs x t.goes k;
        asked = sym (asks-append before xs (x ∷ []));
      }

-- ---- a session

pub starts : Ends [] Unfinished
unfolding request_at count_at
starts = refl

lacks_after : (xs ys : List Exchange) (out : List ℕ) → Lacks out ys → Lacks (texts xs ++ out) (xs ++ ys)
lacks_after xs ys out h = (xs ++ h.0, h.1, h.2, rw (h.3, append_assoc) refl, h.4, rw (h.5, texts-append xs h.0, append_assoc) refl)

pub after_ends : (e : SessionEnd) (left out : List ℕ) (xs ys : List Exchange) → AllEnd (Err e) left out ys → EndsSo e left (texts xs ++ out) (xs ++ ys)
after_ends Closed left out xs ys h = absurd h
after_ends Cut left out xs ys h = absurd h
after_ends ReadFailed left out xs ys h = absurd h
after_ends Quit left out xs ys h = rw (h, texts-append xs ys) refl
after_ends (Protocol f) left out xs ys h = (h.0, rw (h.1, texts-append xs ys, append_assoc) refl)
after_ends WriteFailed left out xs ys (inl h) = inl (lacks_after xs ys out h)
after_ends WriteFailed left out xs ys (inr h) = inr (h.0, h.1, h.2, rw (h.3, texts-append xs ys, append_assoc) refl)
after_ends Memory left out xs ys (inl h) = inl (inl (xs ++ h.0, h.1, rw (h.2, append_assoc) refl, rw (h.3, texts-append xs h.0) refl))
after_ends Memory left out xs ys (inr h) = inl (inr (h.0, rw (h.1, texts-append xs ys) refl))

pub end_is : (e : SessionEnd) (left out : List ℕ) (xs : List Exchange) → EndOfInput e left → Ends left Unfinished → out ≡ texts xs → EndsSo e left out xs
end_is e left out xs (inl h) w o = rw h.0 (h.1, o)
end_is e left out xs (inr h) w o = rw h.0 (h.1, w, o)

pub end_no_read : (e : SessionEnd) (left : List ℕ) → EndOfInput e left → e ≢ ReadFailed
end_no_read e left (inl h) r = let s = h.0 in absurd cc
end_no_read e left (inr h) r = let s = h.0 in absurd cc

pub answer_no_read : (e : SessionEnd) (left out : List ℕ) (xs : List Exchange) → AllEnd (Err e) left out xs → e ≢ ReadFailed
answer_no_read e left out xs h r = subst (λ (x : SessionEnd). AllEnd (Err x) left out xs) r h

-- the end of the input interrupts nothing
pub end_not_interrupted : (e : SessionEnd) (left : List ℕ) → EndOfInput e left → IsInterrupted e → ⊥
end_not_interrupted e left (inl h) i = rw h.0 at i
end_not_interrupted e left (inr h) i = rw h.0 at i

-- ---- a session that hears no question

unheard : (xs : List Exchange) → AreHeard (λ _. false) xs → AreExchanges xs
unheard [] h = tt
unheard (Sent r c a ∷ xs) h = (h.0.1, unheard xs h.1)
unheard (Looked r a ∷ xs) h = (h.0.1, unheard xs h.1)
unheard (Unsent r a ∷ xs) h = (h.0.1, unheard xs h.1)
unheard (Told r a ∷ xs) h = let off : false ≡ true = h.0 in absurd cc

last_plain : (ys : List Exchange) (x : Exchange) → AreExchanges (ys ++ x ∷ []) → IsExchange x
last_plain [] x h = h.0
last_plain (y ∷ ys) x h = last_plain ys x h.1

module _ (P Q W : Type 0) (port : Lent P) (tells : Q → Words → Answer → Q → Type 0) (q q' : Q) (writer : Output W) where
  pub plain_talk : (s : Said) → Conversation port (consulted (λ _. false) tells q q') writer s → Talk port writer s
  plain_talk s c = record { exchanges = unheard s.exchanges c.exchanges; chain = c.chain; written = c.written; count = c.count }

pub no_quit : (e : SessionEnd) (xs : List Exchange) → AreExchanges xs → LeavesSo e xs → e ≢ Quit
no_quit e xs plain leaves is = from (subst (λ (x : SessionEnd). LeavesSo x xs) is leaves)
  where
    from : LeavesSo Quit xs → ⊥
    from h =
        let goes = plain_goes_on h.1 (last_plain h.0 h.1 (rw h.2 at plain)) in
        let both : false ≡ true = rw goes at h.4 in
        absurd cc
