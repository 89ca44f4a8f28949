-- How a session ends.
use Rattle.std.specs.Prelude.{◌≡◌, ◌≢◌, ℕ, ◌+◌, ◌≤◌, Bool, true, false, List, [], ◌∷◌, ◌++◌, length, take, map, min}
use Rattle.std.specs.Prelude.{Result, Ok, Err, ◌⊎◌}
use Rattle.byte_streams.specs.Streams.{Input, Output}
use Rattle.resp2_wire.specs.declared.fault.WireFault.{WireFault}
use Rattle.resp2_wire.specs.declared.fault.WireFault.TheVariants as faults
use Rattle.resp2_wire.specs.declared.fault.Stop.TheVariants.{Unfinished, Fault}
use Rattle.resp2_wire.specs.Stream.{Ends, Gave}
use Rattle.node_session.specs.declared.session_end.SessionEnd.{SessionEnd}
use Rattle.node_session.specs.declared.session_end.SessionEnd.TheVariants.{Closed, Cut, Protocol, ReadFailed}
use Rattle.node_session.specs.declared.session_end.SessionEnd.TheVariants.{WriteFailed, Memory, Quit}
use Rattle.node_session.specs.Requests.{is_quit}
use Rattle.node_session.specs.SessionBytes.{answer_text, fault_line}
use Rattle.node_session.specs.Talk.{Exchange, Sent, Looked, Unsent, Told, request_of, answer_of, texts, most}

-- what went out lacks at most an end of the last answer
abbrev pub Lacks : List ℕ → List Exchange → Type 0
Lacks out xs = (ys zs : List Exchange) × (n : ℕ) × (xs ≡ ys ++ zs) × (length zs ≤ 1)
    × (out ≡ texts ys ++ take n (texts zs))

-- the same, where the line of the fault is the last
abbrev pub LacksLine : List ℕ → List Exchange → List ℕ → Type 0
LacksLine out xs left = (f : WireFault) × (n : ℕ) × Ends left (Fault f) × (out ≡ texts xs ++ take n (fault_line f))

-- the last answer is missing, since its bytes could not be had
abbrev pub LacksLast : List ℕ → List Exchange → Type 0
LacksLast out xs = (ys : List Exchange) × (x : Exchange) × (xs ≡ ys ++ x ∷ []) × (out ≡ texts ys)

-- what is left does not begin with a fault
abbrev pub HasNoFault : List ℕ → Type 0
HasNoFault left = (f : WireFault) → Ends left (Fault f) → ⊥

-- memory ran out at a reply, or at a request in which no fault stands
abbrev pub IsExhausted : List ℕ → List ℕ → List Exchange → Type 0
IsExhausted left out xs = LacksLast out xs ⊎ (HasNoFault left × (out ≡ texts xs))

-- the bytes of the last read could not be kept; all requests that were whole before are answered
abbrev pub IsUnkept : List ℕ → List ℕ → List Exchange → Type 0
IsUnkept left out xs = (kept : List ℕ) × (piece : List ℕ) × (left ≡ kept ++ piece) × Ends kept Unfinished
    × (out ≡ texts xs)

-- a QUIT that was told, after which the session ends
abbrev pub is_left : Exchange → Bool
is_left (Sent r c a) = false
is_left (Looked r a) = false
is_left (Unsent r a) = false
is_left (Told r a) = is_quit r

abbrev pub GoOn : List Exchange → Type 0
GoOn [] = Unit {0}
GoOn (x ∷ xs) = (is_left x ≡ false) × GoOn xs

-- a session continues after each exchange but a QUIT, which is its last
abbrev pub GoOnToLast : List Exchange → Type 0
GoOnToLast xs = (ys zs : List Exchange) × (xs ≡ ys ++ zs) × (length zs ≤ 1) × GoOn ys

-- where a QUIT may stand by how the session ended: its reply went out, or could not
abbrev pub LeavesSo : SessionEnd → List Exchange → Type 0
LeavesSo Closed xs = GoOn xs
LeavesSo Cut xs = GoOn xs
LeavesSo (Protocol f) xs = GoOn xs
LeavesSo ReadFailed xs = GoOn xs
LeavesSo WriteFailed xs = GoOnToLast xs
LeavesSo Memory xs = GoOnToLast xs
LeavesSo Quit xs = (ys : List Exchange) × (x : Exchange) × (xs ≡ ys ++ x ∷ []) × GoOn ys × (is_left x ≡ true)

-- the same of the requests that are whole, all of which were answered where nothing ended
abbrev pub AllLeave : Result (Unit {0}) SessionEnd → List Exchange → Type 0
AllLeave (Ok u) xs = GoOn xs
AllLeave (Err e) xs = LeavesSo e xs

-- What stood at the prefix of the rest of the input, and what went out. At a fault its line goes out, whatever memory
-- there is.
abbrev pub EndsSo : SessionEnd → List ℕ → List ℕ → List Exchange → Type 0
EndsSo Closed left out xs = (left ≡ []) × (out ≡ texts xs)
EndsSo Cut left out xs = (left ≢ []) × Ends left Unfinished × (out ≡ texts xs)
EndsSo (Protocol f) left out xs = Ends left (Fault f) × (out ≡ texts xs ++ fault_line f)
EndsSo ReadFailed left out xs = Ends left Unfinished × (out ≡ texts xs)
EndsSo WriteFailed left out xs = Lacks out xs ⊎ LacksLine out xs left
EndsSo Memory left out xs = IsExhausted left out xs ⊎ IsUnkept left out xs
EndsSo Quit left out xs = out ≡ texts xs

-- A session that read this input exchanged these requests, and this is what went out.
abbrev pub Served : List ℕ → List Exchange → List ℕ → SessionEnd → Type 0
Served input xs out end = (left : List ℕ) × Gave input (map request_of xs) left × EndsSo end left out xs

-- a write failed, memory ran out, or a QUIT was told, while requests were answered
abbrev pub IsInterrupted : SessionEnd → Type 0
IsInterrupted WriteFailed = Unit {0}
IsInterrupted Memory = Unit {0}
IsInterrupted Closed = ⊥
IsInterrupted Cut = ⊥
IsInterrupted (Protocol f) = ⊥
IsInterrupted ReadFailed = ⊥
IsInterrupted Quit = Unit {0}

-- Requests are answered before more is read: each one that lay whole in the reads before the last was answered, and its
-- answer went out in full. None of these was a QUIT, after which nothing more is read.
pub record AnswersBeforeReading {R : Type 0} (reader : Input R) (reads : ℕ) (input : List ℕ) (xs : List Exchange)
    (out : List ℕ) : Type 0 where
  pub reads_before : ℕ
  pub before : List ℕ
  pub piece : List ℕ
  pub middle : R
  pub answered : List Exchange
  pub others : List Exchange
  pub left : List ℕ
  pub more : List ℕ
  pub gave_before : reader.gave reader.before reads_before before middle
  pub gave_last : reader.gave middle 1 piece reader.after
  pub one_read : reads ≡ reads_before + 1
  pub both : input ≡ before ++ piece
  pub requests : Gave before (map request_of answered) left
  pub all : Ends left Unfinished
  pub no_quit : GoOn answered
  pub exchanges : xs ≡ answered ++ others
  pub written : out ≡ texts answered ++ more

-- these bytes went out, and were counted
abbrev pub WritesPrefix : {W : Type 0} → Output W → (sent sent' : ℕ) → (List ℕ → Type 0) → Type 0
WritesPrefix writer sent sent' P = (out : List ℕ) × writer.took writer.before out writer.after
    × (sent' ≡ min (sent + length out) most) × P out

-- the text of one answer went out, or a part of it
abbrev pub OneEnd : Result (Unit {0}) SessionEnd → List ℕ → List ℕ → Type 0
OneEnd (Ok u) out text = out ≡ text
OneEnd (Err WriteFailed) out text = (n : ℕ) × (out ≡ take n text)
OneEnd (Err Memory) out text = out ≡ []
OneEnd (Err e) out text = ⊥

-- The same of one exchange, after which the session continues, or ends by a QUIT.
abbrev pub OneSaid : Result (Unit {0}) SessionEnd → List ℕ → Exchange → Type 0
OneSaid (Ok u) out x = (out ≡ answer_text (answer_of x)) × (is_left x ≡ false)
OneSaid (Err Quit) out x = (out ≡ answer_text (answer_of x)) × (is_left x ≡ true)
OneSaid (Err e) out x = OneEnd (Err e) out (answer_text (answer_of x))

-- all requests that are whole are answered, or it ended before
abbrev pub AllEnd : Result (Unit {0}) SessionEnd → List ℕ → List ℕ → List Exchange → Type 0
AllEnd (Ok u) left out xs = Ends left Unfinished × (out ≡ texts xs)
AllEnd (Err Closed) left out xs = ⊥
AllEnd (Err Cut) left out xs = ⊥
AllEnd (Err ReadFailed) left out xs = ⊥
AllEnd (Err Memory) left out xs = IsExhausted left out xs
AllEnd (Err e) left out xs = EndsSo e left out xs

-- what is written at a fault, and how that ends: out of memory alone has no line
abbrev pub Refused : WireFault → SessionEnd → List ℕ → Type 0
Refused f Memory out = (f ≡ faults.Memory) × (out ≡ [])
Refused f (Protocol g) out = (g ≡ f) × (f ≢ faults.Memory) × (out ≡ fault_line f)
Refused f WriteFailed out = (f ≢ faults.Memory) × (n : ℕ) × (out ≡ take n (fault_line f))
Refused f Closed out = ⊥
Refused f Cut out = ⊥
Refused f ReadFailed out = ⊥
Refused f Quit out = ⊥

-- the input ended between requests, or inside one
abbrev pub EndOfInput : SessionEnd → List ℕ → Type 0
EndOfInput end left = ((end ≡ Closed) × (left ≡ [])) ⊎ ((end ≡ Cut) × (left ≢ []))
