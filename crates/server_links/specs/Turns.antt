-- How far a connection is with a request, and when that was begun: the time that it may take with its reply runs from
-- there, whatever is read and written meanwhile.
use Rattle.std.specs.Prelude.{◌≡◌, ℕ, ◌≤◌, ◌<◌, ◌-◌, max, Result, Ok, Err}
use Rattle.std.specs.Duration.{as_nanos}
use Rattle.std.specs.Time.{instant_nanos}
use Rattle.std.specs.declared.time.Duration.{Duration}
use Rattle.std.specs.declared.time.Instant.{Instant}
use Rattle.server_links.specs.declared.turn.Turn.{Turn}
use Rattle.server_links.specs.declared.turn.Turn.TheVariants.{Idle, Asking, Answering}

-- the first write after a read begins a request
abbrev pub turn_of_write : Turn → (now : Instant) → Turn
turn_of_write (Asking began) now = Asking began
turn_of_write (Answering began) now = Asking now
turn_of_write Idle now = Asking now

-- a read goes on with it
abbrev pub turn_of_read : Turn → (now : Instant) → Turn
turn_of_read (Asking began) now = Answering began
turn_of_read (Answering began) now = Answering began
turn_of_read Idle now = Answering now

abbrev pub began_at : Turn → (now : Instant) → Instant
began_at (Asking began) now = began
began_at (Answering began) now = began
began_at Idle now = now

-- what is left at this time of the time that a request and its reply may take
abbrev pub left_at : Turn → (waiting : Duration) → (now : Instant) → ℕ
left_at turn waiting now = as_nanos waiting - (instant_nanos now - instant_nanos (began_at turn now))

-- something is left of it, or it is over
abbrev pub LeavesTime : {E : Type 0} → Turn → (waiting : Duration) → (now : Instant) → Result Duration E → Type 0
LeavesTime turn waiting now (Ok d) = (as_nanos d ≡ left_at turn waiting now) × (0 < as_nanos d)
LeavesTime turn waiting now (Err e) =
    as_nanos waiting ≤ instant_nanos now - instant_nanos (began_at turn now)

-- So it is before a read after this turn. But the first read of a reply may wait a millisecond in any case: what has
-- come by then is taken, however late one comes to read it.
abbrev pub LeavesTimeToRead : {E : Type 0} → Turn → (waiting : Duration) → (now : Instant) → Result Duration E → Type 0
LeavesTimeToRead (Asking began) waiting now (Ok d) = as_nanos d ≡ max (left_at (Asking began) waiting now) 1000000
LeavesTimeToRead (Asking began) waiting now (Err e) = ⊥
LeavesTimeToRead other waiting now r = LeavesTime other waiting now r
