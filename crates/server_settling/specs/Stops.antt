-- Why settling stops, and what is kept of the server's words.
use Rattle.std.specs.Prelude.{◌≡◌, ◌⊎◌, ℕ, Bool, true, false, List, Some, None, Result, Ok, Err}
use Rattle.resp2_wire.specs.declared.reply.Reply.{Reply}
use Rattle.resp2_wire.specs.declared.reply.Reply.TheVariants as reply
use Rattle.server_settling.specs.declared.fault.SettleFault.{SettleFault}
use Rattle.server_settling.specs.declared.fault.SettleFault.TheVariants as fault
use Rattle.server_settling.specs.declared.stop.SettleStop.{SettleStop}

-- no server's words
abbrev pub stop_by : SettleFault → SettleStop
stop_by f = record { fault = f; said = None }

-- the node refused with this text, which is kept; or there is no memory for it
abbrev pub IsRefused : (node : ℕ) → (text : List ℕ) → SettleStop → Type 0
IsRefused n t e = (e ≡ record { fault = fault.Refused n; said = Some t }) ⊎ (e ≡ stop_by fault.Memory)

-- the node's reply is of no use: an error, or something strange
abbrev pub IsUseless : (node : ℕ) → Reply → SettleStop → Type 0
IsUseless n (reply.Error t) e = IsRefused n t e
IsUseless n other e = e ≡ stop_by (fault.Strange n)

-- a good reply is all that is wanted, and any other is of no use
abbrev pub Accepts : (is_good : Bool) → (node : ℕ) → Reply → Result (Unit {0}) SettleStop → Type 0
Accepts good n r (Ok u) = good ≡ true
Accepts good n r (Err e) = (good ≡ false) × IsUseless n r e
