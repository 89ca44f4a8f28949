-- What is said of slots that are settled, and why a plan can't continue with the slots that are open.
use Rattle.std.specs.Prelude.{◌≡◌, ℕ, cond, ◌==◌, List, [], ◌∷◌, ◌++◌, codes, decimal, Option, None, Some}
use Rattle.plan_language.specs.Texts.{node_text}
use Rattle.server_commands.specs.Telling.{told}
use Rattle.server_commands.specs.declared.credentials.Credentials.{Credentials}
use Rattle.server_settling.specs.Faults as faults
use Rattle.server_settling.specs.declared.fault.SettleFault.{SettleFault}
use Rattle.server_settling.specs.declared.fault.SettleFault.TheVariants as fault
use Rattle.server_settling.specs.declared.open_stop.OpenStop.{OpenStop}
use Rattle.server_settling.specs.declared.open_stop.OpenStop.TheVariants as stop
use Rattle.server_settling.specs.declared.settling.Settled.{Settled}
use Rattle.server_settling.specs.declared.setup.OpenSlot.{OpenSlot}
use Rattle.server_settling.specs.declared.stop.SettleStop.{SettleStop}
use Rattle.server_settling.specs.declared.stranded.Stranded.{Stranded}

-- `1 connections ended at n1`, or `0 connections ended at n1 (none is from the address that n0 lists)`
abbrev pub ended_text : (count source target : ℕ) → List ℕ
ended_text k a b =
    cond (k == 0)
    (decimal k ++ (codes " connections ended at " ++ (node_text b ++ (codes " (none is from the address that "
    ++ (node_text a ++ codes " lists)")))))
    (decimal k ++ (codes " connections ended at " ++ node_text b))

-- `2 keys were at n0 and n1`
abbrev pub doubled_text : (count source target : ℕ) → List ℕ
doubled_text k a b = decimal k ++ (codes " keys were at " ++ (node_text a ++ (codes " and " ++ node_text b)))

-- `5 are at n1 alone`
abbrev pub alone_text : (count target : ℕ) → List ℕ
alone_text k b = decimal k ++ (codes " are at " ++ (node_text b ++ codes " alone"))

-- `settled slot 24: 1 connections ended at n1, 2 keys were at n0 and n1, 5 are at n1 alone`
abbrev pub settled_text : OpenSlot → Settled → List ℕ
settled_text o d = codes "settled slot " ++ (decimal o.slot ++ (codes ": " ++ (ended_text d.ended o.source o.target ++ (
    codes ", " ++ (doubled_text d.at_both o.source o.target ++ (codes ", "
    ++ alone_text d.at_target_alone o.target))))))

-- ---- stops

-- the server's own words, as they are told, after the fault
abbrev pub words_text : Option Credentials → List ℕ → List ℕ
words_text login t = codes ": " ++ told login t

abbrev pub said_text : Option Credentials → Option (List ℕ) → List ℕ
said_text login None = []
said_text login (Some t) = words_text login t

abbrev pub stop_text : Option Credentials → SettleStop → List ℕ
stop_text login e = faults.text_of e.fault ++ said_text login e.said

abbrev pub unsettled_text : Option Credentials → (slot : ℕ) → SettleStop → List ℕ
unsettled_text login s e = codes "slot " ++ (decimal s ++ (codes " can't be settled: " ++ stop_text login e))

-- `n1 holds 3 keys of slot 24, which n0 owns and does not migrate`
abbrev pub held_text : (slot source target keys : ℕ) → List ℕ
held_text s a b k = node_text b ++ (codes " holds " ++ (decimal k ++ (codes " keys of slot " ++ (decimal s ++ (
    codes ", which " ++ (node_text a ++ codes " owns and does not migrate"))))))

-- `CLUSTER SETSLOT 24 IMPORTING with n0's ID at n1`
abbrev pub importing_text : (slot source target : ℕ) → List ℕ
importing_text s a b = codes "CLUSTER SETSLOT " ++ (decimal s ++ (codes " IMPORTING with " ++ (node_text a ++ (
    codes "'s ID at " ++ node_text b))))

-- `CLUSTER SETSLOT 24 MIGRATING with n1's ID at n0`
abbrev pub migrating_text : (slot source target : ℕ) → List ℕ
migrating_text s a b = codes "CLUSTER SETSLOT " ++ (decimal s ++ (codes " MIGRATING with " ++ (node_text b ++ (
    codes "'s ID at " ++ node_text a))))

abbrev pub stranded_text : Stranded → List ℕ
stranded_text x = held_text x.slot x.source x.target x.keys ++ (codes ": " ++ (
    importing_text x.slot x.source x.target ++ (codes ", " ++ (migrating_text x.slot x.source x.target
    ++ codes ", and resume"))))

-- what is said where connections show these credentials
abbrev pub text_of : Option Credentials → OpenStop → List ℕ
text_of login stop.Memory = codes "out of memory"
text_of login (stop.Unsettled s e) = unsettled_text login s e
text_of login (stop.Stranded x) = stranded_text x
text_of login (stop.Uncounted e) = stop_text login e

-- out of memory is told as such, and any other fault as this stop
abbrev pub unless_memory : SettleFault → OpenStop → OpenStop
unless_memory fault.Memory e = stop.Memory
unless_memory other e = e

abbrev pub unsettled : (slot : ℕ) → SettleStop → OpenStop
unsettled s e = unless_memory e.fault (stop.Unsettled s e)

abbrev pub uncounted : SettleStop → OpenStop
uncounted e = unless_memory e.fault (stop.Uncounted e)
