-- What is said where a slot is not settled.
use Rattle.std.specs.Prelude.{ℕ, List, ◌∷◌, ◌++◌, codes, decimal}
use Rattle.server_settling.specs.declared.fault.SettleFault.{SettleFault}
use Rattle.server_settling.specs.declared.fault.SettleFault.TheVariants as fault

-- `n` and the number
abbrev pub node_text : ℕ → List ℕ
node_text n = 110 ∷ decimal n

abbrev pub text_of : SettleFault → List ℕ
text_of fault.Memory = codes "out of memory"
text_of (fault.NoAnswer n) = node_text n ++ codes " gave no answer"
text_of (fault.TooLong n) = node_text n ++ codes " gave a longer answer than this command has"
text_of (fault.NoReply n) = node_text n ++ codes " answered something that is no reply"
text_of (fault.Strange n) = node_text n ++ codes " answered something strange"
text_of (fault.Refused n) = node_text n ++ codes " refused"
text_of (fault.Restless n) = node_text n ++ codes " may still take keys"
