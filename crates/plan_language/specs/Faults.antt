-- The texts of what is wrong with a plan's text.
use Rattle.std.specs.Prelude.{List, ℕ, ◌++◌, codes, decimal}
use Rattle.plan_language.specs.declared.parse_fault.ParseCause.{ParseCause}
use Rattle.plan_language.specs.declared.parse_fault.ParseCause.TheVariants.{Header, Verb, Slot, Node, Count}
use Rattle.plan_language.specs.declared.parse_fault.ParseCause.TheVariants.{Range, NoEnd, TooLong, Memory}
use Rattle.plan_language.specs.declared.parse_fault.ParseCause.TheVariants.{Name, Order, SameName, Unlisted}
use Rattle.plan_language.specs.declared.parse_fault.ParseFault.{ParseFault}

-- the number and the name
abbrev pub cause_text : ParseCause → List ℕ
cause_text Header = codes "1 Header"
cause_text Verb = codes "2 Verb"
cause_text Slot = codes "3 Slot"
cause_text Node = codes "4 Node"
cause_text Count = codes "5 Count"
cause_text Range = codes "6 Range"
cause_text NoEnd = codes "7 NoEnd"
cause_text TooLong = codes "8 TooLong"
cause_text Memory = codes "9 Memory"
cause_text Name = codes "10 Name"
cause_text Order = codes "11 Order"
cause_text SameName = codes "12 SameName"
cause_text Unlisted = codes "13 Unlisted"

-- the line before the cause, as `line 2: 6 Range`
abbrev pub parse_fault_text : ParseFault → List ℕ
parse_fault_text f = codes "line " ++ decimal f.line ++ codes ": " ++ cause_text f.cause
