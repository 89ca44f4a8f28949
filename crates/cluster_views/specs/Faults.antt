-- What is printed of the faults of surveys, and which may pass.
use Rattle.std.specs.Prelude.{ℕ, Bool, true, false, List, ◌∷◌, ◌++◌, Option, Some, None, codes, decimal}
use Rattle.cluster_views.specs.declared.fault.SurveyFault.{SurveyFault}
use Rattle.cluster_views.specs.declared.fault.SurveyFault.TheVariants as fault
use Rattle.server_commands.specs.NamedErrors.{advice, word_of}
use Rattle.server_commands.specs.declared.named_error.NamedError.{NamedError}

-- nodes tell one another what is new, so asking again may go well
abbrev pub is_passing : SurveyFault → Bool
is_passing (fault.UnknownMaster at) = true
is_passing (fault.Unlinked at node) = true
is_passing (fault.Unaware at node) = true
is_passing (fault.Disagreement node slot) = true
is_passing (fault.OtherEpoch at node) = true
is_passing (fault.SameEpoch node other) = true
is_passing other = false

-- what is told of an error that the server n answers: its name, where it has one
abbrev pub error_fault : (n : ℕ) → Option NamedError → SurveyFault
error_fault n None = fault.Strange n
error_fault n (Some e) = fault.Named n e

-- `n` and the number
abbrev pub node_text : ℕ → List ℕ
node_text n = 110 ∷ decimal n

abbrev pub text_of : SurveyFault → List ℕ
text_of fault.Memory = codes "out of memory"
text_of fault.NoMasters = codes "no master is listed"
text_of fault.TooManyMasters = codes "more than 255 masters are listed"
text_of (fault.NoAddress line) = codes "line " ++ (decimal line ++ codes " is a master without an IPv4 address")
text_of (fault.SameAddress line) = codes "line " ++ (decimal line ++ codes " is a master with the address of another")
text_of (fault.NoAnswer at) = node_text at ++ codes " gave no answer"
text_of (fault.Strange at) = node_text at ++ codes " answered something strange"
text_of (fault.Named at error) =
    node_text at ++ (codes " answered " ++ (word_of error ++ (codes ": " ++ advice error)))
text_of (fault.Nameless at) = node_text at ++ codes " does not list itself"
text_of (fault.OtherNode at) = node_text at ++ codes " answered as another node"
text_of (fault.Replica at) = node_text at ++ codes " is a replica"
text_of (fault.OtherAddress at) = node_text at ++ codes " gives another address of itself"
text_of (fault.UnknownMaster at) = node_text at ++ codes " knows a master that is none of the nodes"
text_of (fault.Failing at node) = node_text at ++ (codes " knows that " ++ (node_text node ++ codes " fails"))
text_of (fault.Unlinked at node) = node_text at ++ (codes " is not connected to " ++ node_text node)
text_of (fault.Unaware at node) = node_text at ++ (codes " does not know " ++ node_text node)
text_of (fault.Overlap at) = node_text at ++ codes " lists a slot twice"
text_of (fault.Uncovered at slot) = codes "no owner of slot " ++ (decimal slot ++ (codes " at " ++ node_text at))
text_of (fault.UnknownMark at slot) =
    codes "a mark of slot " ++ (decimal slot ++ (codes " at " ++ (node_text at ++ codes " names an unknown node")))
text_of (fault.Disagreement node slot) =
    codes "n0 and " ++ (node_text node ++ (codes " do not agree on slot " ++ decimal slot))
text_of (fault.OtherEpoch at node) = node_text at
    ++ (codes " and " ++ (node_text node ++ (codes " do not agree on the config epoch of " ++ node_text node)))
text_of (fault.SameEpoch node other) =
    node_text node ++ (codes " and " ++ (node_text other ++ codes " have one config epoch"))
