-- What is said where a server gives no reply that is of use.
use Rattle.std.specs.Prelude.{◌≡◌, ◌⊎◌, ℕ, cond, decimal, List, ◌∷◌, ◌++◌, codes, take, Option, None, Some}
use Rattle.byte_texts.specs.Words.{begins}
use Rattle.byte_texts.specs.declared.text.TheConstants.{MAX_BYTES}
use Rattle.resp2_wire.specs.declared.reply.Reply.{Reply}
use Rattle.resp2_wire.specs.declared.reply.Reply.TheVariants as reply
use Rattle.server_commands.specs.Telling.{told}
use Rattle.server_commands.specs.declared.credentials.Credentials.{Credentials}
use Rattle.server_links.specs.Faults.{text_of}
use Rattle.server_links.specs.declared.link_fault.LinkFault.{LinkFault}

-- `n1`
abbrev pub node_word : ℕ → List ℕ
node_word n = 110 ∷ decimal n

-- `n1 answered something strange`
abbrev pub strange_text : (node : ℕ) → List ℕ
strange_text n = node_word n ++ codes " answered something strange"

-- as `n1 answered something that is no reply`
abbrev pub silence_text : (node : ℕ) → LinkFault → List ℕ
silence_text n f = node_word n ++ 32 ∷ text_of f

-- the words are kept, as many bytes as a text may have, or there is no memory for them
abbrev pub Keeps : (words : List ℕ) → Option (List ℕ) → Type 0
Keeps words said = (said ≡ Some (take MAX_BYTES words)) ⊎ (said ≡ None)

-- what is kept of a reply of use: an error's text, as it is told
abbrev pub KeepsText : Option Credentials → Reply → Option (List ℕ) → Type 0
KeepsText login (reply.Error t) said = Keeps (told login t) said
KeepsText login other said = said ≡ None

-- `replicas of n1: NOREPLICAS ..`, since the error does not say whose replicas were too slow, or any other one as told
abbrev pub error_text : Option Credentials → (node : ℕ) → List ℕ → List ℕ
error_text login n t = cond (begins (codes "NOREPLICAS ") t)
    (codes "replicas of " ++ (node_word n ++ (codes ": " ++ told login t))) (told login t)

-- what is said of a reply of the node that is of no use
abbrev pub useless_text : Option Credentials → (node : ℕ) → Reply → List ℕ
useless_text login n (reply.Error t) = error_text login n t
useless_text login n other = strange_text n

-- The reply is of no use, as this says, and that is told; or memory ran out.
abbrev pub SaysUseless : (useless : Type 0) → Option Credentials → (node : ℕ) → Reply → Option (List ℕ) → Type 0
SaysUseless useless login n r said =
    (useless × (said ≡ Some (take MAX_BYTES (useless_text login n r)))) ⊎ (said ≡ None)

-- what is said of the connection to the node, which is gone by this fault
abbrev pub SaysWhy : (node : ℕ) → Option LinkFault → Option (List ℕ) → Type 0
SaysWhy n None said = said ≡ None
SaysWhy n (Some f) said = Keeps (silence_text n f) said

-- ---- lost memory

-- what is said where there was no memory for what a server answered, or for words on that
abbrev pub lost_text : List ℕ
lost_text = codes "out of memory for the answer: whether the command was done is not known"

abbrev pub or_lost : Option (List ℕ) → List ℕ
or_lost (Some words) = words
or_lost None = lost_text
