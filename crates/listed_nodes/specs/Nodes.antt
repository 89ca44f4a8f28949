-- What a server answers to CLUSTER NODES: a line for each node that it knows (the page of CLUSTER NODES). A line is
-- `ID ADDRESS FLAGS MASTER PING PONG EPOCH LINK SLOTS ..`, its words parted by one space, and ends with a line feed.
use Rattle.std.specs.Prelude.{ℕ, Bool, ◌||◌, List, [], ◌∷◌, Option, None, Some, codes}
use Rattle.std.specs.List.{list_any}
use Rattle.byte_texts.specs.Decimals.{wide_number}
use Rattle.byte_texts.specs.Parts.{parts}
use Rattle.byte_texts.specs.Words.{is}
use Rattle.listed_nodes.specs.Addresses.{address_in}
use Rattle.listed_nodes.specs.Names.{if_there, name_in}
use Rattle.listed_nodes.specs.SlotWords.{slot_words_in}
use Rattle.listed_nodes.specs.declared.slot_word.SlotWord.{SlotWord}
use Rattle.listed_nodes.specs.declared.node_line.NodeLine.{NodeLine}

-- one of the words between the commas is this
abbrev pub has_flag : (flag : List ℕ) → List ℕ → Bool
has_flag flag flags = list_any (is flag) (parts 44 flags)

-- Of the flags `myself`, `master`, `fail` and `fail?` say something here. One in handshake is no master yet, and one
-- without an address has none in its line.
abbrev pub line_with : (name : List ℕ) (address : List ℕ × ℕ) (epoch : ℕ) (slots : List SlotWord)
    → (flags link : List ℕ) → NodeLine
line_with name address epoch slots flags link = record {
  name = name;
  host = address.0;
  port = address.1;
  is_myself = has_flag (codes "myself") flags;
  is_master = has_flag (codes "master") flags;
  is_failing = has_flag (codes "fail") flags || has_flag (codes "fail?") flags;
  has_failed = has_flag (codes "fail") flags;
  is_linked = is (codes "connected") link;
  epoch = epoch;
  slots = slots;
}

abbrev pub line_of : (name address flags epoch link : List ℕ) (slots : List (List ℕ)) → Option NodeLine
line_of name address flags epoch link slots =
    if_there (name_in name) (λ n.
    if_there (address_in address) (λ a.
    if_there (wide_number epoch) (λ e.
    if_there (slot_words_in slots) (λ ss. Some (line_with n a e ss flags link)))))

-- a replica's master, and the times of a ping and a pong, say nothing here
abbrev pub line_in : List (List ℕ) → Option NodeLine
line_in (name ∷ (address ∷ (flags ∷ (master ∷ (ping ∷ (pong ∷ (epoch ∷ (link ∷ slots)))))))) =
    line_of name address flags epoch link slots
line_in words = None

-- nothing stands after the last line feed
abbrev pub last_line : List ℕ → Option (List NodeLine)
last_line [] = Some []
last_line (b ∷ t) = None

abbrev pub lines_in : List (List ℕ) → Option (List NodeLine)
lines_in [] = None
lines_in (t ∷ []) = last_line t
lines_in (t ∷ (next ∷ more)) =
    if_there (line_in (parts 32 t)) (λ first. if_there (lines_in (next ∷ more)) (λ rest. Some (first ∷ rest)))

abbrev pub nodes_of_text : List ℕ → Option (List NodeLine)
nodes_of_text t = lines_in (parts 10 t)
