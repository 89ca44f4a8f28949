-- The text of a plan: how it is written, and what is read from a text.
use Rattle.std.specs.Prelude.{◌≡◌, ◌⊎◌, ◌↔◌, ℕ, ◌+◌, Bool, true, false, cond, not, ◌&&◌, ◌==◌, nat_lt, nat_le, nat_eq}
use Rattle.std.specs.Prelude.{List, [], ◌∷◌, ◌++◌, Option, None, Some, Result, Ok, Err, IsOk, codes, decimal}
use Rattle.std.specs.Cmp.Lexicographic.{pointwise}
use Rattle.std.specs.List.{join_with_byte}
use Rattle.std.specs.Option.{is_some, option_and_then, option_map}
use Rattle.byte_texts.specs.Decimals.{number_in}
pub use Rattle.byte_texts.specs.Parts.{are_words, is_nothing, is_word, parts}
use Rattle.key_slots.specs.Numbers.{node_among, slot_in}
use Rattle.node_names.specs.Names.{Names, are_below, has_name, is_name}
use Rattle.plan_language.specs.declared.plan_command.PlanCommand.{PlanCommand}
use Rattle.plan_language.specs.declared.plan_command.PlanCommand.TheVariants.{Importing, Migrating, Drain, SetNode}
use Rattle.plan_language.specs.declared.plan_command.PlanCommand.TheVariants.{Stable}
use Rattle.plan_language.specs.declared.setting.Setting.{Setting}
use Rattle.plan_language.specs.declared.setting.Setting.TheVariants as setting
use Rattle.plan_language.specs.declared.line.Line.{Line}
use Rattle.plan_language.specs.declared.line.Line.TheVariants.{Command, Move}
use Rattle.plan_language.specs.declared.parse_fault.ParseCause.{ParseCause}
use Rattle.plan_language.specs.declared.parse_fault.ParseCause.TheVariants.{Header, Verb, Slot, Node, Count}
use Rattle.plan_language.specs.declared.parse_fault.ParseCause.TheVariants.{Range, NoEnd, TooLong, Memory}
use Rattle.plan_language.specs.declared.parse_fault.ParseCause.TheVariants.{Name, Order, SameName, Unlisted}
use Rattle.plan_language.specs.declared.parse_fault.ParseFault.{ParseFault}
use Rattle.plan_language.specs.declared.limits.Limits.{Limits}
use Rattle.plan_language.specs.Limits.{limits_of}
use Rattle.plan_language.specs.Lines.{are_listed, line_count, IsListed, IsPlan}
use Rattle.plan_language.specs.PlanView.{PlanView}

-- ---- how a plan is written

abbrev pub node_text : ℕ → List ℕ
node_text n = 110 ∷ decimal n

-- one slot, or the first and the last with `-` between them
abbrev pub slots_text : (first last : ℕ) → List ℕ
slots_text first last = cond (first == last) (decimal first) (decimal first ++ 45 ∷ decimal last)

abbrev pub setslot_words : (slot : ℕ) (how : List ℕ) (node at : ℕ) → List (List ℕ)
setslot_words slot how node at =
    codes "setslot" ∷ decimal slot ∷ how ∷ node_text node ∷ codes "at" ∷ node_text at ∷ []

abbrev pub command_words : PlanCommand → List (List ℕ)
command_words (Importing slot s at) = setslot_words slot (codes "importing") s at
command_words (Migrating slot t at) = setslot_words slot (codes "migrating") t at
command_words (SetNode slot owner at) = setslot_words slot (codes "node") owner at
command_words (Stable slot at) =
    codes "setslot" ∷ decimal slot ∷ codes "stable" ∷ codes "at" ∷ node_text at ∷ []
command_words (Drain slot s t b) =
    codes "drain" ∷ decimal slot ∷ codes "at" ∷ node_text s ∷ codes "to" ∷ node_text t ∷ codes "by" ∷ decimal b ∷ []

abbrev pub line_words : Line → List (List ℕ)
line_words (Command command) = command_words command
line_words (Move first last s t b) =
    codes "move" ∷ slots_text first last ∷ codes "from" ∷ node_text s ∷ codes "to" ∷ node_text t
    ∷ codes "by" ∷ decimal b ∷ []

-- words are parted by one space
abbrev pub command_text : PlanCommand → List ℕ
command_text command = join_with_byte 32 (command_words command)

abbrev pub line_text : Line → List ℕ
line_text line = join_with_byte 32 (line_words line)

-- each line ends with a line feed
abbrev pub lines_text : List Line → List ℕ
lines_text [] = []
lines_text (line ∷ lines) = line_text line ++ 10 ∷ lines_text lines

-- `node NODE NAME`
abbrev pub name_words : ℕ × List ℕ → List (List ℕ)
name_words p = codes "node" ∷ node_text p.0 ∷ p.1 ∷ []

abbrev pub name_text : ℕ × List ℕ → List ℕ
name_text p = join_with_byte 32 (name_words p)

abbrev pub names_text : Names → List ℕ
names_text [] = []
names_text (p ∷ names) = name_text p ++ 10 ∷ names_text names

-- the versions 1 to 3 have no names
abbrev pub listing_text : Option Names → List ℕ
listing_text None = []
listing_text (Some names) = names_text names

-- with names, the rules of version 1 make version 4, and those of version 3 version 5
abbrev pub text_version : (version : ℕ) → Option Names → ℕ
text_version version None = version
text_version version (Some names) = cond (version == 3) 5 4

-- a plan's first line tells its version
abbrev pub header_text : (version : ℕ) → List ℕ
header_text version = codes "reshard-plan " ++ decimal version

-- what stands before a plan's lines
abbrev pub head_text : PlanView → List ℕ
head_text plan = header_text (text_version plan.version plan.names) ++ 10 ∷ listing_text plan.names

abbrev pub plan_text : PlanView → List ℕ
plan_text plan = head_text plan ++ (lines_text plan.lines ++ (codes "end" ++ 10 ∷ []))

-- ---- what a line of a text is

abbrev pub is_text : List ℕ → List ℕ → Bool
is_text word t = pointwise nat_eq t word

abbrev pub if_there : {A B : Type 0} → Option A → ParseCause → (A → Result B ParseCause) → Result B ParseCause
if_there None cause f = Err cause
if_there (Some a) cause f = f a

abbrev pub and_then : {A B : Type 0} → Result A ParseCause → (A → Result B ParseCause) → Result B ParseCause
and_then (Err cause) f = Err cause
and_then (Ok a) f = f a

abbrev pub setting_in : List ℕ → Option Setting
setting_in how =
    cond (is_text (codes "importing") how) (Some setting.Importing)
    (cond (is_text (codes "migrating") how) (Some setting.Migrating)
    (cond (is_text (codes "node") how) (Some setting.Node) None))

abbrev pub setslot : Setting → (slot node at : ℕ) → PlanCommand
setslot setting.Importing slot node at = Importing slot node at
setslot setting.Migrating slot node at = Migrating slot node at
setslot setting.Node slot node at = SetNode slot node at

-- one slot, or two with `-` between them, and whether they are two
abbrev pub slots_in : List (List ℕ) → Option (ℕ × ℕ × Bool)
slots_in [] = None
slots_in (slot ∷ []) = option_map (λ s. (s, s, false)) (slot_in slot)
slots_in (first ∷ (last ∷ [])) =
    option_and_then (λ a. option_map (λ b. (a, b, true)) (slot_in last)) (slot_in first)
slots_in (first ∷ (last ∷ (part ∷ more))) = None

-- last a range whose first slot is not below its second 6
abbrev pub line_of_move : (slots : ℕ × ℕ × Bool) (route : ℕ × ℕ × ℕ) → Result Line ParseCause
line_of_move slots route =
    cond (slots.2 && not (nat_lt slots.0 slots.1)) (Err Range) (Ok (Move slots.0 slots.1 route.0 route.1 route.2))

-- ---- within these limits

module _ (limits : Limits) where
  -- `setslot SLOT HOW NODE at NODE`: another word 2, and then from the left a bad slot 3, a bad node 4
  abbrev pub set_line : (slot how : List ℕ) → List (List ℕ) → Result Line ParseCause
  set_line slot how (node ∷ at ∷ place ∷ []) =
      if_there (setting_in how) Verb (λ set.
      cond (is_text (codes "at") at)
      (if_there (slot_in slot) Slot (λ s.
      if_there (node_among limits.nodes node) Node (λ n.
      if_there (node_among limits.nodes place) Node (λ a. Ok (Command (setslot set s n a))))))
      (Err Verb))
  set_line slot how words = Err Verb

  -- `setslot SLOT stable at NODE`
  abbrev pub stable_line : (slot : List ℕ) → List (List ℕ) → Result Line ParseCause
  stable_line slot (at ∷ place ∷ []) =
      cond (is_text (codes "at") at)
      (if_there (slot_in slot) Slot (λ s.
      if_there (node_among limits.nodes place) Node (λ a. Ok (Command (Stable s a)))))
      (Err Verb)
  stable_line slot words = Err Verb

  -- a slot is set stable in version 3 alone
  abbrev pub setslot_line : (version : ℕ) → List (List ℕ) → Result Line ParseCause
  setslot_line version (slot ∷ how ∷ words) =
      cond (is_text (codes "stable") how && version == 3) (stable_line slot words) (set_line slot how words)
  setslot_line version words = Err Verb

  -- two nodes and a batch: a bad one 5
  abbrev pub route_in : (source target batch : List ℕ) → Result (ℕ × ℕ × ℕ) ParseCause
  route_in source target batch =
      if_there (node_among limits.nodes source) Node (λ s.
      if_there (node_among limits.nodes target) Node (λ t.
      if_there (number_in 1 1000 batch) Count (λ b. Ok (s, t, b))))

  -- `drain SLOT at NODE to NODE by BATCH`
  abbrev pub drain_line : List (List ℕ) → Result Line ParseCause
  drain_line (slot ∷ at ∷ source ∷ to ∷ target ∷ by ∷ batch ∷ []) =
      cond (is_text (codes "at") at && is_text (codes "to") to && is_text (codes "by") by)
      (if_there (slot_in slot) Slot (λ s.
      and_then (route_in source target batch) (λ r. Ok (Command (Drain s r.0 r.1 r.2)))))
      (Err Verb)
  drain_line words = Err Verb

  -- `move SLOTS from NODE to NODE by BATCH`
  abbrev pub move_line : List (List ℕ) → Result Line ParseCause
  move_line (slots ∷ from ∷ source ∷ to ∷ target ∷ by ∷ batch ∷ []) =
      cond (is_text (codes "from") from && is_text (codes "to") to && is_text (codes "by") by)
      (if_there (slots_in (parts 45 slots)) Slot (λ range.
      and_then (route_in source target batch) (λ route. line_of_move range route)))
      (Err Verb)
  move_line words = Err Verb

  -- the first word says which line it is
  abbrev pub row_in : (version : ℕ) → List (List ℕ) → Result Line ParseCause
  row_in version [] = Err Verb
  row_in version (verb ∷ words) =
      cond (is_text (codes "setslot") verb) (setslot_line version words)
      (cond (is_text (codes "drain") verb) (drain_line words)
      (cond (is_text (codes "move") verb) (move_line words) (Err Verb)))

  abbrev pub line_in : (version : ℕ) → List (List ℕ) → Result Line ParseCause
  line_in version words = cond (are_words words) (row_in version words) (Err Verb)

-- each node of a line is listed, where there are names
abbrev pub listed : Option Names → Result Line ParseCause → Result Line ParseCause
listed names (Err cause) = Err cause
listed names (Ok line) = cond (are_listed names line) (Ok line) (Err Unlisted)

abbrev pub command_in : Option Names → (version : ℕ) → List (List ℕ) → Result Line ParseCause
command_in names version words = listed names (line_in (limits_of names) version words)

-- ---- what a line of a node is

-- the node 4, the name 10, a node that is not above those before 11, and a name that one of them has 12
abbrev pub name_row : Names → (node name : List ℕ) → Result (ℕ × List ℕ) ParseCause
name_row names node name =
    if_there (node_among 255 node) Node (λ n.
    cond (is_name name)
    (cond (are_below names n) (cond (has_name names name) (Err SameName) (Ok (n, name))) (Err Order))
    (Err Name))

-- `node NODE NAME`, after these names
abbrev pub name_of : Names → List (List ℕ) → Result (ℕ × List ℕ) ParseCause
name_of names (verb ∷ (node ∷ (name ∷ []))) = name_row names node name
name_of names words = Err Verb

abbrev pub name_in : Names → List (List ℕ) → Result (ℕ × List ℕ) ParseCause
name_in names words = cond (are_words words) (name_of names words) (Err Verb)

-- its first word says that it is one
abbrev pub is_of_node : List (List ℕ) → Bool
is_of_node [] = false
is_of_node (verb ∷ words) = is_text (codes "node") verb

-- ---- what a text is

abbrev pub ParsedLines : Type 0
ParsedLines = Result (List Line) ParseFault

abbrev pub fault : {A : Type 0} → ParseCause → (line : ℕ) → Result A ParseFault
fault cause n = Err (record { cause = cause; line = n })

-- nothing stands after the end and its line feed
abbrev pub parse_end : (line : ℕ) → List (List ℕ) → ParsedLines
parse_end n rest = cond (is_nothing rest) (Ok []) (fault Verb n)

abbrev pub with_line : Line → ParsedLines → ParsedLines
with_line line (Ok lines) = Ok (line ∷ lines)
with_line line (Err f) = Err f

-- a line within the limits, and what the text goes on with
abbrev pub line_then : Limits → (line before : ℕ) → Result Line ParseCause → (ℕ → ParsedLines) → ParsedLines
line_then l n before (Err cause) rest = fault cause n
line_then l n before (Ok line) rest =
    cond (nat_le (before + line_count l line) l.commands) (with_line line (rest (before + line_count l line)))
    (fault TooLong n)

-- a plan's last line
abbrev pub ends_plan : List ℕ → Bool
ends_plan t = is_text (codes "end") t

-- the lines from one on, before which so many commands are counted; what ends the text with no line feed is no line
abbrev pub lines_in : Option Names → (version line before : ℕ) → List (List ℕ) → ParsedLines
lines_in names version n before [] = fault NoEnd n
lines_in names version n before (t ∷ []) = fault NoEnd n
lines_in names version n before (t ∷ (next ∷ more)) =
    cond (ends_plan t) (parse_end (n + 1) (next ∷ more))
    (line_then (limits_of names) n before (command_in names version (parts 32 t))
    (λ count. lines_in names version (n + 1) count (next ∷ more)))

abbrev pub Parsed : Type 0
Parsed = Result PlanView ParseFault

abbrev pub as_plan : (version : ℕ) → Option Names → ParsedLines → Parsed
as_plan version names (Ok lines) = Ok (record { version = version; names = names; lines = lines })
as_plan version names (Err f) = Err f

-- the version that a plan's first line tells, where no nodes are listed
abbrev pub version_in : List ℕ → Option ℕ
version_in t =
    cond (is_text (codes "reshard-plan 1") t) (Some 1)
    (cond (is_text (codes "reshard-plan 2") t) (Some 2)
    (cond (is_text (codes "reshard-plan 3") t) (Some 3) None))

-- a plan's first line, where no nodes are listed
abbrev pub is_header : List ℕ → Bool
is_header t = is_some (version_in t)

-- what follows a first line that tells this version
abbrev pub plan_after : Option ℕ → List (List ℕ) → Parsed
plan_after None rest = fault Header 1
plan_after (Some version) rest = as_plan version None (lines_in None version 2 0 rest)

abbrev pub plan_in_lines : List (List ℕ) → Parsed
plan_in_lines [] = fault NoEnd 1
plan_in_lines (t ∷ []) = fault NoEnd 1
plan_in_lines (t ∷ (next ∷ more)) = plan_after (version_in t) (next ∷ more)

-- versions 1 to 3: the header, the lines and the end, each ended by a line feed: the first line at fault decides
abbrev pub plan_of_text : List ℕ → Parsed
plan_of_text t = plan_in_lines (parts 10 t)

-- ---- versions 4 and 5

-- a line of a node, and what the text goes on with
abbrev pub name_then : (line : ℕ) → Result (ℕ × List ℕ) ParseCause → (ℕ × List ℕ → Parsed) → Parsed
name_then n (Err cause) rest = fault cause n
name_then n (Ok p) rest = rest p

-- the lines from one on, of which the first may be of nodes, after these names
abbrev pub names_in : (version line : ℕ) → Names → List (List ℕ) → Parsed
names_in version n names [] = fault NoEnd n
names_in version n names (t ∷ []) = fault NoEnd n
names_in version n names (t ∷ (next ∷ more)) =
    cond (is_of_node (parts 32 t))
    (name_then n (name_in names (parts 32 t)) (λ p. names_in version (n + 1) (names ++ p ∷ []) (next ∷ more)))
    (as_plan version (Some names) (lines_in (Some names) version n 0 (t ∷ (next ∷ more))))

-- whether the first of these lines is a whole one, and of a node
abbrev pub begins_with_node : List (List ℕ) → Bool
begins_with_node [] = false
begins_with_node (t ∷ []) = false
begins_with_node (t ∷ (next ∷ more)) = is_of_node (parts 32 t)

-- the version of the rules, where the first line tells that nodes are listed
abbrev pub listing_version_in : List ℕ → Option ℕ
listing_version_in t =
    cond (is_text (codes "reshard-plan 4") t) (Some 1) (cond (is_text (codes "reshard-plan 5") t) (Some 3) None)

abbrev pub any_plan_after : Option ℕ → (first : List ℕ) → List (List ℕ) → Parsed
any_plan_after None t rest = plan_in_lines (t ∷ rest)
any_plan_after (Some version) t rest = names_in version 2 [] rest

abbrev pub any_plan_in_lines : List (List ℕ) → Parsed
any_plan_in_lines [] = fault NoEnd 1
any_plan_in_lines (t ∷ []) = fault NoEnd 1
any_plan_in_lines (t ∷ (next ∷ more)) = any_plan_after (listing_version_in t) t (next ∷ more)

-- any version: in 4 and 5, the lines of nodes stand after the header
abbrev pub any_plan_of_text : List ℕ → Parsed
any_plan_of_text t = any_plan_in_lines (parts 10 t)

-- ---- laws

-- what is given is this, or out of memory in place of a plan
abbrev pub GivesPlan : Result PlanView ParseFault → Parsed → Type 0
GivesPlan (Ok plan) wanted = wanted ≡ Ok plan
GivesPlan (Err f) wanted = (wanted ≡ Err f) ⊎ ((f.cause ≡ Memory) × IsOk wanted)

-- a text is read as a plan of a version 1 to 3 exactly where it is what that plan is written as
abbrev pub PlansHaveOneText : Type 0
PlansHaveOneText =
    (t : List ℕ) (plan : PlanView)
    → (plan_of_text t ≡ Ok plan) ↔ ((t ≡ plan_text plan) × IsPlan plan × (plan.names ≡ None))

-- and as a plan of any version
abbrev pub AnyPlansHaveOneText : Type 0
AnyPlansHaveOneText =
    (t : List ℕ) (plan : PlanView)
    → (any_plan_of_text t ≡ Ok plan) ↔ ((t ≡ plan_text plan) × IsPlan plan × IsListed plan)
