-- What one server says of its cluster: of itself, of the other masters, of the slots' owners, and its marks (the pages
-- of CLUSTER NODES and CLUSTER SETSLOT). The servers are numbered; `n` is the one that answers.
use Rattle.std.specs.Prelude.{◌≡◌, ℕ, ◌+◌, ◌-◌, ◌<◌, Bool, false, cond, not, ◌&&◌, ◌==◌, List, [], ◌∷◌, length, Option}
use Rattle.std.specs.Prelude.{Some, None}
use Rattle.std.specs.Prelude.{find, is_none, nat_le, option_map, position, slice_index, slice_index_or}
use Rattle.std.specs.FinMap as finite
use Rattle.std.specs.List.{list_any, sum_by}
use Rattle.std.specs.Option.{option_or}
use Rattle.byte_texts.specs.Outcomes.{first_refusal}
use Rattle.byte_texts.specs.Words.{is}
use Rattle.slot_marks.specs.Rows.{AreOfSlots}
use Rattle.listed_nodes.specs.declared.node_line.NodeLine.{NodeLine}
use Rattle.listed_nodes.specs.declared.slot_word.SlotWord.{SlotWord}
use Rattle.listed_nodes.specs.declared.slot_word.SlotWord.TheVariants.{Slots, Migrating, Importing}
use Rattle.cluster_admin.specs.Surveys.{Row}
use Rattle.cluster_views.specs.Gone.{is_gone}
use Rattle.cluster_views.specs.Numbers.{first_given, numbers_to}
use Rattle.cluster_views.specs.declared.fault.SurveyFault.{SurveyFault}
use Rattle.cluster_views.specs.declared.fault.SurveyFault.TheVariants as fault
use Rattle.server_commands.specs.Servers.{server_at}
use Rattle.server_commands.specs.declared.book.Server.{Server}

-- the number of the server with this ID
abbrev pub number_of : List Server → (name : List ℕ) → Option ℕ
number_of b name = position (λ s. is name s.name) b

-- ---- the server itself

-- the first line of the server that answers
abbrev pub own_line : List NodeLine → Option NodeLine
own_line ls = find (λ l. l.is_myself) ls

abbrev pub has_address : Server → NodeLine → Bool
has_address s l = is l.host s.host && s.port == l.port

abbrev pub own_fault : (n : ℕ) → Server → Option NodeLine → Option SurveyFault
own_fault n s None = Some (fault.Nameless n)
own_fault n s (Some l) = first_refusal (
    (not (is l.name s.name), fault.OtherNode n)
    ∷ (not l.is_master, fault.Replica n)
    ∷ (not (has_address s l), fault.OtherAddress n)
    ∷ [])

-- ---- the masters that it knows

-- each is one of the servers, is not failing, and has a connection to the one that answers; one that is gone, and none
-- of the servers, is passed over
abbrev pub known_fault : (n : ℕ) → NodeLine → Option ℕ → Option SurveyFault
known_fault n l None = cond (is_gone l) None (Some (fault.UnknownMaster n))
known_fault n l (Some m) =
    first_refusal ((l.is_failing, fault.Failing n m) ∷ (not l.is_linked, fault.Unlinked n m) ∷ [])

abbrev pub master_fault : List Server → (n : ℕ) → NodeLine → Option SurveyFault
master_fault b n l = cond l.is_master (known_fault n l (number_of b l.name)) None

-- the first line of this server as a master
abbrev pub line_about : Server → List NodeLine → Option NodeLine
line_about s ls = find (λ l. l.is_master && is l.name s.name) ls

abbrev pub unaware_fault : List Server → (n : ℕ) → List NodeLine → (m : ℕ) → Option SurveyFault
unaware_fault b n ls m = cond (is_none (line_about (server_at b m) ls)) (Some (fault.Unaware n m)) None

-- ---- the owners of slots

abbrev pub has_slot : ℕ → SlotWord → Bool
has_slot s (Slots first last) = nat_le first s && nat_le s last
has_slot s (Migrating t name) = false
has_slot s (Importing t name) = false

abbrev pub lists : ℕ → NodeLine → Bool
lists s l = l.is_master && list_any (has_slot s) l.slots

-- the owner, if the words list the slot
abbrev pub owned_by : (owner slot : ℕ) → List SlotWord → Option ℕ
owned_by owner s ws = cond (list_any (has_slot s) ws) (Some owner) None

-- the server whose line this is, if it lists the slot
abbrev pub said_by : List Server → (slot : ℕ) → NodeLine → Option ℕ
said_by b s l = cond (lists s l) (number_of b l.name) None

-- the server in whose line the slot is listed
abbrev pub owner_said : List Server → List NodeLine → (slot : ℕ) → Option ℕ
owner_said b ls s = first_given (said_by b s) ls

-- so says a list of optional owners, from slot 0 on
pub record Says (b : List Server) (ls : List NodeLine) (row : List (Option ℕ)) : Type 0 where
  pub width : length row ≡ 16384
  pub owners : (s : ℕ) → s < 16384 → slice_index_or row s None ≡ owner_said b ls s

-- how many slots a word lists, and a line, if it is a master's
abbrev pub size_of : SlotWord → ℕ
size_of (Slots first last) = last + 1 - first
size_of (Migrating t name) = 0
size_of (Importing t name) = 0

abbrev pub listed : NodeLine → ℕ
listed l = cond l.is_master (sum_by size_of l.slots) 0

-- with more, some slot is listed twice
abbrev pub overlap_fault : (n : ℕ) → List NodeLine → Option SurveyFault
overlap_fault n ls = cond (nat_le (sum_by listed ls) 16384) None (Some (fault.Overlap n))

abbrev pub uncovered_fault : List Server → (n : ℕ) → List NodeLine → Option SurveyFault
uncovered_fault b n ls =
    option_map (λ s. fault.Uncovered n s) (find (λ s. is_none (owner_said b ls s)) (numbers_to 16384))

-- ---- its own marks

abbrev pub words_of : Option NodeLine → List SlotWord
words_of None = []
words_of (Some l) = l.slots

abbrev pub own_words : List NodeLine → List SlotWord
own_words ls = words_of (own_line ls)

abbrev pub migrates : List Server → (slot : ℕ) → SlotWord → Option ℕ
migrates b s (Migrating t name) = cond (s == t) (number_of b name) None
migrates b s (Slots first last) = None
migrates b s (Importing t name) = None

abbrev pub imports : List Server → (slot : ℕ) → SlotWord → Option ℕ
imports b s (Importing t name) = cond (s == t) (number_of b name) None
imports b s (Slots first last) = None
imports b s (Migrating t name) = None

-- where the slot goes, and where it comes from: of two marks of a kind the first counts
abbrev pub migrating_said : List Server → List NodeLine → (slot : ℕ) → Option ℕ
migrating_said b ls s = first_given (migrates b s) (own_words ls)

abbrev pub importing_said : List Server → List NodeLine → (slot : ℕ) → Option ℕ
importing_said b ls s = first_given (imports b s) (own_words ls)

abbrev pub named_fault : (n slot : ℕ) → Option ℕ → Option SurveyFault
named_fault n s None = Some (fault.UnknownMark n s)
named_fault n s (Some m) = None

abbrev pub mark_fault : List Server → (n : ℕ) → SlotWord → Option SurveyFault
mark_fault b n (Slots first last) = None
mark_fault b n (Migrating s name) = named_fault n s (number_of b name)
mark_fault b n (Importing s name) = named_fault n s (number_of b name)

-- ---- all of it

-- the first that applies
abbrev pub plain_fault : List Server → (n : ℕ) → List NodeLine → Option SurveyFault
plain_fault b n ls =
    option_or (own_fault n (server_at b n) (own_line ls))
    (option_or (first_given (master_fault b n) ls)
    (option_or (first_given (unaware_fault b n ls) (numbers_to (length b)))
    (option_or (first_given (mark_fault b n) (own_words ls)) (overlap_fault n ls))))

abbrev pub view_fault : List Server → (n : ℕ) → List NodeLine → Option SurveyFault
view_fault b n ls = option_or (plain_fault b n ls) (uncovered_fault b n ls)

-- these are the owners and marks that the server tells
pub record IsRowOf (b : List Server) (ls : List NodeLine) (r : Row) : Type 0 where
  pub width : length r.owners ≡ 16384
  pub owners : (s : ℕ) → s < 16384 → owner_said b ls s ≡ Some (slice_index r.owners s)
  pub migrating : (s : ℕ) → s < 16384 → finite.get r.migrating s ≡ migrating_said b ls s
  pub importing : (s : ℕ) → s < 16384 → finite.get r.importing s ≡ importing_said b ls s
  pub migrating_slots : AreOfSlots r.migrating
  pub importing_slots : AreOfSlots r.importing
