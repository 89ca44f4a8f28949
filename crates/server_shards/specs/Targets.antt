-- The targets of a plan, and the failed masters that may take their slots.
use Rattle.std.specs.Prelude.{◌≡◌, ◌⊎◌, ◌<◌, ℕ, Bool, true, false, ◌&&◌, ◌==◌, List, [], ◌∷◌, ◌++◌, length, Ok, Err}
use Rattle.std.specs.Prelude.{codes, decimal}
use Rattle.std.specs.List.{list_any}
use Rattle.byte_texts.specs.Parts.{parts}
use Rattle.byte_texts.specs.Words.{is}
use Rattle.cluster_views.specs.declared.fault.SurveyFault.{SurveyFault}
use Rattle.cluster_views.specs.declared.fault.SurveyFault.TheVariants as fault
use Rattle.plan_language.specs.declared.line.Line.{Line}
use Rattle.plan_language.specs.declared.line.Line.TheVariants as line
use Rattle.plan_language.specs.declared.plan_command.PlanCommand.{PlanCommand}
use Rattle.plan_language.specs.declared.plan_command.PlanCommand.TheVariants as command
use Rattle.server_commands.specs.Servers.{server_at}
use Rattle.server_commands.specs.declared.book.Server.{Server}
use Rattle.server_links.specs.Asking.{AsksAt}
use Rattle.server_shards.specs.Returning.{Asks, MayTakeBack}
use Rattle.survey_texts.specs.Texts.{node_text}

-- ---- who is told that a slot is its own

abbrev pub is_own : (node : ℕ) → PlanCommand → Bool
is_own n (command.SetNode slot owner at) = (owner == n) && (at == n)
is_own n other = false

abbrev pub is_told_by : (node : ℕ) → Line → Bool
is_told_by n (line.Move first last source target batch) = target == n
is_told_by n (line.Command c) = is_own n c

abbrev pub is_told : (node : ℕ) → List Line → Bool
is_told n lines = list_any (is_told_by n) lines

-- ---- who never returns

-- the ID is one of these
abbrev pub is_named : (id : List ℕ) → (ids : List (List ℕ)) → Bool
is_named id ids = list_any (is id) ids

-- `ADDR failed, and takes the slots of n1 if it returns as it was: ..`
abbrev pub address_text : Server → List ℕ
address_text old = old.host ++ (codes ":" ++ decimal old.port)

abbrev pub warning_text : (node : ℕ) → List ℕ
warning_text n = codes " failed, and takes the slots of " ++ (node_text n
    ++ codes " if it returns as it was: start it first (it becomes a replica), or remove its nodes.conf, ")

abbrev pub advice_text : Server → List ℕ
advice_text old = codes "then continue, with --dead-for-good " ++ (old.name ++ codes " if it never returns")

abbrev pub text_of : (node : ℕ) → Server → List ℕ
text_of n old = address_text old ++ (warning_text n ++ advice_text old)

-- ---- who may return

-- over connections of type L to the servers of a book, of whose failed masters these are dead for good
module _ {L : Type 0} (asks : Asks L) (book : List Server) where
  -- the node was asked over its own connection whether the failed master may take its slots, and this is the answer
  abbrev pub IsChecked : (node : ℕ) → (old : Server) → Bool → Type 0
  IsChecked n old b = (links : List L) × (links' : List L)
      × AsksAt (MayTakeBack asks n (server_at book n).name old.name) links n (Ok b) links'

  -- it was asked so, and this is at fault
  abbrev pub IsUnanswered : (node : ℕ) → (old : Server) → SurveyFault → Type 0
  IsUnanswered n old e = (links : List L) × (links' : List L)
      × AsksAt (MayTakeBack asks n (server_at book n).name old.name) links n (Err e) links'

  module _ (dead : List ℕ) where
    -- it is dead for good, or may not take the node's slots
    abbrev pub StaysAway : (node : ℕ) → Server → Type 0
    StaysAway n old = (is_named old.name (parts 44 dead) ≡ true) ⊎ IsChecked n old false

    -- so are all of them
    abbrev pub NoneReturnsTo : (node : ℕ) → (left : List Server) → Type 0
    NoneReturnsTo n left = (i : ℕ) → i < length left → StaysAway n (server_at left i)

    -- so are they for each target of the lines
    abbrev pub NoneReturns : (left : List Server) → (lines : List Line) → Type 0
    NoneReturns left lines = (n : ℕ) → n < length book → (is_told n lines ≡ false) ⊎ NoneReturnsTo n left

    -- it may take the node's slots, and this is said
    abbrev pub IsOf : (node : ℕ) → Server → (text : List ℕ) → Type 0
    IsOf n old text = (is_named old.name (parts 44 dead) ≡ false) × IsChecked n old true × (text ≡ text_of n old)

    -- so may one of them
    abbrev pub IsOfNode : (node : ℕ) → (left : List Server) → (text : List ℕ) → Type 0
    IsOfNode n left text = (i : ℕ) × (i < length left) × IsOf n (server_at left i) text

    -- so may one of them take the slots of a target of the lines
    abbrev pub Returns : (left : List Server) → (lines : List Line) → (text : List ℕ) → Type 0
    Returns left lines text = (n : ℕ) × (n < length book) × (is_told n lines ≡ true) × IsOfNode n left text

    -- it is not dead for good, and the node gave no answer; or memory ran out
    abbrev pub IsUnknown : (node : ℕ) → Server → SurveyFault → Type 0
    IsUnknown n old e = (e ≡ fault.Memory)
        ⊎ ((is_named old.name (parts 44 dead) ≡ false) × IsUnanswered n old e)

    -- so is one of them
    abbrev pub IsUnknownOfNode : (node : ℕ) → (left : List Server) → SurveyFault → Type 0
    IsUnknownOfNode n left e = (i : ℕ) × (i < length left) × IsUnknown n (server_at left i) e

    -- so is one of them for a target of the lines
    abbrev pub IsUndecided : (left : List Server) → (lines : List Line) → SurveyFault → Type 0
    IsUndecided left lines e = (n : ℕ) × (n < length book) × (is_told n lines ≡ true) × IsUnknownOfNode n left e
