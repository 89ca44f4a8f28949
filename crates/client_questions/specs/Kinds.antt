-- Which requests are questions, and of what kind.
use Rattle.std.specs.Prelude.{◌≡◌, ℕ, Bool, ◌||◌, cond, List, [], ◌∷◌, map, Option, Some, None, option_map, is_some}
use Rattle.std.specs.Prelude.{codes}
use Rattle.std.specs.List.{find}
use Rattle.resp2_wire.specs.Stream.{Words}
use Rattle.command_list.specs.Listing.{questions}
use Rattle.client_questions.specs.Refusals.{is_word}
use Rattle.client_questions.specs.declared.kind.Kind.{Kind}
use Rattle.client_questions.specs.declared.kind.Kind.TheVariants.{Hello, Client, Cluster, Quit, Plain}
use Rattle.client_questions.specs.declared.kind.PlainKind.TheVariants.{Info, Command, Config, Select, Echo, ReadOnly}
use Rattle.client_questions.specs.declared.kind.PlainKind.TheVariants.{ReadWrite, Auth}

pub record KindRow : Type 0 where
  pub text : List ℕ
  pub kind : Kind

abbrev row : List ℕ → Kind → KindRow
row t k = record { text = t; kind = k }

-- the first words of questions
unfoldable pub rows : List KindRow
rows =
    row (codes "hello") Hello ∷
    row (codes "info") (Plain Info) ∷
    row (codes "command") (Plain Command) ∷
    row (codes "cluster") Cluster ∷
    row (codes "client") Client ∷
    row (codes "config") (Plain Config) ∷
    row (codes "select") (Plain Select) ∷
    row (codes "echo") (Plain Echo) ∷
    row (codes "quit") Quit ∷
    row (codes "readonly") (Plain ReadOnly) ∷
    row (codes "readwrite") (Plain ReadWrite) ∷
    row (codes "auth") (Plain Auth) ∷
    []

unfoldable pub kind_named : List ℕ → Option Kind
kind_named word = option_map (λ r. r.kind) (find (λ r. is_word word r.text) rows)

-- the words after CLUSTER that make a call of it: of a client, or of the administrator
abbrev pub is_call : List ℕ → Bool
is_call word =
    (is_word word (codes "keyslot") || is_word word (codes "slots"))
    || (is_word word (codes "setslot") || is_word word (codes "getkeysinslot"))

abbrev pub cluster_kind : Words → Option Kind
cluster_kind [] = Some Cluster
cluster_kind (word ∷ ws) = cond (is_call word) None (Some Cluster)

-- CLUSTER alone may be no question, by the word after it
abbrev pub kind_by_arguments : Kind → Words → Option Kind
kind_by_arguments Hello ws = Some Hello
kind_by_arguments Client ws = Some Client
kind_by_arguments Cluster ws = cluster_kind ws
kind_by_arguments Quit ws = Some Quit
kind_by_arguments (Plain kind) ws = Some (Plain kind)

abbrev pub kind_with : Option Kind → Words → Option Kind
kind_with None ws = None
kind_with (Some kind) ws = kind_by_arguments kind ws

unfoldable pub kind_of : Words → Option Kind
kind_of [] = None
kind_of (word ∷ ws) = kind_with (kind_named word) ws

abbrev pub is_question : Words → Bool
is_question words = is_some (kind_of words)

-- what is answered as a question and what COMMAND tells as one have the same names
abbrev pub CommandTellsQuestions : Type 0
CommandTellsQuestions = map (λ r. r.text) rows ≡ map (λ e. e.text) questions
