-- How a server is asked for its replicas (the page of CLUSTER REPLICAS): an array of texts, each a line as CLUSTER
-- NODES has it.
use Rattle.std.specs.Prelude.{◌≡◌, ◌⊎◌, ℕ, List, [], ◌∷◌, ◌++◌, Option, None, Some, Result, Ok, Err, codes, option_map}
use Rattle.byte_texts.specs.Parts.{parts}
use Rattle.listed_nodes.specs.Names.{if_there}
use Rattle.listed_nodes.specs.Nodes.{line_in}
use Rattle.listed_nodes.specs.declared.node_line.NodeLine.{NodeLine}
use Rattle.cluster_views.specs.Faults.{error_fault}
use Rattle.cluster_views.specs.declared.fault.SurveyFault.{SurveyFault}
use Rattle.cluster_views.specs.declared.fault.SurveyFault.TheVariants as fault
use Rattle.server_links.specs.Exchanges.{Answer}
use Rattle.cluster_admin.specs.declared.port_fault.PortFault.{PortFault}
use Rattle.resp2_wire.specs.Tree.{Tree, simple, error, number, bulk, null, null_array, array, Trees, none, more}
use Rattle.resp2_wire.specs.declared.reply.Reply.{Reply}
use Rattle.resp2_wire.specs.declared.reply.Reply.TheVariants as reply
use Rattle.server_commands.specs.NamedErrors.{named_error}
use Rattle.server_commands.specs.Spelling.{spelled}
use Rattle.server_links.specs.Asking.{AsksAt}
use Rattle.server_links.specs.Links.{Exchanges}
use Rattle.server_links.specs.Streams.{Streams}
use Rattle.server_links.specs.declared.link.Link as link

-- ---- what is asked

abbrev pub replicas_words : (id : List ℕ) → List (List ℕ)
replicas_words id = codes "CLUSTER" ∷ (codes "REPLICAS" ∷ (id ∷ []))

abbrev pub replicas_request : (id : List ℕ) → List ℕ
replicas_request id = spelled (replicas_words id)

-- that request goes over a connection
unfoldable pub AsksReplicas : {I O : Type 0} → Streams I O → (id : List ℕ) → link.Link I O → Answer → link.Link I O
    → Type 0
AsksReplicas by id l answer l' = Exchanges by (replicas_request id) l answer l'

-- ---- what is answered

abbrev pub line_of : Tree → Option NodeLine
line_of (bulk t) = line_in (parts 32 t)
line_of (array ts) = None
line_of (simple t) = None
line_of (error t) = None
line_of (number z) = None
line_of null = None
line_of null_array = None

abbrev pub lines_of : Trees → Option (List NodeLine)
lines_of none = Some []
lines_of (more t ts) = if_there (line_of t) (λ l. option_map (λ ls. l ∷ ls) (lines_of ts))

abbrev pub lines_told : Reply → Option (List NodeLine)
lines_told (reply.Array ts) = lines_of ts
lines_told other = None

-- what is wrong with a reply that tells no lines
abbrev pub listing_fault : (node : ℕ) → Reply → SurveyFault
listing_fault n (reply.Error t) = error_fault n (named_error t)
listing_fault n other = fault.Strange n

module _ {L : Type 0} (exchanges : L → Answer → L → Type 0) (n : ℕ) where
  -- the node was asked over its own connection, and told these lines
  abbrev pub IsListing : List L → List NodeLine → List L → Type 0
  IsListing links lines links' = (x : Reply) × AsksAt exchanges links n (Ok x) links' × (lines_told x ≡ Some lines)

  -- memory ran out, or it was asked, and this is wrong with its answer
  abbrev pub IsUnlisted : List L → SurveyFault → List L → Type 0
  IsUnlisted links e links' = (e ≡ fault.Memory)
      ⊎ (((x : Reply) × AsksAt exchanges links n (Ok x) links' × (lines_told x ≡ None) × (e ≡ listing_fault n x))
      ⊎ ((f : PortFault) × AsksAt exchanges links n (Err f) links' × (e ≡ fault.NoAnswer n)))
