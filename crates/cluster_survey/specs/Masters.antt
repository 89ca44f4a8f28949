-- Which nodes a survey is of: all masters that a server knows, but those that are gone, in ascending order of address.
use Rattle.std.specs.Prelude.{◌≡◌, ℕ, ◌+◌, ◌<◌, ◌≤◌, true, List, [], ◌∷◌, ◌++◌, None, All, Contains, IsSome, length}
use Rattle.std.specs.Prelude.{filter, insert, map, unwrap_or, IsPermutation}
use Rattle.std.specs.List.Sorted.{IsStrictlyIncreasing}
use Rattle.listed_nodes.specs.declared.node_line.NodeLine.{NodeLine}
use Rattle.cluster_survey.specs.Addresses.{place_of}
use Rattle.cluster_views.specs.Gone.{is_gone, is_present}
use Rattle.cluster_views.specs.declared.fault.SurveyFault.{SurveyFault}
use Rattle.cluster_views.specs.declared.fault.SurveyFault.TheVariants as fault
use Rattle.server_commands.specs.Servers.{server_at}
use Rattle.server_commands.specs.declared.book.Server.{Server}

abbrev pub server_of : NodeLine → Server
server_of l = record { name = l.name; host = l.host; port = l.port }

-- with slots or without, but for those that are gone
abbrev pub masters : List NodeLine → List Server
masters ls = map server_of (filter is_present ls)

-- those that are gone, in the order of the lines
abbrev pub left_out : List NodeLine → List Server
left_out ls = map server_of (filter is_gone ls)

abbrev pub place : Server → ℕ
place s = unwrap_or (place_of s) 0

abbrev pub AreAddressed : List Server → Type 0
AreAddressed ss = All (λ s. IsSome (place_of s)) ss

-- each has an address, and that of the next one is higher
pub record IsAscending (ss : List Server) : Type 0 where
  pub addressed : AreAddressed ss
  pub ascending : IsStrictlyIncreasing (map place ss)

-- all masters that are present, n0 first
pub record AreMastersOf (ls : List NodeLine) (ss : List Server) : Type 0 where
  pub all : IsPermutation (masters ls) ss
  pub order : IsAscending ss

-- the line with this number, from 1, is the master l, which is present, and these lines stand before it
pub record IsMaster (ls : List NodeLine) (number : ℕ) (before : List NodeLine) (l : NodeLine) : Type 0 where
  pub after : List NodeLine
  pub whole : ls ≡ before ++ l ∷ after
  pub place : number ≡ length before + 1
  pub present : is_present l ≡ true

-- one of the servers has the address of this one
abbrev pub HasSameAddress : List Server → Server → Type 0
HasSameAddress ss s = (other : Server) × Contains ss other × (place_of other ≡ place_of s)

abbrev pub IsMastersFault : List NodeLine → SurveyFault → Type 0
IsMastersFault ls fault.NoMasters = masters ls ≡ []
IsMastersFault ls fault.TooManyMasters = 255 < length (masters ls)
IsMastersFault ls (fault.NoAddress number) =
    (before : List NodeLine) × (l : NodeLine) × IsMaster ls number before l × (place_of (server_of l) ≡ None)
IsMastersFault ls (fault.SameAddress number) =
    (before : List NodeLine) × (l : NodeLine) × IsMaster ls number before l
    × HasSameAddress (masters before) (server_of l)
IsMastersFault ls fault.Memory = Unit {0}
IsMastersFault ls other = ⊥

-- ---- one more server

-- one of the servers has this place
abbrev pub HasPlace : List Server → (number : ℕ) → Type 0
HasPlace ss number = (k : ℕ) × (k < length ss) × (place (server_at ss k) ≡ number)

-- all servers before i have lower places, and the others higher ones
pub record IsGap (ss : List Server) (number i : ℕ) : Type 0 where
  pub within : i ≤ length ss
  pub below : (k : ℕ) → k < i → place (server_at ss k) < number
  pub above : i < length ss → number < place (server_at ss i)

-- a server was put among others at its place
pub record IsAdded (ss : List Server) (s : Server) (ss' : List Server) : Type 0 where
  pub at : ℕ
  pub within : at ≤ length ss
  pub whole : ss' ≡ insert ss at s
  pub order : IsAscending ss'
  pub few : length ss < 255

-- why it was not
abbrev pub IsNotAdded : List Server → Server → (number : ℕ) → SurveyFault → Type 0
IsNotAdded ss s number fault.Memory = Unit {0}
IsNotAdded ss s number fault.TooManyMasters = 255 ≤ length ss
IsNotAdded ss s number (fault.NoAddress line) = (line ≡ number) × (place_of s ≡ None)
IsNotAdded ss s number (fault.SameAddress line) = (line ≡ number) × HasSameAddress ss s
IsNotAdded ss s number other = ⊥
