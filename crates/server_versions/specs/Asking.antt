-- How servers are asked for their versions (the page of INFO).
use Rattle.std.specs.Prelude.{◌≡◌, ◌<◌, ◌⊎◌, ℕ, List, Some, Result, Ok, Err, codes, length, slice_get}
use Rattle.cluster_views.specs.declared.fault.SurveyFault.{SurveyFault}
use Rattle.cluster_views.specs.declared.fault.SurveyFault.TheVariants as fault
use Rattle.server_links.specs.Exchanges.{Answer}
use Rattle.resp2_wire.specs.declared.reply.Reply.{Reply}
use Rattle.resp2_wire.specs.declared.reply.Reply.TheVariants as reply
use Rattle.server_links.specs.Asking.{AsksAt}
use Rattle.server_links.specs.Links.{Exchanges}
use Rattle.server_links.specs.Streams.{Streams}
use Rattle.server_links.specs.declared.link.Link as link
use Rattle.server_versions.specs.Versions.{version_in}
use Rattle.server_versions.specs.declared.versions.ServerVersion.{ServerVersion}
use Rattle.server_versions.specs.declared.versions.ServerVersion.TheVariants.{Untold}

-- the request of INFO for the section of the server itself
abbrev pub info_server : List ℕ
info_server = codes "*2\r\n$4\r\nINFO\r\n$6\r\nserver\r\n"

-- that request goes over a connection
unfoldable pub AsksVersion : {I O : Type 0} → Streams I O → link.Link I O → Answer → link.Link I O → Type 0
AsksVersion by l answer l' = Exchanges by info_server l answer l'

-- a reply that is no text tells none
abbrev pub version_told : Reply → ServerVersion
version_told (reply.Bulk t) = version_in t
version_told other = Untold

-- the version that the reply tells, or memory ran out
abbrev pub IsVersionOf : Reply → Result ServerVersion SurveyFault → Type 0
IsVersionOf x r = (r ≡ Ok (version_told x)) ⊎ (r ≡ Err fault.Memory)

abbrev pub TellsVersion : (node : ℕ) → Answer → Result ServerVersion SurveyFault → Type 0
TellsVersion n (Err f) r = r ≡ Err (fault.NoAnswer n)
TellsVersion n (Ok x) r = IsVersionOf x r

-- one exchange over a link, and the version that its answer tells
abbrev pub IsTold : {L : Type 0} → (exchanges : L → Answer → L → Type 0) → (node : ℕ) → L
    → Result ServerVersion SurveyFault → L → Type 0
IsTold exchanges n l r l' = (answer : Answer) × exchanges l answer l' × TellsVersion n answer r

-- over the connection of this number the server told this version
abbrev pub IsToldBy : {L : Type 0} → (exchanges : L → Answer → L → Type 0) → (node : ℕ) → ServerVersion → Type 0
IsToldBy {L} exchanges n v = (links links' : List L) × AsksAt (IsTold exchanges n) links n (Ok v) links'

-- over the connection of this number the server was asked, and this is at fault
abbrev pub IsUntoldBy : {L : Type 0} → (exchanges : L → Answer → L → Type 0) → (node : ℕ) → SurveyFault → Type 0
IsUntoldBy {L} exchanges n e = (links links' : List L) × AsksAt (IsTold exchanges n) links n (Err e) links'

-- so is one of so many servers; or memory ran out
abbrev pub AreUntold : {L : Type 0} → (exchanges : L → Answer → L → Type 0) → (count : ℕ) → SurveyFault → Type 0
AreUntold exchanges count e = (e ≡ fault.Memory) ⊎ ((n : ℕ) × (n < count) × IsUntoldBy exchanges n e)

-- the first servers told these versions, so many of them
abbrev pub AreToldBy : {L : Type 0} → (exchanges : L → Answer → L → Type 0) → (count : ℕ) → List ServerVersion → Type 0
AreToldBy exchanges count told = (length told ≡ count)
    × ((n : ℕ) → n < count → (v : ServerVersion) × (slice_get told n ≡ Some v) × IsToldBy exchanges n v)
