-- How servers are asked for their figures (the page of INFO).
use Rattle.std.specs.Prelude.{◌≡◌, ◌<◌, ℕ, List, None, Option, Some, Result, Ok, Err, codes, length, slice_get}
use Rattle.cluster_views.specs.declared.fault.SurveyFault.{SurveyFault}
use Rattle.cluster_views.specs.declared.fault.SurveyFault.TheVariants as fault
use Rattle.server_links.specs.Exchanges.{Answer}
use Rattle.plan_outlines.specs.declared.nodes.NodeServer.{NodeServer}
use Rattle.resp2_wire.specs.declared.reply.Reply.{Reply}
use Rattle.resp2_wire.specs.declared.reply.Reply.TheVariants as reply
use Rattle.server_commands.specs.Servers.{server_at}
use Rattle.server_commands.specs.declared.book.Server.{Server}
use Rattle.server_infos.specs.Figures.{figures_in}
use Rattle.server_infos.specs.declared.figures.Figures.{Figures}
use Rattle.server_links.specs.Asking.{AsksAt}
use Rattle.server_links.specs.Links.{Exchanges}
use Rattle.server_links.specs.Streams.{Streams}
use Rattle.server_links.specs.declared.link.Link as link

-- the request of INFO
abbrev pub info_request : List ℕ
info_request = codes "*1\r\n$4\r\nINFO\r\n"

-- that request goes over a connection
unfoldable pub AsksFigures : {I O : Type 0} → Streams I O → link.Link I O → Answer → link.Link I O → Type 0
AsksFigures by l answer l' = Exchanges by info_request l answer l'

abbrev pub untold : Figures
untold = record { keys = None; used_memory = None; max_memory = None }

-- a reply that is no text tells nothing
abbrev pub figures_told : Reply → Figures
figures_told (reply.Bulk t) = figures_in t
figures_told other = untold

abbrev pub TellsFigures : (node : ℕ) → Answer → Result Figures SurveyFault → Type 0
TellsFigures n (Err f) r = r ≡ Err (fault.NoAnswer n)
TellsFigures n (Ok x) r = r ≡ Ok (figures_told x)

-- one exchange over a link, and what its answer tells
abbrev pub IsTold : {L : Type 0} → (exchanges : L → Answer → L → Type 0) → (node : ℕ) → L → Result Figures SurveyFault
    → L → Type 0
IsTold exchanges n l r l' = (answer : Answer) × exchanges l answer l' × TellsFigures n answer r

-- the server of the book, with these figures
abbrev pub with_figures : (node : ℕ) → Server → Figures → NodeServer
with_figures n s f = record {
  node = n;
  host = s.host;
  port = s.port;
  name = s.name;
  keys = f.keys;
  used_memory = f.used_memory;
  max_memory = f.max_memory;
}

-- over the connection of this number the server told these figures of itself
abbrev pub IsToldBy : {L : Type 0} → (exchanges : L → Answer → L → Type 0) → (node : ℕ) → Server → NodeServer → Type 0
IsToldBy {L} exchanges n s told = (links links' : List L) × (figures : Figures)
    × AsksAt (IsTold exchanges n) links n (Ok figures) links' × (told ≡ with_figures n s figures)

-- so did the first servers of the book, so many of them
abbrev pub AreToldBy : {L : Type 0} → (exchanges : L → Answer → L → Type 0) → (book : List Server) → (count : ℕ)
    → List NodeServer → Type 0
AreToldBy exchanges book count told = (length told ≡ count)
    × ((n : ℕ) → n < count
    → (t : NodeServer) × (slice_get told n ≡ Some t) × IsToldBy exchanges n (server_at book n) t)
