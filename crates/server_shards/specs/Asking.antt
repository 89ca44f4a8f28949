-- How a server is asked which nodes are in one shard (the page of CLUSTER SHARDS).
use Rattle.std.specs.Prelude.{◌≡◌, ℕ, Bool, List, Result, Ok, Err, codes}
use Rattle.cluster_views.specs.Faults.{error_fault}
use Rattle.cluster_views.specs.declared.fault.SurveyFault.{SurveyFault}
use Rattle.cluster_views.specs.declared.fault.SurveyFault.TheVariants as fault
use Rattle.server_links.specs.Exchanges.{Answer}
use Rattle.resp2_wire.specs.declared.reply.Reply.TheVariants as reply
use Rattle.server_commands.specs.NamedErrors.{named_error}
use Rattle.server_links.specs.Links.{Exchanges}
use Rattle.server_links.specs.Streams.{Streams}
use Rattle.server_links.specs.declared.link.Link as link
use Rattle.server_shards.specs.Shards.{any_of, is_with}

-- the request of CLUSTER SHARDS
abbrev pub shards_request : List ℕ
shards_request = codes "*2\r\n$7\r\nCLUSTER\r\n$6\r\nSHARDS\r\n"

-- that request goes over a connection
unfoldable pub AsksShards : {I O : Type 0} → Streams I O → link.Link I O → Answer → link.Link I O → Type 0
AsksShards by l answer l' = Exchanges by shards_request l answer l'

-- what the answer of the node says of two others
abbrev pub IsAnswered : (node : ℕ) → (one other : List ℕ) → Answer → Result Bool SurveyFault → Type 0
IsAnswered n one other (Err f) r = r ≡ Err (fault.NoAnswer n)
IsAnswered n one other (Ok (reply.Array ts)) r = r ≡ Ok (any_of (is_with one other) ts)
IsAnswered n one other (Ok (reply.Error t)) r = r ≡ Err (error_fault n (named_error t))
IsAnswered n one other (Ok rest) r = r ≡ Err (fault.Strange n)

-- one exchange over a link, and what its answer says
abbrev pub IsShared : {L : Type 0} → (exchanges : L → Answer → L → Type 0) → (node : ℕ) → (one other : List ℕ) → L
    → Result Bool SurveyFault → L → Type 0
IsShared exchanges n one other l r l' = (answer : Answer) × exchanges l answer l' × IsAnswered n one other answer r
