-- How the servers are asked for their views: CLUSTER NODES, once each.
use Rattle.std.specs.Prelude.{◌≡◌, ◌⊎◌, ℕ, ◌<◌, ◌≤◌, List, length, Ok, Err, Result, slice_index_or, slice_set}
use Rattle.std.specs.Option.{ok_or}
use Rattle.listed_nodes.specs.Nodes.{nodes_of_text}
use Rattle.listed_nodes.specs.declared.node_line.NodeLine.{NodeLine}
use Rattle.server_links.specs.Exchanges.{Answer}
use Rattle.cluster_views.specs.Faults.{error_fault}
use Rattle.cluster_views.specs.Surveying.{IsRefused, Views, view_at}
use Rattle.cluster_views.specs.declared.fault.SurveyFault.{SurveyFault}
use Rattle.cluster_views.specs.declared.fault.SurveyFault.TheVariants as fault
use Rattle.resp2_wire.specs.declared.reply.Reply.TheVariants as reply
use Rattle.server_commands.specs.NamedErrors.{named_error}
use Rattle.server_commands.specs.declared.book.Server.{Server}

abbrev pub View : Type 0
View = Result (List NodeLine) SurveyFault

-- the view that the server n gives by this answer
abbrev pub view_in : (n : ℕ) → Answer → View
view_in n (Err f) = Err (fault.NoAnswer n)
view_in n (Ok (reply.Bulk t)) = ok_or (nodes_of_text t) (fault.Strange n)
view_in n (Ok (reply.Error t)) = Err (error_fault n (named_error t))
view_in n (Ok other) = Err (fault.Strange n)

-- One exchange over a link, which `exchanges` describes, and what is read of the answer; out of memory may come in its
-- place.
abbrev pub IsViewed : {L : Type 0} → (exchanges : L → Answer → L → Type 0) → (n : ℕ) → L → View → L → Type 0
IsViewed exchanges n l v l' =
    (answer : Answer) × exchanges l answer l' × ((v ≡ view_in n answer) ⊎ (v ≡ Err fault.Memory))

-- the first servers were asked once each and gave these views, and the others were not asked
pub record AreAsked {L : Type 0} (exchanges : L → Answer → L → Type 0) (links : List L) (views : Views)
    (links' : List L) : Type 0 where
  pub count : length links' ≡ length links
  pub asked : (n : ℕ) (d : L) → n < length views
      → IsViewed exchanges n (slice_index_or links n d) (Ok (view_at views n)) (slice_index_or links' n d)
  pub others : (n : ℕ) (d : L) → length views ≤ n → slice_index_or links' n d ≡ slice_index_or links n d

-- so did the first ones, and the next one was asked and gave no view
pub record IsStopped {L : Type 0} (exchanges : L → Answer → L → Type 0) (links : List L) (e : SurveyFault)
    (links' : List L) : Type 0 where
  pub views : Views
  pub before : List L
  pub asked : AreAsked exchanges links views before
  pub some : length views < length links
  pub last : (d : L) → IsViewed exchanges (length views) (slice_index_or links (length views) d) (Err e)
      (slice_index_or links' (length views) d)
  pub others : (d : L) → links' ≡ slice_set before (length views) (slice_index_or links' (length views) d)

-- Why there is no survey: a server gave no view, or all gave one and these are refused, or out of memory, at any time.
abbrev pub IsUnsurveyed : {L : Type 0} → (exchanges : L → Answer → L → Type 0) → List Server → List L → SurveyFault
    → List L → Type 0
IsUnsurveyed exchanges b links e links' = IsStopped exchanges links e links'
    ⊎ ((views : Views) × AreAsked exchanges links views links'
    × ((e ≡ fault.Memory) ⊎ ((length views ≡ length b) × IsRefused b views e)))
