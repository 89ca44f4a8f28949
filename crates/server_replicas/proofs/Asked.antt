-- A server that was asked for its replicas.
use Rattle.std.proofs.Common.{◌≡◌, ◌⊎◌, ℕ, List, Result, Ok, Err, inl, inr, refl, subst}
use Rattle.std.specs.Prelude.{MatchResult, None, Some}
use Rattle.listed_nodes.specs.declared.node_line.NodeLine.{NodeLine}
use Rattle.cluster_views.specs.declared.fault.SurveyFault.{SurveyFault}
use Rattle.cluster_views.specs.declared.fault.SurveyFault.TheVariants as fault
use Rattle.server_links.specs.Exchanges.{Answer}
use Rattle.cluster_admin.specs.declared.port_fault.PortFault.{PortFault}
use Rattle.resp2_wire.specs.declared.reply.Reply.{Reply}
use Rattle.server_links.specs.Asking.{AsksAt}
use Rattle.server_links.specs.Links.{Exchanges}
use Rattle.server_links.specs.Streams.{Streams}
use Rattle.server_links.specs.declared.link.Link as link
use Rattle.server_replicas.specs.Asking.{IsListing, IsUnlisted, lines_told, listing_fault}

-- the same bytes were sent
pub asked_as : {I O : Type 0} (by : Streams I O) (q q' : List ℕ) (links links' : List (link.Link I O)) (n : ℕ)
    (answer : Answer) → q ≡ q' → AsksAt (Exchanges by q) links n answer links'
    → AsksAt (Exchanges by q') links n answer links'
asked_as by q q' links links' n answer is asked = subst (λ x. AsksAt (Exchanges by x) links n answer links') is asked

module _ {L : Type 0} (exchanges : L → Answer → L → Type 0) (n : ℕ) (links links' : List L) where
  -- what its reply tells
  pub listed : {V : Type 0} (items : V → List NodeLine) (x : Reply) (r : Result V SurveyFault)
      → AsksAt exchanges links n (Ok x) links'
      → MatchResult r (λ v. lines_told x ≡ Some (items v))
      (λ e. (e ≡ fault.Memory) ⊎ ((lines_told x ≡ None) × (e ≡ listing_fault n x)))
      → MatchResult r (λ v. IsListing exchanges n links (items v) links') (λ e. IsUnlisted exchanges n links e links')
  listed items x (Ok v) asked told = (x, asked, told)
  listed items x (Err e) asked (inl memory) = inl memory
  listed items x (Err e) asked (inr told) = inr (inl (x, asked, told.0, told.1))

  -- it gave none
  pub silent : (f : PortFault) → AsksAt exchanges links n (Err f) links'
      → IsUnlisted exchanges n links (fault.NoAnswer n) links'
  silent f asked = inr (inr (f, asked, refl))
