-- Servers that are asked in turn what nodes they know.
use Rattle.std.proofs.Common.{◌≡◌, ℕ, ◌-◌, ◌≤◌, List, [], ◌∷◌, length, drop, get_or, take, Option, inl, inr, subst}
use Rattle.std.proofs.Common.{arith}
use Rattle.std.proofs.lemmas.List.{take_all}
use Rattle.std.specs.declared.net.socket_addr.SocketAddrV4.{SocketAddrV4}
use Rattle.listed_nodes.specs.declared.node_line.NodeLine.{NodeLine}
use Rattle.server_links.specs.Exchanges.{Answer}
use Rattle.server_commands.specs.declared.credentials.Credentials.{Credentials}
use Rattle.cluster_survey.specs.Asking.{IsViewed, View}
use Rattle.cluster_survey.specs.Listing.{FirstFails, FirstLists, IsUnlisted, Lists, NoneLists}
use Rattle.cluster_survey.specs.declared.cluster_fault.ClusterFault.{ClusterFault}
use Rattle.server_links.specs.Streams.{Streams}
use Rattle.server_links.specs.declared.unreached.Unreached.{Unreached}

-- the server has another number
pub viewed_by : {L : Type 0} (exchanges : L → Answer → L → Type 0) (n m : ℕ) (l : L) (v : View) (l' : L) → n ≡ m
    → IsViewed exchanges n l v l' → IsViewed exchanges m l v l'
viewed_by exchanges n m l v l' is viewed = subst (λ k. IsViewed exchanges k l v l') is viewed

module _ {I O : Type 0} (reaches : SocketAddrV4 → I → O → Type 0) (refuses : SocketAddrV4 → Unreached → Type 0)
    (by : Streams I O) (k : Option Credentials) where
  -- what the rest of the addresses show, all of them show
  pub record Leads (all rest : List SocketAddrV4) : Type 0 where
    pub first : (lines : List NodeLine) → FirstLists reaches refuses by k rest lines
        → FirstLists reaches refuses by k all lines
    pub none : NoneLists reaches refuses by k rest → NoneLists reaches refuses by k all

  pub leads_all : (all : List SocketAddrV4) → Leads all all
  leads_all all = record { first = λ lines h. h; none = λ h. h }

  -- one more was asked in vain
  pub leads_on : (all : List SocketAddrV4) (a : SocketAddrV4) (others : List SocketAddrV4) (e : ClusterFault)
      → Leads all (a ∷ others) → IsUnlisted reaches refuses by k a e → Leads all others
  leads_on all a others e leads unlisted = record {
    first = λ lines h. leads.first lines (inr (e, unlisted, h));
    none = λ h. leads.none ((e, unlisted), h);
  }

  -- the first of them, and those after it
  rest_is : (a : SocketAddrV4) (others : List SocketAddrV4)
      → take (length (a ∷ others) - 1) (drop 1 (a ∷ others)) ≡ others
  rest_is a others = take_all (length (a ∷ others) - 1) others (omega arith)

  pub first_lists : (all : List SocketAddrV4) (blank : SocketAddrV4) (lines : List NodeLine) → 1 ≤ length all
      → Lists reaches refuses by k (get_or all 0 blank) lines → FirstLists reaches refuses by k all lines
  first_lists [] blank lines some lists = absurd (omega (arith, some))
  first_lists (a ∷ others) blank lines some lists = inl lists

  pub later_lists : (all : List SocketAddrV4) (blank : SocketAddrV4) (e : ClusterFault) (lines : List NodeLine)
      → 1 ≤ length all → IsUnlisted reaches refuses by k (get_or all 0 blank) e
      → FirstLists reaches refuses by k (take (length all - 1) (drop 1 all)) lines
      → FirstLists reaches refuses by k all lines
  later_lists [] blank e lines some unlisted lists = absurd (omega (arith, some))
  later_lists (a ∷ others) blank e lines some unlisted lists = inr (
    e,
    unlisted,
    subst (λ (rest : List SocketAddrV4). FirstLists reaches refuses by k rest lines) (rest_is a others) lists,
  )

  pub none_lists : (all : List SocketAddrV4) (blank : SocketAddrV4) (e : ClusterFault) → 1 ≤ length all
      → IsUnlisted reaches refuses by k (get_or all 0 blank) e
      → NoneLists reaches refuses by k (take (length all - 1) (drop 1 all))
      → FirstFails reaches refuses by k all e
  none_lists [] blank e some unlisted none = absurd (omega (arith, some))
  none_lists (a ∷ others) blank e some unlisted none = (
    unlisted,
    subst (λ (rest : List SocketAddrV4). NoneLists reaches refuses by k rest) (rest_is a others) none,
  )
