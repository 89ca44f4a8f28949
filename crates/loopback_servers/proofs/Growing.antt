-- The list of a seat only grows.
use Rattle.std.proofs.Common.{append-nil, append_assoc, le_of_suc-le-suc, not-suc-le-zero, ◌++◌, ◌≡◌, ◌<◌, ◌∙◌, ℕ, zero, suc, refl, sym, ap, subst, map, length, slice_index_or, List, [], ◌∷◌, Ok, Err}
use Rattle.std.proofs.lemmas.List.{length-map}
use Rattle.std.specs.Fn.{FnReturns, Shared}
use Rattle.std.specs.Fork.{GivesJobs}
use Rattle.cluster_world.specs.Ports.{Answer, Call, Chain, Execute, Look, Send}
use Rattle.cluster_world.specs.declared.event.Event.{Event}
use Rattle.cluster_admin.specs.declared.port_fault.PortFault.TheVariants.{Memory, Io, Wire}
use Rattle.live_cluster.specs.Sends.{IsCalled, IsListed}
use Rattle.loopback_servers.specs.Working.{GrowEach, GrowsTo}

pub grows_none : (s : ℕ × List Event) → GrowsTo s s
grows_none s = (refl, ([], sym (append-nil s.1)))

pub grows_then : (s t u : ℕ × List Event) → GrowsTo s t → GrowsTo t u → GrowsTo s u
grows_then s t u p q =
    (q.0 ∙ p.0, (p.1.0 ++ q.1.0, q.1.1 ∙ (ap (λ (xs : List Event). xs ++ q.1.0) p.1.1 ∙ append_assoc s.1 p.1.0 q.1.0)))

called_grows : (s : ℕ × List Event) (c : Call) (a : Answer) (next : ℕ × List Event) → IsCalled s c a next → GrowsTo s next
called_grows s (Execute n asking c) (Ok r) next is = (ap (λ x. x.0) is, (_, ap (λ x. x.1) is))
called_grows s (Look n) (Ok r) next is = (ap (λ x. x.0) is, (_, ap (λ x. x.1) is))
called_grows s (Execute n asking c) (Err Memory) next is = subst_same s next is
  where
    subst_same : (s next : ℕ × List Event) → next ≡ s → GrowsTo s next
    subst_same s next is = (ap (λ x. x.0) is, ([], ap (λ x. x.1) is ∙ sym (append-nil s.1)))
called_grows s (Look n) (Err Memory) next is = subst_same s next is
  where
    subst_same : (s next : ℕ × List Event) → next ≡ s → GrowsTo s next
    subst_same s next is = (ap (λ x. x.0) is, ([], ap (λ x. x.1) is ∙ sym (append-nil s.1)))
called_grows s (Execute n asking c) (Err Io) next is = absurd is
called_grows s (Look n) (Err Io) next is = absurd is
called_grows s (Execute n asking c) (Err Wire) next is = absurd is
called_grows s (Look n) (Err Wire) next is = absurd is

pub chain_grows : {P : Type 0} (seat : P → ℕ × List Event) (p : P) (xs : List Send) (q : P)
    → Chain (λ a s b. IsListed (seat a) s (seat b)) p xs q → GrowsTo (seat p) (seat q)
chain_grows seat p [] q is = (ap (λ x. (seat x).0) (sym is), ([], ap (λ x. (seat x).1) (sym is) ∙ sym (append-nil (seat p).1)))
chain_grows seat p (x ∷ xs) q is =
    grows_then (seat p) (seat is.0) (seat q) (called_grows (seat p) x.call x.answer (seat is.0) is.1) (chain_grows seat is.0 xs q is.2)

-- what is found in a list that was mapped
found_mapped : {J R : Type 0} (f : J → R) (js : List J) (i : ℕ) (d : R) (job : J) → i < length js → ((e : J) → slice_index_or js i e ≡ job)
    → slice_index_or (map f js) i d ≡ f job
found_mapped f [] i d job small is = absurd (not-suc-le-zero small)
found_mapped f (j ∷ js) zero d job small is = ap f (is j)
found_mapped f (j ∷ js) (suc i) d job small is = found_mapped f js i d job (le_of_suc-le-suc small) is

-- each worker's seat grew to what its job gives
pub jobs_grow : {F J : Type 0} (seat : J → ℕ × List Event) (g : Shared F (J × Unit {0}) (ℕ × List Event)) (f : F) (js : List J)
    (rs : List (ℕ × List Event)) → ((j : J) (r : ℕ × List Event) → FnReturns g f (j, tt) r → GrowsTo (seat j) r) → GivesJobs g f js rs
    → GrowEach (map seat js) rs
jobs_grow seat g f js rs grows gives i d small =
    let within : i < length js = subst (λ n. i < n) (length-map js seat) small in
    let at = gives i d within in
    subst (λ s. GrowsTo s (slice_index_or rs i d)) (sym (found_mapped seat js i d at.1.job within at.1.job_is))
    (grows at.1.job (slice_index_or rs i d) at.1.call)
