-- A line that is called in its place among those of a port.
use Rattle.std.proofs.Common.{◌≡◌, ◌∙◌, ℕ, Bool, ◌+◌, ◌<◌, List, length, ap, subst, slice_index_or, slice_set}
use Rattle.std.proofs.lemmas.List.{get_or_default}
use Rattle.cluster_world.specs.Ports.{Answer}
use Rattle.node_sockets.specs.Lines.{Calls, CallsNode}
use Rattle.node_sockets.specs.declared.line.Line.{Line}
use Rattle.node_sockets.specs.declared.line.Line.TheVariants.{Gone}

pub called : {C : Type 0} (opens : ℕ → C → Type 0) (asks : Bool → List ℕ → C → Answer → C → Type 0) (asking : Bool) (request : List ℕ)
    (base_port port node i : ℕ) (lines : List (Line C)) (d line line' : Line C) (answer : Answer)
    → port ≡ base_port + node → i ≡ node → node < length lines → line ≡ slice_index_or lines i d
    → Calls (opens port) (asks asking request) line answer line'
    → CallsNode (record { opens = opens; asks = asks; base_port = base_port; before = lines; after = slice_set lines i line' })
    asking request node answer
called opens asks asking request base_port port node i lines d line line' answer at same within value calls = (
  line',
  ap (λ k. slice_set lines k line') same,
  subst (λ l. Calls (opens (base_port + node)) (asks asking request) l answer line')
      (value ∙ ap (λ k. slice_index_or lines k d) same ∙ get_or_default lines node d Gone within)
      (subst (λ p. Calls (opens p) (asks asking request) line answer line') at calls),
)
