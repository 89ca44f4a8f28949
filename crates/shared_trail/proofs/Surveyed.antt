-- What the trail says of a node is what the administrator's calls tell.
use Rattle.std.proofs.Common.{◌≡◌, ◌≢◌, ℕ, ◌+◌, ◌<◌, Bool, true, false, List, [], ◌∷◌, ◌++◌, map, nat_eq, sym, refl, ap, ◌∙◌, arith, if◌then◌else◌}
use Rattle.std.proofs.lemmas.Bool.{ne_eqb}
use Rattle.slot_marks.specs.Tables.{Table}
use Rattle.cluster_node.specs.Nodes.{Node, table_of}
use Rattle.cluster_node.specs.NodeView.{NodeView}
use Rattle.cluster_world.specs.AdminCalls.{calls}
use Rattle.cluster_world.specs.Earning.{world_after}
use Rattle.cluster_world.specs.Steps.{after, Run}
use Rattle.cluster_admin.specs.Surveys.{IsWhole, row_at, row_of_table}
use Rattle.cluster_world.specs.Worlds.{row_of, survey_of, World, node_at}
use Rattle.cluster_admin.specs.Telling.{survey_after}
use Rattle.cluster_world.specs.WorldView.{IsNode}
use Rattle.cluster_admin.specs.declared.call.AdminCall.{AdminCall}
use Rattle.cluster_world.specs.declared.event.Event.{Event}
use Rattle.cluster_world.specs.declared.event.Event.TheVariants.{Client, Look, Admin}
use Rattle.cluster_world.proofs.Surveyed.{world_row}
use Rattle.cluster_world.proofs.SurveyedCalls.{surveys_are_told}
use Rattle.shared_trail.specs.Trails.{IsTrail, calls_of}
use Rattle.shared_trail.specs.TrailView.{TrailView}
use Rattle.shared_trail.specs.Local.{calls_in, state_in}
use Rattle.shared_trail.specs.declared.view.Part.{Part}
use Rattle.shared_trail.specs.declared.view.Part.TheVariants.{Calls, State}
use Rattle.shared_trail.specs.Seats.{event_of}
use Rattle.shared_trail.specs.Surveying.{AddsTable, row_by_calls}

-- a trail is a run
run_of : (w : World) (es : List Event) → IsTrail w es → Run w es (world_after w es)
run_of w [] h = refl
run_of w (e ∷ es) h = (h.0, run_of (after w e) es h.2)

-- a client's event is none of the administrator's
not_his : (seat : ℕ) (e : Event) (es : List Event) → seat < 32 → calls (if nat_eq seat 32 then e ∷ es else es) ≡ calls es
not_his seat e es h = ap (λ b. calls (if b then e ∷ es else es)) (ne_eqb seat 32 (λ e. omega (arith, h, e)))

-- the administrator's calls are those of its events
his_calls : (w : World) (es : List Event) → IsTrail w es → calls (calls_of 32 es) ≡ calls es
his_calls w [] h = refl
his_calls w (Client seat n asking c r ∷ es) h =
    not_his seat (Client seat n asking c r) (calls_of 32 es) h.1 ∙ his_calls (after w (Client seat n asking c r)) es h.2
his_calls w (Look seat n r ∷ es) h = not_his seat (Look seat n r) (calls_of 32 es) h.1 ∙ his_calls w es h.2
his_calls w (Admin n c r ∷ es) h = ap (λ cs. record { node = n; command = c; reply = r } ∷ cs) (his_calls (after w (Admin n c r)) es h.2)

calls_again : (cs : List AdminCall) → calls (map event_of cs) ≡ cs
calls_again [] = refl
calls_again (c ∷ cs) = ap (λ ds. c ∷ ds) (calls_again cs)

-- where the seat has all of them, the node has the owners and marks that they tell
pub row_known : (opening : World) (es : List Event) (cs : List AdminCall) (n : ℕ) (x : Node) → IsTrail opening es
    → node_at (world_after opening es) n ≡ x → calls_of 32 es ≡ map event_of cs → row_of x ≡ row_by_calls opening cs n
row_known opening es cs n x trail node seat =
    ap row_of (sym node)
    ∙ sym (world_row (world_after opening es) n)
    ∙ ap (λ v. row_at v n) (surveys_are_told opening es (world_after opening es) (run_of opening es trail)
    ∙ ap (survey_after (survey_of opening)) (sym (his_calls opening es trail) ∙ ap calls seat ∙ calls_again cs))

-- the same, as the trail confirms it to the node and to the seat
pub row_confirmed : (opening : World) (t t' : TrailView) (h k : ℕ × Part) (x x' : NodeView) (cs cs' : List AdminCall) (n : ℕ)
    → IsTrail opening t.events → node_at (world_after opening t.events) n ≡ state_in h.1 → h ≡ (33 + n, State x.node) → x ≡ x'
    → t' ≡ t → calls_of k.0 t'.events ≡ calls_in k.1 → k ≡ (32, Calls (map event_of cs)) → cs ≡ cs'
    → row_of x'.node ≡ row_by_calls opening cs' n
row_confirmed opening t t' h k x x' cs cs' n trail node holder seen same calls maker shown =
    row_known opening t.events cs' n x'.node trail
    (node ∙ ap (λ (q : ℕ × Part). state_in q.1) holder ∙ ap (λ (y : NodeView). y.node) seen)
    (ap (λ (u : TrailView). calls_of 32 u.events) (sym same)
    ∙ ap (λ (q : ℕ × Part). calls_of q.0 t'.events) (sym maker)
    ∙ calls ∙ ap (λ (q : ℕ × Part). calls_in q.1) maker ∙ ap (map event_of) shown)

-- a copy of the node's table
pub adds : (port count n : ℕ) (x x' : NodeView) (t : Table) (ts ts' : List Table) → IsNode port count n x → x ≡ x'
    → t ≡ table_of x.me x.nodes x.node → ts' ≡ ts ++ t ∷ [] → IsWhole t → AddsTable count n (row_of x'.node) ts ts'
adds port count n x x' t ts ts' is seen from put whole = record {
  table = t;
  is = put;
  of_node = record { me = ap (λ (u : Table). u.me) from ∙ is.me; nodes = ap (λ (u : Table). u.nodes) from ∙ is.nodes; whole = whole };
  shows = ap row_of_table from ∙ ap (λ (y : NodeView). row_of y.node) seen;
}
