use Rattle.std.proofs.Common.{◌≡◌, ℕ, Bool, length, arith, sym, ap, subst, ◌∙◌}
use Rattle.resp2_wire.specs.declared.reply.Reply.{Reply}
use Rattle.client_commands.specs.declared.command.Command.{Command}
use Rattle.cluster_node.specs.Changing.{IsPrepared, reply_in}
use Rattle.cluster_node.specs.NodeView.{NodeView}
use Rattle.cluster_node.specs.declared.changing.NodeChange.{NodeChange}
use Rattle.cluster_world.specs.WorldView.{IsNode}
use Rattle.cluster_world.specs.declared.event.Event.{Event}
use Rattle.cluster_world.specs.declared.event.Event.TheVariants.{Client}
use Rattle.shared_trail.specs.declared.view.Part.TheVariants.{Calls}
use Rattle.shared_trail.specs.Serving.{IsServedBy}
use Rattle.shared_trail.specs.Local.{calls_in}
use Rattle.shared_trail.specs.Trails.{caller, IsNamed}
use Rattle.shared_trail.proofs.Locally.{client_prepared}
use Rattle.shared_trail.proofs.client_calls.call_on.Goals as goal

-- the event of a call that was prepared at the node y, which contracts see as x
call_served : (port count n m : ℕ) (x y : NodeView) (seat : ℕ) (asking : Bool) (c : Command) (r : Reply) (d : NodeChange) (e : Event) → y ≡ x → IsNode port count n y
    → IsPrepared x asking c d → m ≡ n → r ≡ reply_in d → e ≡ Client seat m asking c r → IsServedBy port count n x.node e d
call_served port count n m x y seat asking c r d e same is prepared place told made =
    subst (λ v. IsServedBy port count n x.node v d) (sym (made ∙ ap (λ k. Client seat k asking c r) place))
    (client_prepared port count n x seat asking c r d (subst (IsNode port count n) same is) prepared (told ∙ prepared.reply_is))

pub serve-requires : goal.serve-requires
serve-requires g c =
    let w = g.B.ClusterBrand.setup.opening in
    let seat = c.seat.inside.number in
    let made = c.in-Ok.ensures.events.0 in
    let served = call_served w.base_port (length w.nodes) g.row.N c.args.node c.args.locked.now c.locked.inside.node seat c.args.asking c.args.command c.reply-reply.result.now c.args.change
    c.in-Ok.event c.locked.view_is c.locked.invariant.1 c.requires.prepared c.requires.node c.reply-reply.ensures made in
    let holds = c.seat.invariant.0 ∙ (λ i. (caller (sym made i), Calls (calls_in (sym c.seat.invariant.0 i).1))) in
    (omega arith, (served, (subst IsNamed (sym made) c.seat.invariant.1, holds)))
