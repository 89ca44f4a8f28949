-- The events that change one node alone.
use Rattle.std.proofs.Common.{◌≡◌, ◌⊎◌, inl, inr, ℕ, ◌<◌, Bool, true, false, cond, nat_lt, List, Option, Some, None, is_some, refl, sym, ap, ◌∙◌, subst, take}
use Rattle.std.proofs.lemmas.Bool.{eq-eqb}
use Rattle.resp2_wire.specs.declared.reply.Reply.{Reply}
use Rattle.client_commands.specs.declared.command.Command.{Command}
use Rattle.store_commands.specs.Store.{Key}
use Rattle.cluster_node.specs.Nodes.{Node, client_reply, client_node, look_reply}
use Rattle.cluster_node.specs.NodeView.{NodeView}
use Rattle.cluster_node.specs.Administration.{IsSetting, setting_fault, reply_if_accepted, node_if_accepted, reply_or}
use Rattle.cluster_admin.specs.Commands.{IsListing}
use Rattle.cluster_admin.specs.declared.admin.AdminReply.{AdminReply}
use Rattle.cluster_admin.specs.declared.admin.AdminReply.TheVariants as reply
use Rattle.slot_keyspace.specs.Listing.{keys_of}
use Rattle.cluster_admin.specs.declared.admin.AdminCommand.{AdminCommand}
use Rattle.cluster_admin.specs.declared.admin.AdminCommand.TheVariants.{Importing, Migrating, SetNode, Stable, KeysIn}
use Rattle.cluster_admin.specs.declared.admin.AdminCommand.TheVariants.{Migrate}
use Rattle.cluster_admin.specs.declared.admin.AdminFault.{AdminFault}
use Rattle.cluster_admin.specs.declared.admin.AdminFault.TheVariants as fault
use Rattle.cluster_world.specs.Worlds.{node_at, change_node}
use Rattle.cluster_world.specs.WorldView.{IsNode}
use Rattle.cluster_world.specs.Commanding.{admin_reply}
use Rattle.cluster_world.specs.declared.event.Event.TheVariants.{Client, Look, Admin}
use Rattle.cluster_world.proofs.Setting.{change-same, fault-setting, after-setting}
use Rattle.cluster_world.proofs.Moving.{refused, unknown-fault, same-fault}
use Rattle.shared_trail.specs.declared.view.Part.{Part}
use Rattle.shared_trail.specs.declared.view.Part.TheVariants.{State}
use Rattle.cluster_world.specs.declared.event.Event.{Event}
use Rattle.cluster_node.specs.Changing.{IsDone, IsPrepared}
use Rattle.cluster_node.specs.declared.changing.NodeChange.{NodeChange}
use Rattle.shared_trail.specs.Serving.{IsServedBy}
use Rattle.shared_trail.specs.Local.{IsLocal, state_in}

-- a client's command
pub client_local : (port count n : ℕ) (x : Node) (seat : ℕ) (asking : Bool) (c : Command) (r : Reply) → r ≡ client_reply port n x asking c → IsLocal port count n x (Client seat n asking c r) (client_node n x asking c)
client_local port count n x seat asking c r is w of low at = (
  (
    subst (λ m. n < m) (sym of.count_is) low,
    is ∙ ap (λ p. client_reply p n x asking c) (sym of.port_is) ∙ ap (λ y. client_reply w.base_port n y asking c) (sym at),
  ),
  ap (λ y. change_node w n (client_node n y asking c)) at,
)

-- the same by the node of the program
pub client_here : (port count n : ℕ) (x : NodeView) (seat : ℕ) (asking : Bool) (c : Command) (r : Reply) → IsNode port count n x → r ≡ client_reply x.base_port x.me x.node asking c
    → IsLocal port count n x.node (Client seat n asking c r) (client_node x.me x.node asking c)
client_here port count n x seat asking c r is answer =
    subst (λ m. IsLocal port count n x.node (Client seat n asking c r) (client_node m x.node asking c)) (sym is.me)
    (client_local port count n x.node seat asking c r (answer ∙ (λ i. client_reply (is.port_is i) (is.me i) x.node asking c)))

-- CLUSTER SLOTS
pub look_here : (port count n : ℕ) (x : NodeView) (seat : ℕ) (r : Reply) → IsNode port count n x → r ≡ look_reply x.base_port x.node → IsLocal port count n x.node (Look seat n r) x.node
look_here port count n x seat r is answer w of low at =
    let there = subst (λ m. n < m) (sym of.count_is) low in (
      (there, answer ∙ ap (λ p. look_reply p x.node) (is.port_is ∙ sym of.port_is) ∙ ap (λ y. look_reply w.base_port y) (sym at)),
      sym (ap (change_node w n) (sym at) ∙ change-same w n there),
    )

-- SETSLOT and GETKEYSINSLOT
pub setting_local : (port count n : ℕ) (x : Node) (c : AdminCommand) (r : AdminReply) → IsSetting c → r ≡ reply_or (setting_fault n count x c) (reply_if_accepted x c)
    → IsLocal port count n x (Admin n c r) (cond (is_some (setting_fault n count x c)) x (node_if_accepted n x c))
unfolding admin_reply
setting_local port count n x c r setting answer w of low at =
    let there = subst (λ m. n < m) (sym of.count_is) low in (
      (
        there,
        answer ∙ (λ i. reply_or (setting_fault n (sym of.count_is i) (sym at i) c) (reply_if_accepted (sym at i) c)) ∙ ap (λ f. reply_or f (reply_if_accepted (node_at w n) c)) (sym (fault-setting w n c setting)),
      ),
      sym ((λ i. change_node w n (cond (is_some (setting_fault n (sym of.count_is i) (sym at i) c)) (sym at i) (node_if_accepted n (sym at i) c))) ∙ after-setting w n c there setting),
    )

pub setting_here : (port count n : ℕ) (x : NodeView) (c : AdminCommand) (r : AdminReply) → IsNode port count n x → IsSetting c → r ≡ reply_or (setting_fault x.me x.nodes x.node c) (reply_if_accepted x.node c)
    → IsLocal port count n x.node (Admin n c r) (cond (is_some (setting_fault x.me x.nodes x.node c)) x.node (node_if_accepted x.me x.node c))
setting_here port count n x c r is setting answer =
    subst (λ (p : ℕ × ℕ). IsLocal port count n x.node (Admin n c r) (cond (is_some (setting_fault p.0 p.1 x.node c)) x.node (node_if_accepted p.0 x.node c))) (λ i. (sym is.me i, sym is.nodes i))
    (setting_local port count n x.node c r setting (answer ∙ (λ i. reply_or (setting_fault (is.me i) (is.nodes i) x.node c) (reply_if_accepted x.node c))))

-- a listing, which leaves the node as it is
pub listing_local : (port count n m : ℕ) (x y : NodeView) (s k : ℕ) (q r : AdminReply) → IsNode port count n x → y ≡ x → m ≡ n
    → q ≡ reply.Keys (take k (keys_of x.node.held s)) → r ≡ q → IsLocal port count n y.node (Admin m (KeysIn s k) r) y.node
unfolding setting_fault reply_if_accepted node_if_accepted
listing_local port count n m x y s k q r is same place answer again =
    subst (λ (p : ℕ × NodeView). IsLocal port count n p.1.node (Admin p.0 (KeysIn s k) r) p.1.node) (λ i. (sym place i, sym same i))
    (setting_here port count n x (KeysIn s k) r is tt (again ∙ answer))

never : (f : Option AdminFault) → IsListing (reply_or f reply.Ok) → ⊥
never None u = u
never (Some g) u = u

-- a listing changes nothing
pub listing_same : (me nodes : ℕ) (x : Node) (c : AdminCommand) (r : AdminReply) → IsSetting c → r ≡ reply_or (setting_fault me nodes x c) (reply_if_accepted x c) → IsListing r
    → cond (is_some (setting_fault me nodes x c)) x (node_if_accepted me x c) ≡ x
unfolding setting_fault reply_if_accepted node_if_accepted
listing_same me nodes x (Importing s m) r setting is h = absurd (never _ (subst IsListing is h))
listing_same me nodes x (Migrating s m) r setting is h = absurd (never _ (subst IsListing is h))
listing_same me nodes x (SetNode s m) r setting is h = absurd (never _ (subst IsListing is h))
listing_same me nodes x (Stable s) r setting is h = absurd (never None (subst IsListing is h))
listing_same me nodes x (KeysIn s count) r setting is h = refl
listing_same me nodes x (Migrate ks m) r setting is h = absurd setting

-- a MIGRATE to no node, and one to the node itself
pub unknown_local : (port count n : ℕ) (x : Node) (ks : List Key) (m : ℕ) → nat_lt m count ≡ false → IsLocal port count n x (Admin n (Migrate ks m) (reply.Refused fault.UnknownNode)) x
unknown_local port count n x ks m none w of low at =
    let there = subst (λ k. n < k) (sym of.count_is) low in
    let a = refused w n ks m fault.UnknownNode (unknown-fault w n ks m (ap (nat_lt m) of.count_is ∙ none)) in
    ((there, a.reply_is), sym a.world_is ∙ sym (ap (change_node w n) (sym at) ∙ change-same w n there))

pub same_local : (port count n : ℕ) (x : Node) (ks : List Key) (m : ℕ) → nat_lt m count ≡ true → m ≡ n → IsLocal port count n x (Admin n (Migrate ks m) (reply.Refused fault.SameNode)) x
same_local port count n x ks m known same w of low at =
    let there = subst (λ k. n < k) (sym of.count_is) low in
    let a = refused w n ks m fault.SameNode (same-fault w n ks m (ap (nat_lt m) of.count_is ∙ known) (eq-eqb m n same)) in
    ((there, a.reply_is), sym a.world_is ∙ sym (ap (change_node w n) (sym at) ∙ change-same w n there))

-- the two refusals that no second node sees
pub refused_local : (port count n from : ℕ) (x : Node) (ks : List Key) (m : ℕ) (f : AdminFault) → from ≡ n
    → ((nat_lt m count ≡ false) × (f ≡ fault.UnknownNode)) ⊎ ((nat_lt m count ≡ true) × (m ≡ from) × (f ≡ fault.SameNode))
    → IsLocal port count n x (Admin from (Migrate ks m) (reply.Refused f)) x
refused_local port count n from x ks m f at (inl t) =
    subst (λ (p : ℕ × AdminFault). IsLocal port count n x (Admin p.0 (Migrate ks m) (reply.Refused p.1)) x) (λ i. (sym at i, sym t.1 i)) (unknown_local port count n x ks m t.0)
refused_local port count n from x ks m f at (inr t) =
    subst (λ (p : ℕ × AdminFault). IsLocal port count n x (Admin p.0 (Migrate ks m) (reply.Refused p.1)) x) (λ i. (sym at i, sym t.2 i)) (same_local port count n x ks m t.0 (t.1 ∙ at))

-- the node's seat, as its locked keeps it
pub at_locked : (port count n k : ℕ) (h : ℕ × Part) (x y : Node) (e : Event) → h ≡ (k, State x) → IsLocal port count n x e y → IsLocal port count n (state_in h.1) e y
at_locked port count n k h x y e is local = subst (λ z. IsLocal port count n z e y) (sym (ap (λ (q : ℕ × Part). state_in q.1) is)) local

-- a setting that was done, and its event
pub setting_done : (port count n k m : ℕ) (h : ℕ × Part) (x y : NodeView) (c d : AdminCommand) (r s : AdminReply) → IsNode port count n x → h ≡ (k, State x.node) → IsSetting c → m ≡ n → d ≡ c
    → r ≡ reply_or (setting_fault x.me x.nodes x.node c) (reply_if_accepted x.node c) → s ≡ r → y ≡ record x { node = cond (is_some (setting_fault x.me x.nodes x.node c)) x.node (node_if_accepted x.me x.node c) }
    → IsLocal port count n (state_in h.1) (Admin m d s) y.node
setting_done port count n k m h x y c d r s is seat setting place copy answer again done =
    let here = setting_here port count n x c s is setting (again ∙ answer) in
    let there = subst (λ (p : ℕ × AdminCommand). IsLocal port count n x.node (Admin p.0 p.1 s) (cond (is_some (setting_fault x.me x.nodes x.node c)) x.node (node_if_accepted x.me x.node c))) (λ i. (sym place i, sym copy i)) here in
    at_locked port count n k h x.node y.node (Admin m d s) seat (subst (λ (z : NodeView). IsLocal port count n x.node (Admin m d s) z.node) (sym done) there)

-- a client's command that was prepared, and its event
pub client_prepared : (port count n : ℕ) (x : NodeView) (seat : ℕ) (asking : Bool) (c : Command) (r : Reply) (d : NodeChange) → IsNode port count n x → IsPrepared x asking c d
    → r ≡ client_reply x.base_port x.me x.node asking c → IsServedBy port count n x.node (Client seat n asking c r) d
client_prepared port count n x seat asking c r d is prepared answer = record {
  next = client_node x.me x.node asking c;
  makes = prepared.makes;
  whole = prepared.whole;
  local = client_here port count n x seat asking c r is answer;
}

-- what was prepared, done, is what the event makes of the node
pub served_done : (port count n k : ℕ) (h : ℕ × Part) (x x' : NodeView) (e : Event) (d : NodeChange) → h ≡ (k, State x.node) → IsServedBy port count n x.node e d → IsDone d x x'
    → IsLocal port count n (state_in h.1) e x'.node
served_done port count n k h x x' e d is served done =
    at_locked port count n k h x.node x'.node e is (subst (λ (z : NodeView). IsLocal port count n x.node e z.node) (sym (done served.next served.makes)) served.local)

-- and it is still that node
pub served_node : (port count n : ℕ) (x x' : NodeView) (e : Event) (d : NodeChange) → IsNode port count n x → IsServedBy port count n x.node e d → IsDone d x x' → IsNode port count n x'
served_node port count n x x' e d is served done = subst (IsNode port count n) (sym (done served.next served.makes)) record { me = is.me; nodes = is.nodes; port_is = is.port_is }
