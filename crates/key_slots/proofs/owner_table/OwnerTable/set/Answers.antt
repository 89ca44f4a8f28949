use Rattle.std.proofs.Common.{◌≡◌, ◌∙◌, ◌+◌, ◌<◌, ap, arith, get_or, length, rules, set, sym}
use Rattle.key_slots.specs.Ranges.{starts_of}
use Rattle.key_slots.specs.Starts.{IsRow, is_owner, owner_before, owners_by}
use Rattle.key_slots.proofs.Row.{heads_early, heads_within, placed_heads, put_heads, row_placed, row_set_alone, row_set_both}
use Rattle.key_slots.proofs.owner_table.OwnerTable.set.Goals as goal

pub owner_from-requires-clause-early : goal.owner_from-requires-clause-early
owner_from-requires-clause-early c l r e =
    let row : c.self.inside.starts.items ≡ starts_of c.args.self.now.owners = c.self.invariant.0.longest ∙ ap (λ o. starts_of o.owners) c.self.view_is in
    let placed = row_placed c.self.inside.nodes c.args.slot c.get.result c.starts_below-place.result c.self.inside.starts.items c.as_slice.result.now c.self.invariant.0 (search rules) c.get.ensures.value c.as_slice.ensures.value c.starts_below-place.ensures.place in
    heads_early c.args.slot (c.args.slot + 1) c.starts_below-place.result c.self.inside.starts.items (omega arith) (placed_heads _ _ _ placed) l r (row ∙ e)

pub is_owned_before-joins-requires-clause-place : goal.is_owned_before-joins-requires-clause-place
is_owned_before-joins-requires-clause-place c l r e =
    let row : c.self.inside.starts.items ≡ starts_of c.args.self.now.owners = c.self.invariant.0.longest ∙ ap (λ o. starts_of o.owners) c.self.view_is in
    let placed = row_placed c.self.inside.nodes c.args.slot c.get.result c.starts_below-place.result c.self.inside.starts.items c.as_slice.result.now c.self.invariant.0 (search rules) c.get.ensures.value c.as_slice.ensures.value c.starts_below-place.ensures.place in
    placed.place l r (row ∙ e)

pub put_start_at-requires-clause-place : goal.put_start_at-requires-clause-place
put_start_at-requires-clause-place c =
    let placed = row_placed c.self.inside.nodes c.args.slot c.get.result c.starts_below-place.result c.self.inside.starts.items c.as_slice.result.now c.self.invariant.0 (search rules) c.get.ensures.value c.as_slice.ensures.value c.starts_below-place.ensures.place in
    placed.place

alone : (c : goal.After-put_start_at) → IsRow c.self.inside.nodes c.put_start_at.new.starts.items × (owners_by c.put_start_at.new.starts.items ≡ set (owners_by c.self.inside.starts.items) c.args.slot c.args.node)
alone c =
    let nodes : c.self.inside.nodes ≡ c.args.self.now.nodes = ap (λ o. o.nodes) c.self.view_is in
    let known : c.args.node < c.args.self.now.nodes = c.requires in
    row_set_alone c.self.inside.nodes c.args.slot c.args.node _ c.self.inside.starts.items c.put_start_at.new.starts.items c.is_owned_before-joins.result c.self.invariant.0 (omega arith)
    (sym c.get-2.ensures.value ∙ c.if-get-eq16383.true) c.self.invariant.1
    (c.is_owned_before-joins.ensures ∙ ap (λ o. is_owner (owner_before o.owners c.args.slot) c.args.node) (sym c.self.view_is)) c.put_start_at.ensures.items

pub invariant_of-self : goal.invariant_of-self
invariant_of-self c = let room = c.self.invariant.1 in let more = c.put_start_at.ensures.capacity in ((alone c).0, omega (arith, room, more))

pub returns-then-get-eq16383 : goal.returns-then-get-eq16383
returns-then-get-eq16383 c = λ i. record { nodes = (c.self.view_is i).nodes; owners = ((alone c).1 ∙ ap (λ o. set o.owners c.args.slot c.args.node) c.self.view_is) i }

pub owner_from-owner-requires-clause-early : goal.owner_from-owner-requires-clause-early
owner_from-owner-requires-clause-early c l r e =
    let row : c.self.inside.starts.items ≡ starts_of c.args.self.now.owners = c.self.invariant.0.longest ∙ ap (λ o. starts_of o.owners) c.self.view_is in
    let after : c.of-next.result ≡ c.args.slot + 1 = c.of-next.ensures ∙ ap (λ n. n + 1) c.get-else-get-eq16383.ensures.value in
    let placed = row_placed c.self.inside.nodes c.args.slot c.get.result c.starts_below-place.result c.self.inside.starts.items c.as_slice.result.now c.self.invariant.0 (search rules) c.get.ensures.value c.as_slice.ensures.value c.starts_below-place.ensures.place in
    heads_early c.args.slot (c.of-next.result + 1) c.starts_below-place.result c.self.inside.starts.items (omega arith) (placed_heads _ _ _ placed) l r (row ∙ e)

pub put_start_at-requires-else-get-eq16383-clause-place : goal.put_start_at-requires-else-get-eq16383-clause-place
put_start_at-requires-else-get-eq16383-clause-place c =
    let placed = row_placed c.self.inside.nodes c.args.slot c.get.result c.starts_below-place.result c.self.inside.starts.items c.as_slice.result.now c.self.invariant.0 (search rules) c.get.ensures.value c.as_slice.ensures.value c.starts_below-place.ensures.place in
    placed.place

pub starts_from-after-requires-clause-within : goal.starts_from-after-requires-clause-within
starts_from-after-requires-clause-within c =
    let placed = row_placed c.self.inside.nodes c.args.slot c.get.result c.starts_below-place.result c.self.inside.starts.items c.as_slice.result.now c.self.invariant.0 (search rules) c.get.ensures.value c.as_slice.ensures.value c.starts_below-place.ensures.place in
    let kept = put_heads c.args.slot c.args.node c.starts_below-place.result _ c.is_owned_before-joins.result c.self.inside.starts.items c.put_start_at-else-get-eq16383.new.starts.items placed c.self.invariant.1 c.put_start_at-else-get-eq16383.ensures.items in
    let within = heads_within c.args.slot c.starts_below-place.result c.put_start_at-else-get-eq16383.new.starts.items kept in
    let same : length c.as_slice-else-get-eq16383.result.now ≡ length c.put_start_at-else-get-eq16383.new.starts.items = ap length c.as_slice-else-get-eq16383.ensures.value in
    omega (arith, within, same)

pub starts_from-after-requires-clause-early : goal.starts_from-after-requires-clause-early
starts_from-after-requires-clause-early c l r e =
    let number : c.get-else-get-eq16383-2.result ≡ c.args.slot + 1 = c.get-else-get-eq16383-2.ensures.value ∙ c.of-next.ensures ∙ ap (λ n. n + 1) c.get-else-get-eq16383.ensures.value in
    let placed = row_placed c.self.inside.nodes c.args.slot c.get.result c.starts_below-place.result c.self.inside.starts.items c.as_slice.result.now c.self.invariant.0 (search rules) c.get.ensures.value c.as_slice.ensures.value c.starts_below-place.ensures.place in
    let kept = put_heads c.args.slot c.args.node c.starts_below-place.result _ c.is_owned_before-joins.result c.self.inside.starts.items c.put_start_at-else-get-eq16383.new.starts.items placed c.self.invariant.1 c.put_start_at-else-get-eq16383.ensures.items in
    heads_early c.args.slot c.get-else-get-eq16383-2.result c.starts_below-place.result c.put_start_at-else-get-eq16383.new.starts.items (omega arith) kept l r (sym c.as_slice-else-get-eq16383.ensures.value ∙ e)

both : (c : goal.After-put_start_at-else-get-eq16383-2) → IsRow c.self.inside.nodes c.put_start_at-else-get-eq16383-2.new.starts.items
    × (owners_by c.put_start_at-else-get-eq16383-2.new.starts.items ≡ set (owners_by c.self.inside.starts.items) c.args.slot c.args.node)
both c =
    let nodes : c.self.inside.nodes ≡ c.args.self.now.nodes = ap (λ o. o.nodes) c.self.view_is in
    let known : c.args.node < c.args.self.now.nodes = c.requires in
    let after : c.of-next.result ≡ c.args.slot + 1 = c.of-next.ensures ∙ ap (λ n. n + 1) c.get-else-get-eq16383.ensures.value in
    row_set_both c.self.inside.nodes c.args.slot c.of-next.result c.args.node c.owner_from-owner.result _ _
    c.self.inside.starts.items c.put_start_at-else-get-eq16383.new.starts.items c.put_start_at-else-get-eq16383-2.new.starts.items c.is_owned_before-joins.result c.eq-else-get-eq16383.result c.self.invariant.0 (omega arith) after (search rules) c.self.invariant.1 c.put_start_at-else-get-eq16383.ensures.capacity
    (c.is_owned_before-joins.ensures ∙ ap (λ o. is_owner (owner_before o.owners c.args.slot) c.args.node) (sym c.self.view_is))
    (c.owner_from-owner.ensures ∙ ap (λ o. get_or o.owners c.of-next.result 0) (sym c.self.view_is)) c.eq-else-get-eq16383.ensures
    c.put_start_at-else-get-eq16383.ensures.items c.put_start_at-else-get-eq16383-2.ensures.items

pub invariant_of-self-else-get-eq16383 : goal.invariant_of-self-else-get-eq16383
invariant_of-self-else-get-eq16383 c =
    let room = c.self.invariant.1 in
    let more = c.put_start_at-else-get-eq16383.ensures.capacity in
    let again = c.put_start_at-else-get-eq16383-2.ensures.capacity in
    ((both c).0, omega (arith, room, more, again))

pub returns-else-get-eq16383 : goal.returns-else-get-eq16383
returns-else-get-eq16383 c = λ i. record { nodes = (c.self.view_is i).nodes; owners = ((both c).1 ∙ ap (λ o. set o.owners c.args.slot c.args.node) c.self.view_is) i }
