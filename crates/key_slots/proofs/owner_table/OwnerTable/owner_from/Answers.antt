use Rattle.std.proofs.Common.{◌≡◌, ◌∙◌, ◌+◌, ap, get_or, length, rules, vec_len}
use Rattle.key_slots.proofs.Row.{Reaches, owner_reached}
use Rattle.key_slots.specs.Starts.{owners_by}
use Rattle.key_slots.proofs.owner_table.OwnerTable.owner_from.Goals as goal

found : (c : goal.After-starts_from-end) → Reaches c.self.inside.starts.items c.starts_from-end.result (get_or (owners_by c.self.inside.starts.items) c.args.slot 0)
found c = owner_reached c.self.inside.nodes c.args.slot c.starts_from-end.result (c.get.result + 1) c.self.inside.starts.items c.self.invariant.0 (search rules) (ap (λ n. n + 1) c.get.ensures.value)
    (λ l r e. c.starts_from-end.ensures.place l r (c.as_slice.ensures.value ∙ e))

pub overflow_sub-end : goal.overflow_sub-end
overflow_sub-end c = (found c).some

pub index-requires : goal.index-requires
index-requires c = let len : vec_len c.self.inside.starts ≡ length c.self.inside.starts.items = search rules in rw len (found c).within

pub returns : goal.returns
returns c =
    let reached = owner_reached c.self.inside.nodes c.args.slot c.starts_from-end.result (c.get.result + 1) c.self.inside.starts.items c.self.invariant.0 (search rules) (ap (λ n. n + 1) c.get.ensures.value)
    (λ l r e. c.starts_from-end.ensures.place l r (c.as_slice.ensures.value ∙ e)) in
    ap (λ e. e.1) c.index.ensures ∙ reached.owner c.index.result.now ∙ ap (λ o. get_or o.owners c.args.slot 0) c.self.view_is
