use Rattle.std.proofs.Common.{◌≡◌, ◌∙◌, ◌+◌, ap, arith, get_or, length, rules, vec_len}
use Rattle.key_slots.proofs.Row.{Reaches, owner_reached, row_named}
use Rattle.key_slots.specs.Starts.{owners_by}
use Rattle.key_slots.proofs.owner_table.OwnerTable.owner.Goals as goal

found : (c : goal.After-starts_below-later) → Reaches c.self.inside.starts.items c.starts_below-later.result (get_or (owners_by c.self.inside.starts.items) c.args.slot 0)
found c = owner_reached c.self.inside.nodes c.args.slot c.starts_below-later.result (c.get.result + 1) c.self.inside.starts.items c.self.invariant.0 (search rules) (ap (λ n. n + 1) c.get.ensures.value)
    (λ l r e. c.starts_below-later.ensures.place l r (c.as_slice.ensures.value ∙ e))

pub overflow_sub-later : goal.overflow_sub-later
overflow_sub-later c = (found c).some

pub index-requires : goal.index-requires
index-requires c = let len : vec_len c.self.inside.starts ≡ length c.self.inside.starts.items = search rules in rw len (found c).within

value : (c : goal.After-result-1) → c.index.result.now.1 ≡ get_or (owners_by c.self.inside.starts.items) c.args.slot 0
value c =
    let reached = owner_reached c.self.inside.nodes c.args.slot c.starts_below-later.result (c.get.result + 1) c.self.inside.starts.items c.self.invariant.0 (search rules) (ap (λ n. n + 1) c.get.ensures.value)
    (λ l r e. c.starts_below-later.ensures.place l r (c.as_slice.ensures.value ∙ e)) in
    ap (λ e. e.1) c.index.ensures ∙ reached.owner c.index.result.now

pub returns-clause-value : goal.returns-clause-value
returns-clause-value c = value c ∙ ap (λ o. get_or o.owners c.args.slot 0) c.self.view_is

pub returns-clause-named : goal.returns-clause-named
returns-clause-named c =
    let nodes : c.self.inside.nodes ≡ c.args.self.now.nodes = ap (λ o. o.nodes) c.self.view_is in
    let low = row_named c.self.inside.nodes c.args.slot c.self.inside.starts.items c.self.invariant.0 (search rules) in
    let got = value c in
    omega (arith, nodes, low, got)
