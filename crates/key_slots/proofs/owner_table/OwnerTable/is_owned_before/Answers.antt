use Rattle.std.proofs.Common.{◌≡◌, ◌∙◌, ◌-◌, ap, arith, get_or, length, rules, sym, vec_len}
use Rattle.key_slots.proofs.Row.{Reaches, owner_is_before, owner_reached}
use Rattle.key_slots.specs.Ranges.{starts_of}
use Rattle.key_slots.specs.Starts.{is_owner, owner_before, owners_by}
use Rattle.key_slots.proofs.owner_table.OwnerTable.is_owned_before.Goals as goal

found : (c : goal.Then-get-ne0) → Reaches c.self.inside.starts.items c.args.place (get_or (owners_by c.self.inside.starts.items) (c.args.slot - 1) 0)
found c =
    let row : c.self.inside.starts.items ≡ starts_of c.args.self.now.owners = c.self.invariant.0.longest ∙ ap (λ o. starts_of o.owners) c.self.view_is in
    owner_reached c.self.inside.nodes (c.args.slot - 1) c.args.place c.args.slot c.self.inside.starts.items c.self.invariant.0 (search rules) (search rules)
    (λ l r e. c.requires.place l r (sym row ∙ e))

pub overflow_sub-place : goal.overflow_sub-place
overflow_sub-place c = (found c).some

pub index-requires : goal.index-requires
index-requires c = let len : vec_len c.self.inside.starts ≡ length c.self.inside.starts.items = search rules in omega (arith, len, (found c).within)

pub returns-then-get-ne0 : goal.returns-then-get-ne0
returns-then-get-ne0 c =
    let row : c.self.inside.starts.items ≡ starts_of c.args.self.now.owners = c.self.invariant.0.longest ∙ ap (λ o. starts_of o.owners) c.self.view_is in
    let reached = owner_reached c.self.inside.nodes (c.args.slot - 1) c.args.place c.args.slot c.self.inside.starts.items c.self.invariant.0 (search rules) (search rules)
    (λ l r e. c.requires.place l r (sym row ∙ e)) in
    let read = ap (λ e. e.1) c.index.ensures in
    let owner = reached.owner c.index.result.now in
    let same : c.index.result.now.1 ≡ get_or (owners_by c.self.inside.starts.items) (c.args.slot - 1) 0 = cc in
    c.eq.ensures
    ∙ owner_is_before c.args.slot c.index.result.now.1 c.args.node (owners_by c.self.inside.starts.items) (search rules) same
    ∙ ap (λ o. is_owner (owner_before o.owners c.args.slot) c.args.node) c.self.view_is
