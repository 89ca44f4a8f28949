use Rattle.std.proofs.Common.{◌≡◌, ◌∙◌, IfOk, ap, subst}
use Rattle.key_slots.specs.Ranges.{owner_ranges}
use Rattle.key_slots.specs.Starts.{between}
use Rattle.key_slots.proofs.Row.{row_ranges}
use Rattle.key_slots.proofs.owner_table.OwnerTable.ranges.Goals as goal

pub returns : goal.returns
returns c =
    let e = ap (between 16384) c.as_slice.ensures.value ∙ row_ranges c.self.inside.nodes c.self.inside.starts.items c.self.invariant.0 ∙ ap (λ o. owner_ranges o.owners) c.self.view_is in
    subst (λ w. IfOk c.ranges_between.result (λ v. v.items ≡ w)) e c.ranges_between.ensures
