use Rattle.std.proofs.Common.{IsSome, subst, sym, ap, ◌∙◌}
use Rattle.std.specs.FinMap.{get}
use Rattle.store_commands.specs.Store.{write}
use Rattle.slot_keyspace.specs.Writing.{undone, CanBeUndone}
use Rattle.slot_keyspace.proofs.Undoing.{can-parts, undone-last}
use Rattle.slot_keyspace.proofs.writing.take_back.Goals as goal

pub put_back-requires : goal.put_back-requires
put_back-requires g c =
    let s = g.M.KeyMap.store c.loop-key.map in
    let can = can-parts c.pop.new.self.items (c.in-Some.key, c.in-Some.old) s (subst (λ us. CanBeUndone us s) c.in-Some.ensures.items c.loop-key.invariant.can) in
    subst (λ k. IsSome (get s k)) (sym c.get.ensures.value) can.0

pub loop-key-preserved : goal.loop-key-preserved
loop-key-preserved g c =
    let s = g.M.KeyMap.store c.loop-key.map in
    let us = c.pop.new.self.items in
    let can = can-parts us (c.in-Some.key, c.in-Some.old) s (subst (λ us. CanBeUndone us s) c.in-Some.ensures.items c.loop-key.invariant.can) in
    let done = c.put_back.ensures ∙ ap (λ k. write s k c.in-Some.old) c.get.ensures.value in
    record {
      same = ap (undone us) done ∙ sym (undone-last us (c.in-Some.key, c.in-Some.old) s) ∙ ap (λ us. undone us s) (sym c.in-Some.ensures.items) ∙ c.loop-key.invariant.same;
      can = subst (CanBeUndone us) (sym done) can.1;
    }
