use Rattle.std.proofs.Common.{◌≡◌, arith, true, false, ap, sym, ◌∙◌, length}
use Rattle.std.proofs.lemmas.List.{length-map}
use Rattle.typed_values.specs.Members.{members_of, with_member}
use Rattle.store_commands.proofs.Removals.{counted-step, length-with_member}
use Rattle.store_commands.proofs.perform.keys.count_different.Goals as goal
use Rattle.store_commands.proofs.perform.keys.count_different.Goals.{then-is_there+in_ok-add, else-is_there}

pub loop-key-preserved : goal.loop-key-preserved
loop-key-preserved g c =
    let s = g.E.Entries.entries c.args.entries.now in
    let ks = c.get-key-items.result.now in
    let seen = members_of c.loop-key.seen.keys in
    let next = members_of c.if-is_there.seen.keys in
    let k = c.key-item.result in
    let as_many = length-map c.loop-key.seen.keys (λ m. m.items) in
    let as_many_next = length-map c.if-is_there.seen.keys (λ m. m.items) in
    elim c.if-is_there.branch [
      | then-is_there+in_ok-add w ↦
          let grown : next ≡ with_member seen k = ap (λ z. members_of z.keys) w.seen-is ∙ w.in_ok-add.ensures in (
            counted-step seen next s ks c.loop-key.key-index k _ true c.loop-key-test.true c.key-item.is (sym c.is_there.ensures ∙ w.if-is_there.true) grown c.loop-key.invariant.0,
            omega (arith, ap length grown, as_many, as_many_next, length-with_member seen k, c.loop-key.invariant.1),
          )
      | else-is_there w ↦
          let same : next ≡ seen = ap (λ z. members_of z.keys) w.seen-is in (
            counted-step seen next s ks c.loop-key.key-index k _ false c.loop-key-test.true c.key-item.is (sym c.is_there.ensures ∙ w.if-is_there.false) same c.loop-key.invariant.0,
            omega (arith, ap length same, as_many, as_many_next, c.loop-key.invariant.1),
          )
    ]
