use Rattle.std.proofs.Common.{refl, rules}
use Rattle.key_slots.proofs.Row.{kept, place_around, removed}
use Rattle.key_slots.proofs.start_row.remove_start_at.Goals as goal
use Rattle.key_slots.proofs.start_row.remove_start_at.Goals.{else-place-len-via-then-place-len+else-eq, else-place-len-via-else-place-len}

pub returns-then-eq-clause-place : goal.returns-then-eq-clause-place
returns-then-eq-clause-place c l r joins o a =
    place_around c.args.slot c.args.slot o joins l r c.args.starts.now.items c.args.place a refl c.requires.place

pub returns-then-eq-clause-items : goal.returns-then-eq-clause-items
returns-then-eq-clause-items c l r joins o a =
    let at = place_around c.args.slot c.args.slot o joins l r c.args.starts.now.items c.args.place a refl c.requires.place in
    removed c.args.slot o joins l r c.args.starts.now.items c.remove.new.self.items c.args.place c.index.result.now a at (search rules) (search rules) c.remove.ensures.items

pub returns-else-place-len-clause-place : goal.returns-else-place-len-clause-place
returns-else-place-len-clause-place c l r joins o a =
    place_around c.args.slot c.args.slot o joins l r c.args.starts.now.items c.args.place a refl c.requires.place

pub returns-else-place-len-clause-items : goal.returns-else-place-len-clause-items
returns-else-place-len-clause-items c l r joins o a =
    let at = place_around c.args.slot c.args.slot o joins l r c.args.starts.now.items c.args.place a refl c.requires.place in
    elim c.else-place-len.branch [
      | else-place-len-via-then-place-len+else-eq w ↦ kept c.args.slot o joins l r c.args.starts.now.items c.args.place w.index.result.now a at (λ lt. search rules)
      | else-place-len-via-else-place-len w ↦ kept c.args.slot o joins l r c.args.starts.now.items c.args.place (0, 0) a at (λ lt. search rules)
    ]
