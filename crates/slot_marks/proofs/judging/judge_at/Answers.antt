use Rattle.std.proofs.Common.{◌≡◌, ◌∙◌, sym, ap, false, cond, ◌&&◌, is_some}
use Rattle.std.specs.Prelude.{◌==◌, slice_index}
use Rattle.std.specs.FinMap.{get}
use Rattle.slot_marks.specs.declared.verdict.Verdict.TheVariants.{Serve, Moved}
use Rattle.slot_marks.specs.Verdicts.{first_slot}
use Rattle.slot_marks.proofs.Verdicts.{cross-is, mine-is, judged_by-at, judged-cross, judged-source, judged-target, judged-plain, stays-foreign, stays-unmarked, not_asking, not_coming}
use Rattle.slot_marks.proofs.judging.judge_at.Goals as goal
use Rattle.slot_marks.proofs.judging.judge_at.Goals.{then-is_mine+in_default, else-is_mine, else-asking-via-then-asking+else-is_some, else-asking-via-else-asking}

pub returns-then-has_other_slot : goal.returns-then-has_other_slot
returns-then-has_other_slot c =
    let keys = c.args.keys.now in
    let t = c.args.table.now in
    let s = c.args.slot in
    let slot : first_slot keys ≡ s = sym c.requires.slot in
    judged-cross t.me (slice_index t.owners s) (get t.migrating s) (get t.importing s) c.args.asking keys c.args.present.now (cross-is keys s c.has_other_slot.result c.requires.some slot c.has_other_slot.ensures ∙ c.if-has_other_slot.true)
    ∙ judged_by-at t c.args.asking keys c.args.present.now s slot

pub returns-in-Some : goal.returns-in-Some
returns-in-Some c =
    let keys = c.args.keys.now in
    let t = c.args.table.now in
    let s = c.args.slot in
    let slot : first_slot keys ≡ s = sym c.requires.slot in
    c.at_source.ensures
    ∙ judged-source t.me (slice_index t.owners s) c.in-Some.target (get t.migrating s) (get t.importing s) c.args.asking keys c.args.present.now
    (cross-is keys s c.has_other_slot.result c.requires.some slot c.has_other_slot.ensures ∙ c.if-has_other_slot.false)
    (mine-is c.owner-owner.result (slice_index t.owners s) c.me.result t.me c.eq-is_mine.result c.owner-owner.ensures.value c.me.ensures.value c.eq-is_mine.ensures ∙ c.if-is_mine.true)
    (sym c.in-Some.ensures)
    ∙ judged_by-at t c.args.asking keys c.args.present.now s slot

pub returns-then-is_some : goal.returns-then-is_some
returns-then-is_some c =
    let keys = c.args.keys.now in
    let t = c.args.table.now in
    let s = c.args.slot in
    let slot : first_slot keys ≡ s = sym c.requires.slot in
    let mine : (slice_index t.owners s == t.me) ≡ c.eq-is_mine.result = mine-is c.owner-owner.result (slice_index t.owners s) c.me.result t.me c.eq-is_mine.result c.owner-owner.ensures.value c.me.ensures.value c.eq-is_mine.ensures in
    let stays : (slice_index t.owners s == t.me && is_some (get t.migrating s)) ≡ false =
    elim c.if-is_mine.branch [
      | then-is_mine+in_default w ↦ stays-unmarked (slice_index t.owners s == t.me) (get t.migrating s) w.in_default.ensures
      | else-is_mine w ↦ stays-foreign (slice_index t.owners s == t.me) (is_some (get t.migrating s)) (mine ∙ w.if-is_mine.false)
    ] in
    c.at_target.ensures
    ∙ judged-target t.me (slice_index t.owners s) (get t.migrating s) (get t.importing s) c.args.asking keys c.args.present.now
    (cross-is keys s c.has_other_slot.result c.requires.some slot c.has_other_slot.ensures ∙ c.if-has_other_slot.false)
    stays
    (ap is_some (sym c.importing.ensures) ∙ sym c.is_some.ensures ∙ c.if-is_some.true)
    c.if-asking.true
    ∙ judged_by-at t c.args.asking keys c.args.present.now s slot

pub returns-then-is_mine-2 : goal.returns-then-is_mine-2
returns-then-is_mine-2 c =
    let keys = c.args.keys.now in
    let t = c.args.table.now in
    let s = c.args.slot in
    let slot : first_slot keys ≡ s = sym c.requires.slot in
    let mine : (slice_index t.owners s == t.me) ≡ c.eq-is_mine.result = mine-is c.owner-owner.result (slice_index t.owners s) c.me.result t.me c.eq-is_mine.result c.owner-owner.ensures.value c.me.ensures.value c.eq-is_mine.ensures in
    let stays : (slice_index t.owners s == t.me && is_some (get t.migrating s)) ≡ false =
    elim c.if-is_mine.branch [
      | then-is_mine+in_default w ↦ stays-unmarked (slice_index t.owners s == t.me) (get t.migrating s) w.in_default.ensures
      | else-is_mine w ↦ stays-foreign (slice_index t.owners s == t.me) (is_some (get t.migrating s)) (mine ∙ w.if-is_mine.false)
    ] in
    let unasked : (is_some (get t.importing s) && c.args.asking) ≡ false =
    elim c.else-asking.branch [
      | else-asking-via-then-asking+else-is_some w ↦ not_coming (is_some (get t.importing s)) c.args.asking (ap is_some (sym w.importing.ensures) ∙ sym w.is_some.ensures ∙ w.if-is_some.false)
      | else-asking-via-else-asking w ↦ not_asking (is_some (get t.importing s)) c.args.asking w.if-asking.false
    ] in
    ap (λ b. cond b Serve (Moved (slice_index t.owners s))) (sym (mine ∙ c.if-is_mine-2.true))
    ∙ judged-plain t.me (slice_index t.owners s) (get t.migrating s) (get t.importing s) c.args.asking keys c.args.present.now
    (cross-is keys s c.has_other_slot.result c.requires.some slot c.has_other_slot.ensures ∙ c.if-has_other_slot.false)
    stays unasked
    ∙ judged_by-at t c.args.asking keys c.args.present.now s slot

pub returns-else-is_mine-2 : goal.returns-else-is_mine-2
returns-else-is_mine-2 c =
    let keys = c.args.keys.now in
    let t = c.args.table.now in
    let s = c.args.slot in
    let slot : first_slot keys ≡ s = sym c.requires.slot in
    let mine : (slice_index t.owners s == t.me) ≡ c.eq-is_mine.result = mine-is c.owner-owner.result (slice_index t.owners s) c.me.result t.me c.eq-is_mine.result c.owner-owner.ensures.value c.me.ensures.value c.eq-is_mine.ensures in
    let stays : (slice_index t.owners s == t.me && is_some (get t.migrating s)) ≡ false =
    elim c.if-is_mine.branch [
      | then-is_mine+in_default w ↦ stays-unmarked (slice_index t.owners s == t.me) (get t.migrating s) w.in_default.ensures
      | else-is_mine w ↦ stays-foreign (slice_index t.owners s == t.me) (is_some (get t.migrating s)) (mine ∙ w.if-is_mine.false)
    ] in
    let unasked : (is_some (get t.importing s) && c.args.asking) ≡ false =
    elim c.else-asking.branch [
      | else-asking-via-then-asking+else-is_some w ↦ not_coming (is_some (get t.importing s)) c.args.asking (ap is_some (sym w.importing.ensures) ∙ sym w.is_some.ensures ∙ w.if-is_some.false)
      | else-asking-via-else-asking w ↦ not_asking (is_some (get t.importing s)) c.args.asking w.if-asking.false
    ] in
    ap Moved c.owner-owner.ensures.value ∙ ap (λ b. cond b Serve (Moved (slice_index t.owners s))) (sym (mine ∙ c.if-is_mine-2.false))
    ∙ judged-plain t.me (slice_index t.owners s) (get t.migrating s) (get t.importing s) c.args.asking keys c.args.present.now
    (cross-is keys s c.has_other_slot.result c.requires.some slot c.has_other_slot.ensures ∙ c.if-has_other_slot.false)
    stays unasked
    ∙ judged_by-at t c.args.asking keys c.args.present.now s slot
