use Rattle.std.proofs.Common.{◌≡◌, ℕ, List, None, Some, length, set, get_or, ap, sym, ◌∙◌, arith}
use Rattle.std.proofs.lemmas.List.{get_or_default, length-set}
use Rattle.key_slots.specs.Owners.{IsEvenSplit, Owners}
use Rattle.cluster_views.proofs.Ranges.{set_more}
use Rattle.survey_files.proofs.covering.table_of.Goals as goal

pub loop-slot-init : goal.loop-slot-init
loop-slot-init c =
    let even : IsEvenSplit c.args.nodes 1 c.in_ok-owners.owners = c.in_ok-owners.ensures in
    record { nodes = even.among; width = even.width; owners = λ s lt. absurd (omega arith) }

pub loop-slot-preserved : goal.loop-slot-preserved
loop-slot-preserved c =
    let slot = c.loop-slot.slot in
    let os = c.loop-slot.owners.owners in
    let read = rw c.from.ensures at c.in-Some.is in
    let here : get_or c.args.row.now slot None ≡ Some c.in-Some.owner =
    get_or_default c.args.row.now slot None _ (omega arith) ∙ read in
    let kept : c.set.new.self.owners ≡ set os slot c.in-Some.owner =
    ap (λ (o : Owners). o.owners) c.set.ensures ∙ ap (λ i. set os i c.in-Some.owner) c.of.ensures in
    record {
      nodes = ap (λ (o : Owners). o.nodes) c.set.ensures ∙ c.loop-slot.invariant.nodes;
      width = ap length kept ∙ length-set os slot c.in-Some.owner ∙ c.loop-slot.invariant.width;
      owners = λ s lt.
          set_more c.args.row.now os slot c.in-Some.owner (omega arith) here c.loop-slot.invariant.owners s lt
          ∙ ap (λ (o : List ℕ). Some (get_or o s 0)) (sym kept);
    }
