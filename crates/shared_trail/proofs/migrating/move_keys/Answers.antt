use Rattle.std.proofs.Common.{◌≡◌, ℕ, List, [], Option, Some, None, option_map, get_or, Vec, Global, refl, sym, subst, ap, ◌∙◌}
use Rattle.slot_keyspace.specs.Batches.{Entry, batch_of}
use Rattle.slot_marks.specs.Verdicts.{first_slot}
use Rattle.cluster_node.specs.Exporting.{IsExport, IsFrameOf}
use Rattle.cluster_node.proofs.Served.{first_slot-head}
use Rattle.cluster_node.specs.Admitting.{IsTold, admit_fault, told_as}
use Rattle.cluster_node.specs.declared.admitting.AdmitFault.{AdmitFault}
use Rattle.cluster_node.specs.declared.admitting.AdmitFault.TheVariants as admitting
use Rattle.cluster_node.specs.NodeView.{NodeView}
use Rattle.shared_trail.proofs.Moves.{none_moved, refused_reply, refused_brief, all_moved, no_bad_frame}
use Rattle.shared_trail.proofs.migrating.move_keys.Goals as goal
use Rattle.shared_trail.proofs.migrating.move_keys.Goals.{After-as_slice}

-- the frame that was made, or that none was
exported : (es : List Entry) (given made : Option (Vec ℕ Global)) → given ≡ made → IsExport es (option_map (λ v. v.items) given) → IsExport es (option_map (λ v. v.items) made)
exported es given made is export = subst (λ o. IsExport es (option_map (λ v. v.items) o)) is export

pub returns-in_default : goal.returns-in_default
returns-in_default c =
    let x = c.args.source.now in
    let y = c.args.target.now in
    let none : batch_of x.node.held c.args.keys.now ≡ [] = exported _ c.args.frame None c.in_default.is c.requires.frame in
    record {
      shared = none_moved x.base_port x.nodes x.me y.me x.node y.node c.args.keys.now record { apart = c.requires.apart; one_slot = c.requires.movable.one_slot } none;
      source = refl;
      target = refl;
      brief = λ u. u;
      err = tt;
    }

framed : (c : After-as_slice) → IsFrameOf (batch_of c.args.source.now.node.held c.args.keys.now) c.as_slice.result.now
framed c =
    let es : List Entry = batch_of c.args.source.now.node.held c.args.keys.now in
    let made : IsFrameOf es c.in-Some.frame.items = exported es c.args.frame (Some c.in-Some.frame) c.in-Some.is c.requires.frame in
    subst (IsFrameOf es) (sym c.as_slice.ensures.value) made

slotted : (c : After-as_slice) → c.slot_of.result ≡ first_slot c.args.keys.now
slotted c = c.slot_of.ensures.value ∙ first_slot-head c.args.keys.now c.get.result.now c.requires.movable.some (subst (λ k. k ≡ get_or c.args.keys.now 0 k) (sym c.get.ensures.value) c.index-keys-0.is)

pub returns-in-Ok-clause-shared : goal.returns-in-Ok-clause-shared
returns-in-Ok-clause-shared c =
    let x = c.args.source.now in
    let y = c.args.target.now in
    let at = (goal.at.returns-in-Ok-clause-shared c).After-as_slice in
    all_moved x.base_port x.nodes x.me y.me x.node y.node c.args.keys.now record { apart = c.requires.apart; one_slot = c.requires.movable.one_slot }
    c.slot_of.result c.as_slice.result.now c.forget.new.self.node c.admit.new.self.node (framed at) (slotted at) c.in-Ok.ensures.fault (ap (λ (z : NodeView). z.node) c.forget.ensures) (ap (λ (z : NodeView). z.node) c.in-Ok.ensures.ok)

told_of : (c : After-as_slice) (f : AdmitFault) → IsTold (admit_fault c.args.target.now.node c.slot_of.result c.as_slice.result.now) f → f ≡ admitting.BadFrame → ⊥
told_of c f told bad =
    let x = c.args.source.now in
    let y = c.args.target.now in
    no_bad_frame x.base_port x.nodes x.me y.me x.node y.node c.args.keys.now record { apart = c.requires.apart; one_slot = c.requires.movable.one_slot }
    c.slot_of.result c.as_slice.result.now (framed c) (slotted c) (subst (IsTold _) bad told)

pub returns-clause-shared : goal.returns-clause-shared
returns-clause-shared c =
    let x = c.args.source.now in
    let y = c.args.target.now in
    let at = (goal.at.returns-clause-shared c).After-as_slice in
    refused_reply x.base_port x.nodes x.me y.me x.node y.node c.args.keys.now record { apart = c.requires.apart; one_slot = c.requires.movable.one_slot }
    c.in-Err.fault c.slot_of.result c.as_slice.result.now c.admit.new.self.node c.refused_by_target.result (framed at) (slotted at) c.in-Err.ensures.fault
    (ap (λ (z : NodeView). z.node) c.in-Err.ensures.err) c.refused_by_target.ensures.reply c.refused_by_target.ensures.told

pub returns-clause-brief : goal.returns-clause-brief
returns-clause-brief c = refused_brief (told_as c.in-Err.fault) c.refused_by_target.result c.refused_by_target.ensures.reply

pub refused_by_target-requires : goal.refused_by_target-requires
refused_by_target-requires c e = told_of (goal.at.refused_by_target-requires c).After-as_slice c.in-Err.fault c.in-Err.ensures.fault e
