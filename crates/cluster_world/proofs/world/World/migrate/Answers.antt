use Rattle.std.proofs.Common.{◌≡◌, ◌≢◌, ℕ, nat_lt, true, List, [], length, Option, Some, None, option_map, get_or, Vec, Global, sym, subst, ◌∙◌}
use Rattle.std.specs.Prelude.{◌==◌}
use Rattle.std.proofs.lemmas.Bool.{ne_eqb, eq-eqb, ltb-true}
use Rattle.slot_keyspace.specs.Batches.{Entry, batch_of}
use Rattle.slot_keyspace.proofs.Batches.{on_err}
use Rattle.cluster_node.specs.Exporting.{IsExport, IsFrameOf}
use Rattle.cluster_node.proofs.Served.{first_slot-head}
use Rattle.cluster_world.specs.Worlds.{node_at}
use Rattle.cluster_world.proofs.Moving.{Sent, unknown-fault, same-fault, refused, nothing, told_by_target, frame_made, frame_sent, is_no_bad_frame, moved_to_target}
use Rattle.cluster_admin.specs.declared.admin.AdminFault.TheVariants as fault
use Rattle.cluster_world.proofs.world.World.migrate.Goals as goal
use Rattle.cluster_world.proofs.world.World.migrate.Goals.{After-as_slice}

pub returns-then-not-has : goal.returns-then-not-has
returns-then-not-has c =
    let a = refused c.args.self.now c.args.source c.args.keys.now c.args.target fault.UnknownNode (unknown-fault c.args.self.now c.args.source c.args.keys.now c.args.target (sym c.has.ensures ∙ c.if-not-has.true)) in
    record { reply = a.reply_is; ok = a.world_is; err = tt; memory = tt }

pub returns-then-get : goal.returns-then-get
returns-then-get c =
    let known : nat_lt c.args.target (length c.args.self.now.nodes) ≡ true = sym c.has.ensures ∙ c.if-not-has.false in
    let same : (c.args.target == c.args.source) ≡ true = eq-eqb c.args.target c.args.source (sym c.get.ensures.value ∙ c.if-get.true ∙ c.get-2.ensures.value) in
    let a = refused c.args.self.now c.args.source c.args.keys.now c.args.target fault.SameNode (same-fault c.args.self.now c.args.source c.args.keys.now c.args.target known same) in
    record { reply = a.reply_is; ok = a.world_is; err = tt; memory = tt }

-- the frame that was made, or that none was
exported : (es : List Entry) (given made : Option (Vec ℕ Global)) → given ≡ made → IsExport es (option_map (λ v. v.items) given) → IsExport es (option_map (λ v. v.items) made)
exported es given made is export = subst (λ o. IsExport es (option_map (λ v. v.items) o)) is export

pub returns-in_default : goal.returns-in_default
returns-in_default c =
    let known : nat_lt c.args.target (length c.args.self.now.nodes) ≡ true = sym c.has.ensures ∙ c.if-not-has.false in
    let apart : c.args.target ≢ c.args.source = λ e. c.if-get.false (c.get.ensures.value ∙ e ∙ sym c.get-2.ensures.value) in
    let none : batch_of (node_at c.args.self.now c.args.source).held c.args.keys.now ≡ [] = exported _ c.in_ok-frame.field-0 None c.in_default.is c.in_ok-frame.ensures.frame in
    let a = nothing c.args.self.now c.args.source c.args.keys.now c.args.target c.requires.there (ltb-true _ _ known) known (ne_eqb c.args.target c.args.source apart) none in
    record { reply = a.reply_is; ok = a.world_is; err = tt; memory = tt }

apart_from : (target source a b : ℕ) → (a ≡ b → ⊥) → a ≡ target → b ≡ source → target ≢ source
apart_from target source a b differ at from e = differ (at ∙ e ∙ sym from)

-- what is known of the frame that goes to the target
sent : (c : After-as_slice) → Sent c.args.self.now c.args.source c.args.keys.now c.args.target c.slot_of.result c.as_slice.result.now
sent c =
    let es : List Entry = batch_of (node_at c.args.self.now c.args.source).held c.args.keys.now in
    let made : IsFrameOf es c.in-Some.frame.items = exported es c.in_ok-frame.field-0 (Some c.in-Some.frame) c.in-Some.is c.in_ok-frame.ensures.frame in
    record {
      known = sym c.has.ensures ∙ c.if-not-has.false;
      apart = ne_eqb c.args.target c.args.source (apart_from c.args.target c.args.source c.get.result c.get-2.result c.if-get.false c.get.ensures.value c.get-2.ensures.value);
      frame_is = subst (IsFrameOf es) (sym c.as_slice.ensures.value) made;
      slot = c.slot_of.ensures.value ∙ first_slot-head c.args.keys.now c.get-3.result.now c.requires.movable.some (subst (λ k. k ≡ get_or c.args.keys.now 0 k) (sym c.get-3.ensures.value) c.index-keys-0.is);
      one_slot = c.requires.movable.one_slot;
    }

pub returns-in-Ok : goal.returns-in-Ok
returns-in-Ok c =
    let other : c.args.source ≢ c.args.target = λ e. apart_from c.args.target c.args.source c.get.result c.get-2.result c.if-get.false c.get.ensures.value c.get-2.ensures.value (sym e) in
    let a = moved_to_target c.args.self.now c.args.source c.args.keys.now c.args.target c.slot_of.result c.as_slice.result.now c.admit_at.new.self c.forget_at.new.self (sent (goal.at.returns-in-Ok c).After-as_slice) other
    c.in-Ok.ensures.fault c.in-Ok.ensures.ok c.forget_at.ensures in
    record { reply = a.reply_is; ok = a.world_is; err = tt; memory = tt }

pub returns : goal.returns
returns c =
    let given = sent (goal.at.returns c).After-as_slice in
    let a = told_by_target c.args.self.now c.args.source c.args.keys.now c.args.target c.in-Err.fault c.slot_of.result c.as_slice.result.now c.admit_at.new.self c.refused_by_target.result given
    c.in-Err.ensures.fault c.in-Err.ensures.err c.refused_by_target.ensures.reply c.refused_by_target.ensures.told in
    record {
      reply = a.0;
      ok = a.1;
      err = on_err c.refused_by_target.result _ c.in-Err.ensures.err;
      memory = on_err c.refused_by_target.result _ (frame_sent c.args.self.now c.args.source c.args.keys.now c.args.target c.slot_of.result c.as_slice.result.now given);
    }

pub refused_by_target-requires : goal.refused_by_target-requires
refused_by_target-requires c e =
    is_no_bad_frame c.args.self.now c.args.source c.args.keys.now c.args.target c.slot_of.result c.as_slice.result.now (sent (goal.at.refused_by_target-requires c).After-as_slice)
    (rw e at c.in-Err.ensures.fault)

pub returns-in_err-frame-clause-memory : goal.returns-in_err-frame-clause-memory
returns-in_err-frame-clause-memory c =
    let known : nat_lt c.args.target (length c.args.self.now.nodes) ≡ true = sym c.has.ensures ∙ c.if-not-has.false in
    let apart : c.args.target ≢ c.args.source = λ e. c.if-get.false (c.get.ensures.value ∙ e ∙ sym c.get-2.ensures.value) in
    on_err c.from_residual.result _ (frame_made c.args.self.now c.args.source c.args.keys.now c.args.target known (ne_eqb c.args.target c.args.source apart) c.in_err-frame.ensures.memory)
