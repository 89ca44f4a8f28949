use Rattle.std.proofs.Common.{◌≡◌, length, sym, subst, below_more, ◌∙◌, arith, None}
use Rattle.cluster_views.proofs.Firsts.{none_is, number_first, number_past}
use Rattle.cluster_admin.specs.Surveys.{migrating_at}
use Rattle.server_phases.specs.Strange.{going_at}
use Rattle.server_phases.proofs.Marks.{pair_none}
use Rattle.server_phases.proofs.looking.first_going.Goals as goal

pub loop-number-init : goal.loop-number-init
loop-number-init c = record {
  first = number_first (going_at c.args.survey.now c.args.slot) (length c.args.survey.now.rows);
  none = λ n lt. absurd (omega arith);
}

pub loop-number-preserved : goal.loop-number-preserved
loop-number-preserved c =
    let v = c.args.survey.now in
    let s = c.args.slot in
    record {
      first = c.loop-number.invariant.first
          ∙ number_past (going_at v s) (length v.rows) c.loop-number.number c.of.result c.going_at-mark.result (omega arith)
          c.of.ensures c.going_at-mark.ensures c.if-is_some.ensures;
      none = below_more _ _ c.loop-number.invariant.none
          (subst (λ n. migrating_at v n s ≡ None) c.of.ensures
          (pair_none c.of.result (migrating_at v c.of.result s)
          (sym c.going_at-mark.ensures ∙ none_is c.going_at-mark.result (sym c.if-is_some.ensures))));
    }
