use Rattle.std.proofs.Common.{◌≡◌, ◌==◌, cond, ap, ◌∙◌, arith}
use Rattle.std.specs.Prelude.{count_by}
use Rattle.cluster_views.specs.Numbers.{numbers_to}
use Rattle.survey_texts.specs.Texts.{is_own}
use Rattle.survey_texts.proofs.Texts.{count_end, count_first, count_more}
use Rattle.survey_texts.proofs.printing.slots_of.Goals as goal

pub loop-number-init : goal.loop-number-init
loop-number-init c = record {
  all = count_first (is_own c.args.survey.now c.args.node) 16384;
  few = omega arith;
}

pub loop-number-preserved : goal.loop-number-preserved
loop-number-preserved c =
    let own = is_own c.args.survey.now c.args.node in
    let one : c.one_if-count.result ≡ cond (own c.of.result) 1 0 =
    c.one_if-count.ensures.value
    ∙ ap (λ b. cond b 1 0) (c.eq.ensures ∙ ap (λ o. o == c.args.node) c.owner.ensures.value) in
    record {
      all = count_more own 16384 c.loop-number.number c.of.result (count_by own (numbers_to 16384)) c.loop-number.count
          c.one_if-count.result (omega arith) c.of.ensures c.loop-number.invariant.all one;
      few = omega (arith, c.one_if-count.ensures.most);
    }

pub returns : goal.returns
returns c =
    count_end (is_own c.args.survey.now c.args.node) 16384 c.loop-number.number c.loop-number.count (omega arith)
    c.loop-number.invariant.all
