use Rattle.std.proofs.Common.{◌≡◌, ◌+◌, ◌∷◌, [], length, subst, sym, ap, ◌∙◌, arith}
use Rattle.std.proofs.lemmas.List.{length-append}
use Rattle.cluster_admin.specs.Surveys.{IsTableOf, row_at}
use Rattle.cluster_admin.proofs.Surveyed.{all_copied, none_copied, one_copied}
use Rattle.cluster_views.proofs.Marked.{tables_are}
use Rattle.cluster_views.proofs.server_survey.ServerSurvey.tables.Goals as goal

pub loop-number-init : goal.loop-number-init
loop-number-init c = record {
  many = ap length c.new-tables.ensures.items;
  copied = none_copied (length c.args.self.now.rows) (row_at c.args.self.now) c.new-tables.result.items
      c.new-tables.ensures.items;
}

pub loop-number-preserved : goal.loop-number-preserved
loop-number-preserved c =
    let v = c.args.self.now in
    let before = c.loop-number.tables.items in
    let t = c.in-Some.table in
    let told = rw c.in-Some.is at c.in_ok-table.ensures in
    let here : c.of.result ≡ length before = c.of.ensures ∙ sym c.loop-number.invariant.many in
    record {
      many = ap length c.in_ok-push-in-Some.ensures.items ∙ length-append before (t ∷ [])
          ∙ ap (λ n. n + 1) c.loop-number.invariant.many;
      copied = one_copied (length v.rows) (row_at v) before c.push.new.self.items t c.loop-number.invariant.copied
          c.in_ok-push-in-Some.ensures.items (subst (λ n. IsTableOf (length v.rows) n t) here told.0)
          (told.1 ∙ ap (row_at v) here);
    }

pub returns : goal.returns
returns c =
    let v = c.args.self.now in
    let ts = c.loop-number.tables.items in
    let all : length ts ≡ length v.rows = c.loop-number.invariant.many ∙ omega arith in (
      all_copied (length v.rows) (row_at v) ts c.loop-number.invariant.copied all (omega arith) (omega arith),
      tables_are v ts c.loop-number.invariant.copied all,
    )
