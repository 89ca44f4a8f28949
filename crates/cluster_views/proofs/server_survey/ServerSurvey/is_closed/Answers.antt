use Rattle.std.proofs.Common.{◌≡◌, ◌<◌, List, length, below_more, refl, sym, ap, ◌∙◌, arith}
use Rattle.std.proofs.lemmas.List.{get_or_default}
use Rattle.cluster_views.specs.Rows.{blank_row, kept_at}
use Rattle.cluster_views.specs.declared.server_row.ServerRow.{ServerRow}
use Rattle.cluster_views.proofs.Closed.{closed_all, closed_kept, closed_one}
use Rattle.cluster_views.proofs.server_survey.ServerSurvey.is_closed.Goals as goal

pub loop-row-init : goal.loop-row-init
loop-row-init c n lt = absurd (omega arith)

pub loop-row-preserved : goal.loop-row-preserved
loop-row-preserved c =
    let rows = c.deref-row-items.result.now in
    below_more (λ n. kept_at rows n ≡ closed_kept c.args.owners.now) c.loop-row.row-index c.loop-row.invariant
    (get_or_default rows c.loop-row.row-index blank_row c.row-item.result (omega arith)
    ∙ sym c.row-item.is ∙ c.if-not-is_closed.ensures.0 refl)

pub returns-then-not-is_closed : goal.returns-then-not-is_closed
returns-then-not-is_closed c =
    let rows = c.deref-row-items.result.now in
    let begins = c.deref-row-items.ensures.value in
    let inside : c.loop-row.row-index < length c.self.inside.rows.items = omega (arith, ap length begins) in (
      λ f. cc,
      λ closed. c.if-not-is_closed.ensures.1 (
          c.row-item.is
          ∙ get_or_default rows c.loop-row.row-index c.row-item.result blank_row (omega arith)
          ∙ ap (λ (rs : List ServerRow). kept_at rs c.loop-row.row-index) begins
          ∙ closed_one c.self.inside.rows.items c.args.self.now c.args.owners.now c.self.invariant c.self.view_is closed
          c.loop-row.row-index inside),
    )

pub returns : goal.returns
returns c =
    let begins = c.deref-row-items.ensures.value in (
      λ t. closed_all c.self.inside.rows.items c.args.self.now c.args.owners.now c.self.view_is (omega arith)
          (λ n lt.
          ap (λ (rs : List ServerRow). kept_at rs n) (sym begins)
          ∙ c.loop-row.invariant n (omega (arith, ap length begins))),
      λ closed. refl,
    )
