use Rattle.std.proofs.Common.{◌≡◌, ◌++◌, ◌∷◌, [], cond, length, inl, inr, subst, sym, ap, ◌∙◌, arith}
use Rattle.std.proofs.lemmas.Result.{err_from_is_err_and}
use Rattle.cluster_views.specs.Surveying.{IsTold}
use Rattle.cluster_views.proofs.Telling.{all_fine, is_told, none_told, one_refused, one_told}
use Rattle.cluster_views.proofs.surveying.told.Goals as goal

pub loop-number-init : goal.loop-number-init
loop-number-init c = none_told c.args.book.now c.args.views.now c.new-rows.result.items c.new-rows.ensures.items

pub loop-number-preserved : goal.loop-number-preserved
loop-number-preserved c =
    let rows = c.loop-number.rows.items in
    let put : c.push.new.self.items ≡ rows ++ c.in_ok-row.row ∷ [] =
    c.push.ensures.items
    ∙ ap (λ b. cond b (rows ++ c.in_ok-row.row ∷ []) rows) c.if-is_err.ensures.negation in
    one_told c.args.book.now c.args.views.now c.loop-number.number rows c.push.new.self.items c.in_ok-row.row
    c.of-node.result c.view_at.result.now c.loop-number.invariant (omega arith) put c.of-node.ensures c.view_at.ensures
    c.in_ok-row.ensures.0 c.in_ok-row.ensures.1 c.in_ok-row.ensures.2

pub returns-in_err-row : goal.returns-in_err-row
returns-in_err-row c =
    let p = err_from_is_err_and c.from_residual.result c.from_residual.ensures.1 in
    rw (p.1, p.2) (elim c.in_err-row.ensures [
      | inl m ↦ inl m
      | inr f ↦ inr (one_refused c.args.book.now c.args.views.now c.loop-number.number c.loop-number.rows.items
          c.of-node.result c.view_at.result.now c.in_err-row.field-0.0 c.loop-number.invariant (omega arith)
          c.of-node.ensures c.view_at.ensures f)
    ])

pub returns : goal.returns
returns c =
    let b = c.args.book.now in
    let views = c.args.views.now in
    let all : c.loop-number.number ≡ length b = omega arith in (
      all_fine b views c.loop-number.number c.loop-number.rows.items c.loop-number.invariant all,
      subst (IsTold b views) (sym c.of.ensures)
          (is_told b views c.loop-number.number c.loop-number.rows.items c.loop-number.invariant all),
    )
