use Rattle.std.proofs.Common.{◌+◌, ◌-◌, [], ap, sym, ◌∙◌, arith}
use Rattle.std.proofs.lemmas.Result.{err_from_is_err_and}
use Rattle.server_phases.specs.Resumed.{run, still}
use Rattle.server_phases.proofs.Moved.{adds_none, adds_same, none_still, run_still, run_within, unmoved_more}
use Rattle.server_phases.proofs.resuming.put_next.Goals as goal

pub returns-then-not-is_at-clause-adds : goal.returns-then-not-is_at-clause-adds
returns-then-not-is_at-clause-adds c =
    let k = c.args.slot in
    let s = c.args.ends.now.source in
    let t = c.args.ends.now.target in
    let b = c.args.ends.now.batch in (
      omega (arith, c.get.ensures.value),
      omega (arith, c.get.ensures.value, c.requires.ordered),
      λ n phases shows. adds_same n c.args.plan.now c.args.plan.now [] (still phases k (c.get.result + 1 - k) s t b)
          (sym (ap (λ x. still phases k (x + 1 - k) s t b) c.get.ensures.value
          ∙ none_still phases k s t b (sym (c.is_at.ensures phases shows) ∙ c.if-not-is_at.true)))
          (adds_none n c.args.plan.now),
    )

pub returns-in_err-put_run-clause-adds : goal.returns-in_err-put_run-clause-adds
returns-in_err-put_run-clause-adds c =
    let p = err_from_is_err_and c.from_residual.result c.from_residual.ensures.1 in
    let k = c.args.slot in
    let e = c.end_of_run-end.result in
    let s = c.args.ends.now.source in
    let t = c.args.ends.now.target in
    let b = c.args.ends.now.batch in
    rw (p.1, p.2) (λ phases shows.
    unmoved_more c.args.plan.now (run k (e + 1 - k) s t b) (still phases k (c.args.last + 1 - k) s t b)
    c.in_err-put_run.field-0.0
    (run_within c.args.survey.now phases k e c.args.last s t b shows c.end_of_run-end.ensures.still
    c.end_of_run-end.ensures.least c.end_of_run-end.ensures.most)
    c.in_err-put_run.ensures.adds)

pub returns-clause-adds : goal.returns-clause-adds
returns-clause-adds c =
    let k = c.args.slot in
    let e = c.end_of_run-end.result in
    let s = c.args.ends.now.source in
    let t = c.args.ends.now.target in
    let b = c.args.ends.now.batch in (
      omega (arith, c.get-2.ensures.value, c.end_of_run-end.ensures.least),
      omega (arith, c.get-2.ensures.value, c.end_of_run-end.ensures.most),
      λ n phases shows. adds_same n c.args.plan.now c.put_run.new.plan (run k (e + 1 - k) s t b)
          (still phases k (c.get-2.result + 1 - k) s t b)
          (sym (run_still c.args.survey.now phases k e s t b shows c.end_of_run-end.ensures.still)
          ∙ ap (λ x. still phases k (x + 1 - k) s t b) (sym c.get-2.ensures.value))
          (c.in_ok-put_run.ensures.adds n),
    )
