use Rattle.std.proofs.Common.{◌≡◌, ◌+◌, ◌-◌, ◌++◌, ◌∙◌, [], refl, ap, sym, subst, arith}
use Rattle.std.proofs.lemmas.Result.{err_from_is_err_and}
use Rattle.server_phases.specs.Resumed.{AddsMoves, IsUnmoved, still}
use Rattle.server_phases.proofs.Moved.{adds_none, adds_same, adds_then, still_parts, unmoved_after}
use Rattle.server_phases.proofs.resuming.put_runs.Goals as goal

pub loop-next-init : goal.loop-next-init
loop-next-init c =
    let k = c.args.first in
    let s = c.args.ends.now.source in
    let t = c.args.ends.now.target in
    let b = c.args.ends.now.batch in
    let none : c.get-next.result - k ≡ 0 = omega (arith, c.get-next.ensures.value) in
    record {
      least = omega (arith, c.get-next.ensures.value);
      most = omega (arith, c.get-next.ensures.value, c.requires.ordered);
      version = c.requires.version;
      names = refl;
      total = c.requires.total;
      few = c.requires.few;
      adds = λ n phases shows.
          adds_same n c.args.plan.now c.args.plan.now [] (still phases k (c.get-next.result - k) s t b)
          (sym (ap (λ i. still phases k i s t b) none)) (adds_none n c.args.plan.now);
    }

pub returns-in_err-next-clause-adds : goal.returns-in_err-next-clause-adds
returns-in_err-next-clause-adds c =
    let p = err_from_is_err_and c.from_residual.result c.from_residual.ensures.1 in
    let k = c.args.first in
    let m = c.loop-next.next in
    let l = c.args.last + 1 in
    let s = c.args.ends.now.source in
    let t = c.args.ends.now.target in
    let b = c.args.ends.now.batch in
    let e = c.in_err-next.field-0.0 in
    rw (p.1, p.2) (λ phases shows.
    unmoved_after 0 c.args.plan.now c.loop-next.plan (still phases k (m - k) s t b) (still phases m (l - m) s t b)
    (still phases k (l - k) s t b) e (c.loop-next.invariant.adds 0 phases shows)
    (still_parts phases k m l s t b c.loop-next.invariant.least c.loop-next.invariant.most)
    (subst (λ x. IsUnmoved c.loop-next.plan (still phases x (l - x) s t b) e) c.of.ensures
    (c.in_err-next.ensures.adds phases shows)))

pub loop-next-preserved : goal.loop-next-preserved
loop-next-preserved c =
    let k = c.args.first in
    let m = c.loop-next.next in
    let x = c.in_ok-next.next in
    let s = c.args.ends.now.source in
    let t = c.args.ends.now.target in
    let b = c.args.ends.now.batch in
    let put = c.in_ok-next.ensures.adds in
    let of : c.of.result ≡ m = c.of.ensures in
    record {
      least = omega (arith, put.0, of, c.loop-next.invariant.least);
      most = put.1;
      version = c.in_ok-next.ensures.version;
      names = c.in_ok-next.ensures.names ∙ c.loop-next.invariant.names;
      total = c.in_ok-next.ensures.total;
      few = c.in_ok-next.ensures.few;
      adds = λ n phases shows.
          adds_same n c.args.plan.now c.put_next.new.plan (still phases k (m - k) s t b ++ still phases m (x - m) s t b)
          (still phases k (x - k) s t b)
          (sym (still_parts phases k m x s t b c.loop-next.invariant.least (omega (arith, put.0, of))))
          (adds_then n c.args.plan.now c.loop-next.plan c.put_next.new.plan (still phases k (m - k) s t b)
          (still phases m (x - m) s t b) (c.loop-next.invariant.adds n phases shows)
          (subst (λ y. AddsMoves n c.loop-next.plan c.put_next.new.plan (still phases y (x - y) s t b)) of
          (put.2 n phases shows)));
    }

pub returns-clause-adds : goal.returns-clause-adds
returns-clause-adds c n phases shows =
    let all : c.loop-next.next ≡ c.args.last + 1
    = omega (arith, c.loop-next.invariant.most, c.loop-next-test.false, c.get.ensures.value) in
    subst (λ x. AddsMoves n c.args.plan.now c.loop-next.plan
    (still phases c.args.first (x - c.args.first) c.args.ends.now.source c.args.ends.now.target c.args.ends.now.batch))
    all (c.loop-next.invariant.adds n phases shows)
