use Rattle.std.proofs.Common.{◌≡◌, ◌≤◌, ◌+◌, ◌∷◌, [], ◌++◌, rules, sym, subst}
use Rattle.std.specs.List.{AllByRecursion}
use Rattle.plan_language.specs.Limits.{limits_of}
use Rattle.plan_language.specs.Lines.{ArePlanLines, FitsVersion, IsWithin, count, line_count}
use Rattle.plan_language.proofs.Pushed.{fits_pushed, pushed_are_lines}
use Rattle.plan_language.proofs.plan.Plan.push.Goals as goal

pub invariant_of-self-2 : goal.invariant_of-self-2
invariant_of-self-2 c =
    let plan = c.self.inside in
    let lines = plan.lines.items in
    let line = c.args.line in
    let limits = limits_of plan.names in
    let are = c.self.invariant in
    let back = sym c.self.view_is in
    let within = subst (λ p. IsWithin (limits_of p.names) line) back c.requires.within in
    let fits = subst (λ p. FitsVersion p.version line) back c.requires.fits in
    let room = subst (λ p. count (limits_of p.names) p.lines + line_count (limits_of p.names) line
    ≤ (limits_of p.names).commands) back c.requires.room in
    let is : lines ++ line ∷ [] ≡ c.extend_from_slice.new.self.items = search rules in (
      are.0,
      are.1,
      subst (ArePlanLines limits) is (pushed_are_lines limits lines line are.2 c.requires.well_formed within room),
      subst (AllByRecursion (FitsVersion plan.version)) is (fits_pushed plan.version lines line are.3 fits),
    )
