use Rattle.std.proofs.Common.{rules, ◌≡◌, ◌≤◌, map, subst, sym}
use Rattle.std.specs.Prelude.{unwrap_or}
use Rattle.std.specs.List.{All}
use Rattle.cluster_cli.proofs.Weighing.{light_or_one}
use Rattle.cluster_cli.proofs.weights_by_name.weights_of_some.Goals as goal

pub returns-in-Some-clause-light : goal.returns-in-Some-clause-light
returns-in-Some-clause-light c =
    let are : c.in_ok-or_ones-in-Some.field-0.items ≡ map (λ w. unwrap_or w 1) c.in-Some.row.items = search rules in
    subst (All (λ w. w ≤ 1000)) (sym are) (light_or_one c.in-Some.row.items (search rules))
