use Rattle.std.proofs.Common.{◌≡◌, List, [], subst}
use Rattle.cluster_admin.specs.declared.call.AdminCall.{AdminCall}
use Rattle.shared_trail.specs.Setups.{IsOpened}
use Rattle.live_tests.proofs.Sitting.{day_holds, ok_told}
use Rattle.live_tests.proofs.composed.pass_day.Goals as goal

pub returns : goal.returns
returns g c =
    day_holds g.B.ClusterBrand.setup.opening g.B.ClusterBrand.setup.owners c.args.first c.args.last c.in_ok-admin.admin
    c.in_ok-admin-2.admin c.in_ok-admin-3.admin c.in_ok-admin-4.admin c.close_with_headline.result
    (subst (λ s. IsOpened s.opening s.owners) c.requires.setup c.requires.opened)
    (ok_told (λ (s : List AdminCall). s ≡ []) c.admin_seat.result c.in_ok-admin.admin c.in_ok-admin.ensures.value c.admin_seat.ensures)
    c.in_ok-admin-2.ensures c.in_ok-admin-3.ensures c.in_ok-admin-4.ensures c.close_with_headline.ensures.owners
    c.close_with_headline.ensures.plans c.close_with_headline.ensures.listed
