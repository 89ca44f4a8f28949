-- One plan after another is spelt by the calls of both.
use Rattle.std.proofs.Common.{List, [], ◌∷◌, ◌++◌, append_assoc, sym, ap, ◌∙◌, subst}
use Rattle.cluster_admin.specs.declared.admin.AdminCommand.TheVariants.{KeysIn}
use Rattle.cluster_admin.specs.declared.admin.AdminReply.TheVariants as reply
use Rattle.cluster_admin.specs.declared.call.AdminCall.{AdminCall}
use Rattle.plan_language.specs.declared.plan_command.PlanCommand.{PlanCommand}
use Rattle.plan_language.specs.declared.plan_command.PlanCommand.TheVariants as planned
use Rattle.plan_semantics.specs.Unrolling.{Unrolls, pair_calls}

pub unrolls_join : (a b : List PlanCommand) (x y : List AdminCall) → Unrolls a x → Unrolls b y
    → Unrolls (a ++ b) (x ++ y)
unrolls_join [] b x y u w = subst (λ l. Unrolls b (l ++ y)) (sym u) w
unrolls_join (planned.Importing s m at ∷ a) b x y u w =
    (u.0, u.1 ++ y, ap (λ l. l ++ y) u.2, unrolls_join a b u.1 y u.3 w)
unrolls_join (planned.Migrating s m at ∷ a) b x y u w =
    (u.0, u.1 ++ y, ap (λ l. l ++ y) u.2, unrolls_join a b u.1 y u.3 w)
unrolls_join (planned.SetNode s m at ∷ a) b x y u w =
    (u.0, u.1 ++ y, ap (λ l. l ++ y) u.2, unrolls_join a b u.1 y u.3 w)
unrolls_join (planned.Stable s at ∷ a) b x y u w =
    (u.0, u.1 ++ y, ap (λ l. l ++ y) u.2, unrolls_join a b u.1 y u.3 w)
unrolls_join (planned.Drain s m t b' ∷ a) b x y u w = (
  u.0,
  u.1 ++ y,
  ap (λ l. l ++ y) u.2
      ∙ append_assoc (pair_calls s m t b' u.0)
      (record { node = m; command = KeysIn s b'; reply = reply.Keys [] } ∷ u.1) y,
  unrolls_join a b u.1 y u.3 w,
)
