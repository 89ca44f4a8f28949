use Rattle.std.proofs.Common.{◌∷◌, ◌∙◌, ap, map, nat_eq, cond, Some}
use Rattle.std.specs.Cmp.Lexicographic.{pointwise}
use Rattle.std.specs.Map.{lookup}
use Rattle.cluster_world.proofs.Errors.{placed}
use Rattle.cluster_world.proofs.answered_errors.AnsweredErrors.add.Goals as goal

pub returns : goal.returns
returns c text ks =
    ap (λ es. lookup (pointwise (pointwise nat_eq) (text ∷ ks)) (map (λ p. (map (λ b. b.now) p.0.items, p.1)) es)) c.in_ok-insert.ensures.entries
    ∙ placed (λ v. v.items) c.self.inside.places.entries c.args.error c.args.place (text ∷ ks)
    ∙ ap (λ es. cond (pointwise (pointwise nat_eq) (text ∷ ks) (map (λ b. b.now) c.args.error.items)) (Some c.args.place) (lookup (pointwise (pointwise nat_eq) (text ∷ ks)) es)) c.self.view_is
