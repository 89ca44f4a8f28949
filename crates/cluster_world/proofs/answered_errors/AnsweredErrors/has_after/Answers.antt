use Rattle.std.proofs.Common.{◌≡◌, ◌∷◌, ◌∙◌, ap, map, nat_eq, sym}
use Rattle.std.specs.Cmp.Lexicographic.{pointwise}
use Rattle.std.specs.Map.{lookup}
use Rattle.std.specs.Option.{option_copied}
use Rattle.cluster_world.specs.Imported.{is_after, place_in}
use Rattle.cluster_world.proofs.Errors.{looked_up}
use Rattle.cluster_world.proofs.answered_errors.AnsweredErrors.has_after.Goals as goal
use Rattle.cluster_world.proofs.answered_errors.AnsweredErrors.has_after.Goals.{After-get}

-- what the map has is what stands at the error
found : (c : After-get) → option_copied c.get.result ≡ place_in c.args.self.now c.args.text.now c.args.keys.now
found c =
    c.get.ensures.value
    ∙ looked_up (λ v. v.items) c.as_slice.result.now c.self.inside.places.entries
    ∙ ap (λ xs. lookup (pointwise (pointwise nat_eq) (map (λ b. b.now) xs)) (map (λ p. (map (λ b. b.now) p.0.items, p.1)) c.self.inside.places.entries)) c.as_slice.ensures.value
    ∙ ap (λ q. lookup (pointwise (pointwise nat_eq) q) (map (λ p. (map (λ b. b.now) p.0.items, p.1)) c.self.inside.places.entries)) c.in_ok-error.ensures
    ∙ ap (λ es. lookup (pointwise (pointwise nat_eq) (c.args.text.now ∷ c.args.keys.now)) es) c.self.view_is

pub returns-in-Some : goal.returns-in-Some
returns-in-Some c = ap (λ o. is_after o c.args.place) (ap option_copied (sym c.in-Some.is) ∙ found (goal.at.returns-in-Some c).After-get)

pub returns : goal.returns
returns c = ap (λ o. is_after o c.args.place) (ap option_copied (sym c.in-None.is) ∙ found (goal.at.returns c).After-get)
