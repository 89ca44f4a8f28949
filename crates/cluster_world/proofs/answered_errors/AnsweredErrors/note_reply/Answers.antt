use Rattle.std.proofs.Common.{◌∙◌, ◌&&◌, ◌∷◌, ap, sym, nat_eq, cond, Some}
use Rattle.std.specs.Cmp.Lexicographic.{pointwise}
use Rattle.cluster_world.specs.Earning.{is_error}
use Rattle.cluster_world.specs.Imported.{place_in}
use Rattle.cluster_world.proofs.Errors.{one_error}
use Rattle.cluster_world.proofs.Within.{on_ok_then}
use Rattle.cluster_world.proofs.answered_errors.AnsweredErrors.note_reply.Goals as goal

pub returns-in_ok-error_of-in-Error : goal.returns-in_ok-error_of-in-Error
returns-in_ok-error_of-in-Error c =
    on_ok_then c.add.result (λ added text ks. added text ks ∙ ap (λ b. cond b (Some c.args.place) (place_in c.args.self.now text ks)) (
    ap (λ x. pointwise (pointwise nat_eq) (text ∷ ks) x) c.in_ok-error_of-in-Error.ensures
    ∙ one_error text c.get.result.now ks c.args.keys.now
    ∙ ap (λ u. pointwise (pointwise nat_eq) c.args.keys.now ks && pointwise nat_eq u text) c.get.ensures.value
    ∙ ap (λ r. pointwise (pointwise nat_eq) c.args.keys.now ks && is_error text r) (sym c.in-Error.is)
    )) c.add.ensures
