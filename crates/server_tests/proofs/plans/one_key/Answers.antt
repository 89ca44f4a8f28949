use Rattle.std.proofs.Common.{[], ◌∷◌, ◌++◌, ap, ◌∙◌}
use Rattle.server_tests.proofs.Movable.{one_is_movable}
use Rattle.server_tests.proofs.plans.one_key.Goals as goal

pub returns : goal.returns
returns c = one_is_movable c.in_ok-key.key c.push.new.self (c.in_ok-push.ensures.ok ∙ ap (λ ks. ks ++ c.in_ok-key.key ∷ []) c.new-keys.ensures)
