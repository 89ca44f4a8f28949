use Rattle.std.proofs.Common.{◌-◌, refl, arith}
use Rattle.plan_language.proofs.Usual.{node_digit}
use Rattle.plan_language.proofs.usual_lines.node_number.Goals as goal

pub returns-in-48-to-55 : goal.returns-in-48-to-55
returns-in-48-to-55 c =
    (omega arith, node_digit c.args.digit (c.args.digit - 48) (omega arith) (omega arith) refl)
