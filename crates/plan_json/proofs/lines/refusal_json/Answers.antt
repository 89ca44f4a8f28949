use Rattle.std.proofs.Common.{ap, ◌∙◌}
use Rattle.serde_json.specs.Written.{members_have_float}
use Rattle.plan_json.proofs.Floats.{of_refusal}
use Rattle.plan_json.proofs.lines.refusal_json.Goals as goal

pub line_of-requires : goal.line_of-requires
line_of-requires c = ap members_have_float c.in_ok-members.ensures.told ∙ of_refusal c.args.reason.now
