use Rattle.node_forgetting.proofs.Outcomes.{error_read}
use Rattle.node_forgetting.proofs.telling.reason_in.Goals as goal

pub returns-in-Error : goal.returns-in-Error
returns-in-Error c =
    error_read (λ v. v.items) c.args.credentials.now c.reason_in_error.result c.args.reply.now c.get-in-Error.result.now
    c.in-Error.text c.in-Error.is c.get-in-Error.ensures.value c.reason_in_error.ensures
