use Rattle.std.proofs.Common.{sym, ◌∙◌}
use Rattle.node_session.proofs.writing.put_reply.Goals as goal

pub encode-requires : goal.encode-requires
encode-requires g c = c.is_within_limits.ensures.within c.if-not-is_within_limits.false
