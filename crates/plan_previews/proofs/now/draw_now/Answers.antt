use Rattle.std.proofs.Common.{inl}
use Rattle.plan_previews.proofs.now.draw_now.Goals as goal

pub returns-in-Ok : goal.returns-in-Ok
returns-in-Ok g c = inl (c.in-Ok.seen, c.in-Ok.ensures.seen, c.put_seen.ensures)
