use Rattle.std.proofs.Common.{inl}
use Rattle.server_shards.proofs.returning.may_take_back.Goals as goal

pub returns-in-Ok : goal.returns-in-Ok
returns-in-Ok g c = inl (c.in-Ok.version, c.version_of.new.link, c.in-Ok.ensures, c.by_version.ensures)
