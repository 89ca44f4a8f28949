use Rattle.telling_order.proofs.SeenCalls.{seen_calls_hold}
use Rattle.telling_order.proofs.laws.seen_calls_have_the_headline.Goals as goal

pub returns : goal.returns
returns c =
    seen_calls_hold c.headline_over_servers.ensures.holds c.server_prefixes_are_driven.ensures
    c.stopped_servers_leave_open_worlds.ensures
