use Rattle.telling_order.proofs.OneGo.{stops_in_one_go}
use Rattle.telling_order.proofs.laws.runs_stop_in_one_go.Goals as goal

pub returns : goal.returns
returns c =
    stops_in_one_go c.headline_over_servers.ensures.holds c.server_prefixes_are_driven.ensures
    c.stopped_servers_leave_open_worlds.ensures
