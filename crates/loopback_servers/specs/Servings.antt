-- What is printed while a cluster is served.
use Rattle.std.specs.Prelude.{◌≤◌, ℕ, List, None, Option, Some, codes}
use Rattle.loopback_servers.specs.declared.options.ServeOptions.{ServeOptions}
use Rattle.loopback_servers.specs.declared.unserved.Unserved.{Unserved}
use Rattle.loopback_servers.specs.declared.unserved.Unserved.TheVariants.{Memory, NoSeat, Unopened, Unwritten}

-- why a cluster is not served; nothing is known of a system's reason
abbrev pub unserved_text : Unserved → Option (List ℕ)
unserved_text Memory = Some (codes "out of memory")
unserved_text (Unopened port reason) = None
unserved_text NoSeat = Some (codes "the cluster has no seat left")
unserved_text Unwritten = Some (codes "a write to the output failed")

-- one to eight nodes, some of which own slots, at ports that there are, and a seat for each worker
abbrev pub IsServable : ServeOptions → Type 0
IsServable o = (1 ≤ o.even) × (o.even ≤ o.nodes) × (o.nodes ≤ 8) × (o.base_port ≤ 65528)
    × (1 ≤ o.workers) × (o.workers ≤ 32)
