use Rattle.std.proofs.Common.{◌≡◌, ◌≤◌, ◌+◌, ◌*◌, ◌++◌, length, take}
use Rattle.std.specs.List.{flat_map}
use Rattle.plan_pages.specs.Servers.{names, server_lines}
use Rattle.plan_pages.proofs.servers.put_each.Given as goal

-- the lines of those before
abbrev pub invariant-loop-server : goal.invariant-loop-server
invariant-loop-server l = record {
  text : l.out.items ≡ l.initial.out.items ++ flat_map server_lines (take l.server-index l.servers);
  few : length l.out.items
      ≤ length l.initial.out.items + (240 * l.server-index + length (names (take l.server-index l.servers)));
}
