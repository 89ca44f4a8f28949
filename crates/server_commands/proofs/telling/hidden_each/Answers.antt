use Rattle.std.proofs.Common.{rules, ◌≡◌, ◌≤◌, ◌++◌, true, codes, drop, length}
use Rattle.server_commands.specs.NamedErrors.{starts}
use Rattle.server_commands.proofs.Hiding.{password_found}
use Rattle.server_commands.proofs.telling.hidden_each.Goals as goal

pub loop-rest-preserved-in-Some : goal.loop-rest-preserved-in-Some
loop-rest-preserved-in-Some c =
    let is : starts c.args.password.now c.loop-rest.rest.now ≡ true = search rules in
    let behind : c.in-Some.after.now ≡ drop (length c.args.password.now) c.loop-rest.rest.now = search rules in
    let put : c.extend_from_slice.new.self.items ≡ c.loop-rest.found.items ++ codes "***" = search rules in
    password_found _ _ _ _ _ _ c.requires c.in-len1-up.len_at_least is behind put c.loop-rest.invariant
