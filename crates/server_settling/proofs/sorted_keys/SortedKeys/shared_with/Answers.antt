use Rattle.std.proofs.Common.{◌≡◌, ◌+◌, ◌≤◌, ◌∙◌, length, ap, arith, length-append}
use Rattle.server_settling.specs.Keys.{at_both}
use Rattle.server_settling.proofs.Keeping.{both_le}
use Rattle.server_settling.proofs.sorted_keys.SortedKeys.shared_with.Goals as goal

pub returns-clause-few : goal.returns-clause-few
returns-clause-few c =
    let keys = c.args.self.now in
    let others = c.args.others.now in
    let found = c.loop-rest.found in
    let rest = at_both c.loop-rest.rest.now others in
    let le : length (at_both keys others) ≤ length keys = both_le keys others in
    let most : length c.self.inside.keys ≤ 4294967295 = c.self.invariant.1 in
    let same : length c.self.inside.keys ≡ length keys = ap length c.self.view_is in
    let all : length (at_both keys others) ≡ length found + length rest =
    ap length c.loop-rest.invariant ∙ length-append found rest in
    omega (arith, le, most, same, all)
