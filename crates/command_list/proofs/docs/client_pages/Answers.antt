use Rattle.std.proofs.Common.{◌≤◌, length, subst, sym, arith}
use Rattle.command_list.specs.Shown.{IsShort}
use Rattle.command_list.proofs.Rows.{short_client, client_pages}
use Rattle.command_list.proofs.docs.client_pages.Goals as goal

pub put_page-requires : goal.put_page-requires
put_page-requires c =
    subst IsShort (sym c.of_command.ensures)
    (short_client c.commands-rows.result.now c.loop-row.row-index _ c.commands-rows.ensures c.loop-row-test.true)

pub returns : goal.returns
returns c =
    let past : length c.commands-rows.result.now ≤ c.loop-row.row-index = omega arith in
    client_pages c.commands-rows.result.now _ c.loop-row.row-index c.commands-rows.ensures past c.loop-row.invariant
