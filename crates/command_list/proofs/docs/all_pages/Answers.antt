use Rattle.std.proofs.Common.{◌≤◌, ◌∙◌, length, arith}
use Rattle.command_list.proofs.Rows.{short_question, all_told}
use Rattle.command_list.proofs.docs.all_pages.Goals as goal

pub put_page-requires : goal.put_page-requires
put_page-requires c =
    short_question c.questions-rows.result.now c.loop-row.row-index _ c.questions-rows.ensures c.loop-row-test.true

pub returns : goal.returns
returns c =
    let past : length c.questions-rows.result.now ≤ c.loop-row.row-index = omega arith in
    c.array.ensures
    ∙ all_told c.questions-rows.result.now _ c.loop-row.row-index c.questions-rows.ensures past c.loop-row.invariant
