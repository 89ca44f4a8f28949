use Rattle.std.proofs.Common.{◌≤◌, ◌∙◌, length, arith}
use Rattle.command_list.proofs.Rows.{short_question, all_entries}
use Rattle.command_list.proofs.entries.command_reply.Goals as goal

pub put_entry-requires : goal.put_entry-requires
put_entry-requires c =
    short_question c.questions-rows.result.now c.loop-row.row-index _ c.questions-rows.ensures c.loop-row-test.true

pub returns : goal.returns
returns c =
    let past : length c.questions-rows.result.now ≤ c.loop-row.row-index = omega arith in
    c.array.ensures
    ∙ all_entries c.questions-rows.result.now _ c.loop-row.row-index c.questions-rows.ensures past c.loop-row.invariant
