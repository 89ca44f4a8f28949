use Rattle.std.proofs.Common.{ℕ, arith}
use Rattle.cluster_reports.specs.NodeLines.{slot_mark}
use Rattle.cluster_reports.proofs.Numbers.{put_all, put_first, put_more}
use Rattle.cluster_reports.proofs.node_lines.put_marks.Goals as goal

pub loop-number-init : goal.loop-number-init
loop-number-init c = put_first (slot_mark c.args.table.now) c.args.out.now.items

pub loop-number-preserved : goal.loop-number-preserved
loop-number-preserved c =
    put_more (slot_mark c.args.table.now) c.loop-number.number c.of.result c.args.out.now.items c.loop-number.out.items
    _ c.of.ensures c.loop-number.invariant c.in_ok-put_slot_mark.ensures

pub returns : goal.returns
returns c =
    let n : ℕ = 16384 in
    put_all (slot_mark c.args.table.now) n c.loop-number.number c.args.out.now.items c.loop-number.out.items
    (omega arith) (omega arith) c.loop-number.invariant
