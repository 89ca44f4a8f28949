use Rattle.std.proofs.Common.{◌++◌, rules, ap, ◌∙◌}
use Rattle.transcripts.specs.Printing.{shown_bytes}
use Rattle.transcripts.proofs.Printed.{group_printed, run_printed}
use Rattle.transcripts.proofs.printing.print_long.Goals as goal

pub loop-left-preserved-then-plain-lt4 : goal.loop-left-preserved-then-plain-lt4
loop-left-preserved-then-plain-lt4 c =
    let old = c.loop-left.printed.items in
    let new = c.print_each.new.printed.items in
    let cut = c.split_at-then-plain-lt4.ensures in
    record {
      short = search rules;
      printed =
          ap (λ t. new ++ shown_bytes t) cut.back
          ∙ group_printed 16 c.loop-left.left.now old new _
          (c.in_ok-print_each.ensures ∙ ap (λ t. old ++ shown_bytes t) cut.front)
          c.loop-left.invariant.printed;
    }

pub loop-left-preserved : goal.loop-left-preserved
loop-left-preserved c =
    let old = c.loop-left.printed.items in
    let mid = c.print_plain.new.printed.items in
    let cut = c.split_at.ensures in
    record {
      short = search rules;
      printed =
          c.in_ok-left.ensures.printed ∙ ap (λ t. mid ++ shown_bytes t) cut.back
          ∙ run_printed c.loop-left.left.now old mid _ c.plain_len.result c.plain_len.ensures.value
          (c.in_ok-print_plain.ensures ∙ ap (λ t. old ++ t) cut.front)
          c.loop-left.invariant.printed;
    }
