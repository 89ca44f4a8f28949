use Rattle.std.proofs.Common.{refl}
use Rattle.transcripts.specs.Printing.{shown_byte, shown_bytes}
use Rattle.transcripts.proofs.Printed.{one_printed, shown_bytes-grows}
use Rattle.transcripts.proofs.printing.print_bytes.Goals as goal

pub loop-byte-preserved : goal.loop-byte-preserved
loop-byte-preserved c = one_printed shown_byte shown_bytes shown_bytes-grows c.args.bytes.now c.loop-byte.byte-index 0 _
    c.args.printed.now.items c.loop-byte.printed.items _ c.loop-byte-test.true refl c.loop-byte.invariant
    c.in_ok-print_byte.ensures
