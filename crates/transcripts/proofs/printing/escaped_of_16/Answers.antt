use Rattle.std.proofs.Common.{bit_or, not, refl}
use Rattle.std.proofs.lemmas.Simd.{zip2_of_maps, zip2_splat, zip2_splat_left}
use Rattle.transcripts.specs.Printing.{stands_for_itself}
use Rattle.transcripts.proofs.Plain.{lane_below, lane_equal, masked}
use Rattle.transcripts.proofs.printing.escaped_of_16.Goals as goal

pub returns : goal.returns
returns c =
    let v = c.args.group in
    let long = c.fits-group.0 in
    let below = zip2_splat lane_below v 16 33 long in
    let above = zip2_splat_left lane_below 126 16 v long in
    let backslash = zip2_splat lane_equal v 16 92 long in
    masked (λ b. not (stands_for_itself b)) _ v _ long c.fits-group.1
    (zip2_of_maps bit_or _ _ v (zip2_of_maps bit_or _ _ v below above) backslash) refl
