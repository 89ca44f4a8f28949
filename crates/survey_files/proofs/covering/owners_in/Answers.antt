use Rattle.std.proofs.Common.{◌≡◌, ◌++◌, ℕ, List, Option, None, length, take, drop, get_or, refl, ap, subst, sym, ◌∙◌}
use Rattle.std.proofs.Common.{arith}
use Rattle.std.proofs.Math.Seq.{take-append_seam}
use Rattle.survey_files.specs.Covering.{AreOwners}
use Rattle.survey_files.proofs.covering.owners_in.Goals as goal

pub put_ranges-requires-clause-blank : goal.put_ranges-requires-clause-blank
put_ranges-requires-clause-blank c s lt =
    ap (λ (o : List (Option ℕ)). get_or o s None) c.as_mut_slice.ensures.value
    ∙ c.in_ok-resize.ensures.by_index.1 s None refl (omega arith) lt

pub returns : goal.returns
returns c =
    let new = c.put_ranges.new.row in
    let width : length new ≡ 16384 =
    omega (arith, c.put_ranges.auto.row, c.as_mut_slice.ensures.len, c.in_ok-resize.ensures.len) in
    let row : AreOwners c.args.ranges.now new = record {
      width = width;
      apart = c.in_ok-put_ranges.ensures.apart;
      owners = c.in_ok-put_ranges.ensures.told;
    } in
    let rest = drop (length new) c.resize.new.self.items in
    let whole : take c.resize.new.self.len (new ++ rest) ≡ new =
    ap (λ n. take n (new ++ rest)) (c.in_ok-resize.ensures.len ∙ sym width) ∙ take-append_seam new rest in
    subst (AreOwners c.args.ranges.now) (sym whole) row
