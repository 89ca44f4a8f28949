use Rattle.std.proofs.Common.{◌≡◌, ◌++◌, ℕ, List, Option, None, length, take, drop, get_or, refl, ap, subst, sym, ◌∙◌}
use Rattle.std.proofs.Common.{arith}
use Rattle.std.specs.Option.{option_or}
use Rattle.std.proofs.Math.Seq.{take-append_seam}
use Rattle.cluster_views.specs.Views.{Says, owner_said}
use Rattle.cluster_views.proofs.owners.owners_said.Goals as goal

pub returns : goal.returns
returns c =
    let b = c.args.book.now in
    let ls = c.args.lines.now in
    let new = c.put_lines.new.row in
    let begins = c.as_mut_slice.ensures.value in
    let width : length new ≡ 16384 =
    omega (arith, c.put_lines.auto.row, c.as_mut_slice.ensures.len, c.in_ok-resize.ensures.len) in
    let row : Says b ls new = record {
      width = width;
      owners = λ s lt.
          c.put_lines.ensures s lt
          ∙ ap (λ (o : List (Option ℕ)). option_or (get_or o s None) (owner_said b ls s)) begins
          ∙ ap (λ o. option_or o (owner_said b ls s)) (c.in_ok-resize.ensures.by_index.1 s None refl (omega arith) lt);
    } in
    let rest = drop (length new) c.resize.new.self.items in
    let whole : take c.resize.new.self.len (new ++ rest) ≡ new =
    ap (λ n. take n (new ++ rest)) (c.in_ok-resize.ensures.len ∙ sym width) ∙ take-append_seam new rest in
    subst (Says b ls) (sym whole) row
