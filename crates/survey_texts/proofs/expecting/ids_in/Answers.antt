use Rattle.std.proofs.Common.{◌≡◌, ◌+◌, ℕ, true, false, List, length, sym, ap, ◌∙◌, arith}
use Rattle.std.proofs.lemmas.List.Splits.{length-slice_split}
use Rattle.std.proofs.lemmas.List.Sums.{count_by-le-length}
use Rattle.std.proofs.lemmas.Result.{err_from_is_err_and}
use Rattle.std.specs.Prelude.{nat_eq}
use Rattle.survey_texts.specs.Expecting.{goes_on, ids_from}
use Rattle.survey_texts.proofs.Lines.{nothing_yet, one_read, refused_line}
use Rattle.survey_texts.proofs.expecting.ids_in.Goals as goal

pub loop-line-init : goal.loop-line-init
loop-line-init c =
    let none = c.new-ids.ensures in
    let text = c.args.text.now in
    let lines : length c.of-lines.result ≡ _ =
    ap length c.of-lines.ensures ∙ length-slice_split (λ b. nat_eq b 10) text in
    record {
      all = ap (ids_from 0 1) (sym c.of-lines.ensures)
          ∙ sym (nothing_yet (ids_from 0 1 c.of-lines.result))
          ∙ ap (λ (ids : List (List ℕ)). goes_on ids (ids_from (length ids) 1 c.of-lines.result)) (sym none);
      few = omega (arith, ap length none);
      lines = omega (arith, lines, count_by-le-length (λ b. nat_eq b 10) text);
    }

pub loop-line-preserved : goal.loop-line-preserved
loop-line-preserved c =
    let begins = c.in-Some.ensures in
    record {
      all = c.loop-line.invariant.all
          ∙ ap (λ (ls : List (List ℕ)). goes_on c.loop-line.ids (ids_from (length c.loop-line.ids) (c.loop-line.number + 1) ls))
          begins
          ∙ one_read c.loop-line.ids c.add_line.new.ids (c.loop-line.number + 1) c.in-Some.line.now c.next.new.self
          (λ a b. let f : false ≡ true = c.if-is_end.ensures.1 (a, b) in cc) c.in_ok-add_line.ensures.read;
      few = c.in_ok-add_line.ensures.few;
      lines = omega (arith, ap length begins);
    }

pub returns-in_err-add_line-clause-ids : goal.returns-in_err-add_line-clause-ids
returns-in_err-add_line-clause-ids c =
    let p = err_from_is_err_and c.from_residual.result c.from_residual.ensures.1 in
    rw (p.1, p.2) (refused_line c.args.text.now c.loop-line.ids (c.loop-line.number + 1) c.in-Some.line.now c.loop-line.lines
    c.next.new.self c.in_err-add_line.field-0.0 c.loop-line.invariant.all c.in-Some.ensures
    (λ a b. let f : false ≡ true = c.if-is_end.ensures.1 (a, b) in cc) c.in_err-add_line.ensures.read)
