use Rattle.std.proofs.Common.{◌≡◌, List, ℕ, length, sym, ap, ◌∙◌, arith}
use Rattle.std.proofs.lemmas.List.Splits.{length-slice_split}
use Rattle.std.proofs.lemmas.List.Sums.{count_by-le-length}
use Rattle.std.specs.Prelude.{nat_eq}
use Rattle.survey_files.specs.Reading.{lines_told, nothing_told}
use Rattle.survey_files.proofs.survey.reading_of.Goals as goal

pub loop-line-init : goal.loop-line-init
loop-line-init c =
    let text = c.args.text.now in
    let lines : length c.of-lines.result ≡ _ =
    ap length c.of-lines.ensures ∙ length-slice_split (λ b. nat_eq b 10) text in
    record {
      all = ap (λ (ls : List (List ℕ)). lines_told 1 ls nothing_told) (sym c.of-lines.ensures)
          ∙ ap (lines_told 1 c.of-lines.result) (sym c.new-reading.ensures);
      lines = omega (arith, lines, count_by-le-length (λ b. nat_eq b 10) text);
    }
