use Rattle.std.proofs.Common.{rules, sym, ◌∙◌, arith}
use Rattle.std.proofs.lemmas.List.Sums.{prefix_len_is}
use Rattle.transcripts.specs.Printing.{stands_for_itself}
use Rattle.transcripts.proofs.printing.plain_len_from.Goals as goal

pub returns-then-not-stands_for_itself-clause-value : goal.returns-then-not-stands_for_itself-clause-value
returns-then-not-stands_for_itself-clause-value c =
    sym (prefix_len_is stands_for_itself c.args.bytes.now c.loop-place.place 0 (search rules) c.loop-place.invariant
    (λ h. sym c.stands_for_itself.ensures ∙ c.if-not-stands_for_itself.true))

pub returns-clause-value : goal.returns-clause-value
returns-clause-value c =
    sym (prefix_len_is stands_for_itself c.args.bytes.now _ 0 (omega arith)
    (λ k h. c.loop-place.invariant k (search rules)) (λ h. absurd (omega arith)))
