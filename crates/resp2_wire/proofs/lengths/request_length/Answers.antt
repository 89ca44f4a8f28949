use Rattle.std.proofs.Common.{◌≡◌, ℕ, List, length, take, ap, ◌∙◌}
use Rattle.std.proofs.lemmas.List.{take_all}
use Rattle.resp2_wire.specs.Encoding.{encoding}
use Rattle.resp2_wire.specs.Held.{held}
use Rattle.resp2_wire.specs.Stream.{Words}
use Rattle.resp2_wire.specs.Tree.{bulk}
use Rattle.resp2_wire.proofs.Measured.{so_far, word_measured, request_measured}
use Rattle.resp2_wire.proofs.lengths.request_length.Goals as goal

pub loop-word-preserved : goal.loop-word-preserved
loop-word-preserved c =
    let one = c.bulk_length.ensures.value ∙ ap (λ (t : List ℕ). length (encoding (bulk t))) c.get.ensures.value in
    c.saturating_add-total.ensures ∙ word_measured c.args.words.now c.loop-word.word-index (length c.args.words.now) c.word-item.result c.loop-word.total c.bulk_length.result c.loop-word-test.true c.word-item.is c.loop-word.invariant one

pub returns : goal.returns
returns c =
    let words = c.args.words.now in
    let all : take c.loop-word.word-index words ≡ words = take_all c.loop-word.word-index words c.loop-word-test.false in
    c.loop-word.invariant ∙ ap (λ (ws : Words). held (so_far (length words) ws)) all ∙ ap held (request_measured words)
