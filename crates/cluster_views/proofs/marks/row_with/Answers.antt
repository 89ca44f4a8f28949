use Rattle.std.proofs.Common.{length, take, subst, sym, ◌∙◌, ap, arith}
use Rattle.std.specs.Option.{option_or}
use Rattle.cluster_views.specs.Views.{imports, migrates}
use Rattle.cluster_views.proofs.Firsts.{given_more}
use Rattle.cluster_views.proofs.Marking.{Below, coming_below, going_below, no_marks}
use Rattle.cluster_views.proofs.marks.row_with.Goals as goal

pub loop-word-init : goal.loop-word-init
loop-word-init c =
    let going = no_marks c.in_ok-migrating.migrating c.in_ok-migrating.ensures in
    let coming = no_marks c.in_ok-importing.importing c.in_ok-importing.ensures in
    (going, coming, λ s le. going s, λ s le. coming s)

pub loop-word-preserved : goal.loop-word-preserved
loop-word-preserved c = (
  λ s.
      c.put_mark.ensures.migrating s
      ∙ ap (λ o. option_or o (migrates c.args.book.now s c.word-item.result)) (c.loop-word.invariant.0 s)
      ∙ sym (given_more (migrates c.args.book.now s) c.args.words.now c.loop-word.word-index c.word-item.result
      (omega arith) c.word-item.is),
  λ s.
      c.put_mark.ensures.importing s
      ∙ ap (λ o. option_or o (imports c.args.book.now s c.word-item.result)) (c.loop-word.invariant.1 s)
      ∙ sym (given_more (imports c.args.book.now s) c.args.words.now c.loop-word.word-index c.word-item.result
      (omega arith) c.word-item.is),
  c.put_mark.ensures.migrating_slots c.loop-word.invariant.2,
  c.put_mark.ensures.importing_slots c.loop-word.invariant.3,
)

pub returns-clause-going : goal.returns-clause-going
returns-clause-going c s =
    subst (Below (length c.args.book.now)) (sym (c.loop-word.invariant.0 s))
    (going_below c.args.book.now s (take c.loop-word.word-index c.args.words.now))

pub returns-clause-coming : goal.returns-clause-coming
returns-clause-coming c s =
    subst (Below (length c.args.book.now)) (sym (c.loop-word.invariant.1 s))
    (coming_below c.args.book.now s (take c.loop-word.word-index c.args.words.now))
