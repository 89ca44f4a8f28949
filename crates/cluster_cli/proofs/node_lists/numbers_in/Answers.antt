use Rattle.std.proofs.Common.{rules, ◌≡◌, ◌∙◌, ◌≤◌, ◌++◌, ◌∷◌, [], subst, sym}
use Rattle.std.specs.List.{All}
use Rattle.std.proofs.lemmas.List.Elements.{All-push}
use Rattle.byte_texts.specs.Decimals.{number_in}
use Rattle.cluster_cli.proofs.Listing.{read_on, read_stops, read_to_end}
use Rattle.cluster_cli.proofs.node_lists.numbers_in.Goals as goal

pub returns-in_default-clause-numbers : goal.returns-in_default-clause-numbers
returns-in_default-clause-numbers c =
    read_stops (number_in 0 1000) c.loop-word.found.items c.args.words.now c.loop-word.word-index _ c.loop-word.invariant.read _ c.loop-word-test.true (sym c.number_in.ensures.value ∙ c.in_default.is)

pub loop-word-preserved : goal.loop-word-preserved
loop-word-preserved c =
    let light : c.in-Some.number ≤ 1000 = search rules in
    let grown : c.push.new.self.items ≡ c.loop-word.found.items ++ c.in-Some.number ∷ [] = search rules in
    record {
      read =
          read_on (number_in 0 1000) c.loop-word.found.items c.args.words.now c.loop-word.word-index _ c.loop-word.invariant.read _ c.in-Some.number c.push.new.self.items c.loop-word-test.true
          (sym c.number_in.ensures.value ∙ c.in-Some.is) grown;
      light = subst (All (λ w. w ≤ 1000)) (sym grown) (All-push (λ w. w ≤ 1000) c.loop-word.found.items c.in-Some.number c.loop-word.invariant.light light);
    }

pub returns-clause-numbers : goal.returns-clause-numbers
returns-clause-numbers c = read_to_end (number_in 0 1000) c.loop-word.found.items c.args.words.now c.loop-word.word-index _ c.loop-word.invariant.read c.loop-word-test.false
