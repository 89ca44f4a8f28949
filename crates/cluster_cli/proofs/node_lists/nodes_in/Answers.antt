use Rattle.std.proofs.Common.{rules, ◌∙◌, ◌<◌, subst, sym}
use Rattle.std.specs.List.{All}
use Rattle.std.proofs.lemmas.List.Elements.{All-push}
use Rattle.cluster_cli.specs.NodeLists.{node_of}
use Rattle.cluster_cli.proofs.Listing.{read_on, read_stops, read_to_end}
use Rattle.cluster_cli.proofs.node_lists.nodes_in.Goals as goal

pub returns-in_default-clause-nodes : goal.returns-in_default-clause-nodes
returns-in_default-clause-nodes c =
    read_stops (node_of c.args.nodes) c.loop-word.found.items c.args.words.now c.loop-word.word-index _ c.loop-word.invariant.read _ c.loop-word-test.true (sym c.node_in.ensures.node ∙ c.in_default.is)

pub loop-word-preserved : goal.loop-word-preserved
loop-word-preserved c = record {
  read =
      read_on (node_of c.args.nodes) c.loop-word.found.items c.args.words.now c.loop-word.word-index _ c.loop-word.invariant.read _ c.in-Some.node c.push.new.self.items c.loop-word-test.true
      (sym c.node_in.ensures.node ∙ c.in-Some.is) c.in_ok-push.ensures.items;
  exist =
      let exists : c.in-Some.node < c.args.nodes = search rules in
      subst (All (λ s. s < c.args.nodes)) (sym c.in_ok-push.ensures.items) (All-push (λ s. s < c.args.nodes) c.loop-word.found.items c.in-Some.node c.loop-word.invariant.exist exists);
}

pub returns-clause-nodes : goal.returns-clause-nodes
returns-clause-nodes c = read_to_end (node_of c.args.nodes) c.loop-word.found.items c.args.words.now c.loop-word.word-index _ c.loop-word.invariant.read c.loop-word-test.false
