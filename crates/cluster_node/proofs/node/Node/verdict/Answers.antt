use Rattle.std.proofs.Common.{ap, sym, ◌∙◌, map}
use Rattle.std.proofs.lemmas.List.{take_all}
use Rattle.cluster_node.specs.Nodes.{is_present, is_marked}
use Rattle.cluster_node.proofs.Judged.{judged-present, judged-markless}
use Rattle.cluster_node.proofs.node.Node.verdict.Goals as goal

pub returns-then-not-is_marked-clause-verdict : goal.returns-then-not-is_marked-clause-verdict
returns-then-not-is_marked-clause-verdict c =
    c.judge_at.ensures
    ∙ judged-markless c.self.inside.table c.self.inside.held c.self.inside.base_port c.args.self.now c.args.asking c.args.keys.now _ c.self.view_is
    (ap (is_marked c.args.self.now.node) (sym c.requires.slot) ∙ sym c.is_marked.ensures ∙ c.if-not-is_marked.true)

pub returns-clause-verdict : goal.returns-clause-verdict
returns-clause-verdict c =
    let ks = c.args.keys.now in
    c.judge_at-2.ensures
    ∙ judged-present c.self.inside.table c.self.inside.held c.self.inside.base_port c.args.self.now c.args.asking ks c.deref.result.now c.self.view_is
    (c.deref.ensures.value ∙ c.loop-key.invariant ∙ ap (map (is_present c.args.self.now.node)) (take_all c.loop-key.key-index ks c.loop-key-test.false))
