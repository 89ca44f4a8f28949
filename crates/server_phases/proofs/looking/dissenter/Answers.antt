use Rattle.std.proofs.Common.{length, sym, ◌∙◌, arith}
use Rattle.cluster_views.specs.Surveying.{differs}
use Rattle.cluster_views.proofs.Firsts.{seek_first, seek_here, seek_past}
use Rattle.server_phases.proofs.looking.dissenter.Goals as goal

pub loop-number-init : goal.loop-number-init
loop-number-init c = seek_first (differs c.args.survey.now c.args.slot) (length c.args.survey.now.rows)

pub loop-number-preserved : goal.loop-number-preserved
loop-number-preserved c =
    c.loop-number.invariant
    ∙ seek_past (differs c.args.survey.now c.args.slot) (length c.args.survey.now.rows) c.loop-number.number
    c.of-node.result c.differs.result (omega arith) c.of-node.ensures c.differs.ensures c.if-differs.false

pub returns-then-differs-clause-value : goal.returns-then-differs-clause-value
returns-then-differs-clause-value c =
    seek_here (differs c.args.survey.now c.args.slot) (length c.args.survey.now.rows) c.loop-number.number
    c.of-node.result c.differs.result (omega arith) c.of-node.ensures c.differs.ensures c.if-differs.true
    ∙ sym c.loop-number.invariant
