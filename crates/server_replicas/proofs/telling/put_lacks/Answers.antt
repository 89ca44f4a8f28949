use Rattle.std.proofs.Common.{ℕ, ◌++◌, arith}
use Rattle.std.specs.List.{flat_map}
use Rattle.cluster_views.specs.Numbers.{numbers_to}
use Rattle.server_replicas.specs.Telling.{lack_text}
use Rattle.survey_texts.proofs.Texts.{flat_end, flat_first, flat_more}
use Rattle.server_replicas.proofs.telling.put_lacks.Goals as goal

pub loop-number-init : goal.loop-number-init
loop-number-init c =
    flat_first (lack_text c.args.survey.now c.args.node c.args.replica.now c.args.told.now) 16384 c.args.out.now.items

pub loop-number-preserved : goal.loop-number-preserved
loop-number-preserved c =
    let text = lack_text c.args.survey.now c.args.node c.args.replica.now c.args.told.now in
    let n : ℕ = 16384 in
    flat_more text n c.loop-number.number c.of.result (c.args.out.now.items ++ flat_map text (numbers_to n))
    c.loop-number.out.items _ (omega arith) c.of.ensures c.loop-number.invariant c.in_ok-put_lack.ensures

pub returns : goal.returns
returns c =
    let text = lack_text c.args.survey.now c.args.node c.args.replica.now c.args.told.now in
    let n : ℕ = 16384 in
    flat_end text n c.loop-number.number (c.args.out.now.items ++ flat_map text (numbers_to n)) c.loop-number.out.items
    (omega arith) c.loop-number.invariant
