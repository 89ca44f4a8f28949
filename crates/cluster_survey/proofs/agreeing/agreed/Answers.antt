use Rattle.std.proofs.Common.{◌≡◌, ◌∙◌, arith, inl, inr, sym}
use Rattle.server_commands.specs.Spelling.{nodes_request}
use Rattle.server_links.specs.Links.{Exchanges}
use Rattle.cluster_survey.proofs.Counts.{survey_count}
use Rattle.cluster_survey.proofs.Rounds.{ended, repeated}
use Rattle.cluster_survey.proofs.agreeing.agreed.Goals as goal

pub returns-then-not-is_to_repeat-clause-agreed : goal.returns-then-not-is_to_repeat-clause-agreed
returns-then-not-is_to_repeat-clause-agreed g c =
    ended (Exchanges (record { gave = g.D.Input.ByteIn.gave; took = g.D.Output.ByteOut.took }) nodes_request) c.args.book.now g.D.Reach.over
    c.loop-round._round c.args.links.now.items c.loop-round.links.items c.survey-told.new.links.items
    c.survey-told.result c.loop-round.invariant.repeated c.survey-told.ensures
    (λ passes. inl (c.is_to_repeat.ensures.over c.if-not-is_to_repeat.true passes))

pub returns-then-not-is_to_repeat-clause-kept : goal.returns-then-not-is_to_repeat-clause-kept
returns-then-not-is_to_repeat-clause-kept g c =
    c.survey-told.new.links.ok.0
    ∙ survey_count (Exchanges (record { gave = g.D.Input.ByteIn.gave; took = g.D.Output.ByteOut.took }) nodes_request) c.args.book.now
    c.loop-round.links.items c.survey-told.result c.survey-told.new.links.items c.survey-told.ensures
    ∙ sym c.loop-round.links.ok.0 ∙ c.loop-round.invariant.kept

pub loop-round-preserved : goal.loop-round-preserved
loop-round-preserved g c = record {
  kept =
      c.survey-told.new.links.ok.0
      ∙ survey_count (Exchanges (record { gave = g.D.Input.ByteIn.gave; took = g.D.Output.ByteOut.took }) nodes_request) c.args.book.now
      c.loop-round.links.items c.survey-told.result c.survey-told.new.links.items c.survey-told.ensures
      ∙ sym c.loop-round.links.ok.0 ∙ c.loop-round.invariant.kept;
  repeated = repeated (Exchanges (record { gave = g.D.Input.ByteIn.gave; took = g.D.Output.ByteOut.took }) nodes_request) c.args.book.now
      c.loop-round._round c.args.links.now.items c.loop-round.links.items c.survey-told.new.links.items
      c.survey-told.result c.loop-round.invariant.repeated c.survey-told.ensures
      (c.is_to_repeat.ensures.passing c.if-not-is_to_repeat.false);
}

pub returns-clause-agreed : goal.returns-clause-agreed
returns-clause-agreed g c =
    let all : c.loop-round._round ≡ 1000 = omega arith in
    ended (Exchanges (record { gave = g.D.Input.ByteIn.gave; took = g.D.Output.ByteOut.took }) nodes_request) c.args.book.now g.D.Reach.over
    c.loop-round._round c.args.links.now.items c.loop-round.links.items c.survey.new.links.items c.survey.result
    c.loop-round.invariant.repeated c.survey.ensures (λ passes. inr all)

pub returns-clause-kept : goal.returns-clause-kept
returns-clause-kept g c =
    c.survey.new.links.ok.0
    ∙ survey_count (Exchanges (record { gave = g.D.Input.ByteIn.gave; took = g.D.Output.ByteOut.took }) nodes_request) c.args.book.now
    c.loop-round.links.items c.survey.result c.survey.new.links.items c.survey.ensures
    ∙ sym c.loop-round.links.ok.0 ∙ c.loop-round.invariant.kept
