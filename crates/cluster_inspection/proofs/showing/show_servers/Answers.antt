use Rattle.std.proofs.Common.{rules, ◌≡◌, ◌++◌, length, subst}
use Rattle.server_replicas.specs.Replicas.{AreNodeTexts, asking_of}
use Rattle.server_versions.specs.Asking.{AreToldBy, AsksVersion}
use Rattle.server_versions.specs.Telling.{version_lines}
use Rattle.transcripts.specs.Writing.{Writes}
use Rattle.cluster_inspection.proofs.showing.show_servers.Goals as goal

pub returns-clause-shown : goal.returns-clause-shown
returns-clause-shown g c =
    let versions = c.in_ok-versions.versions.items in
    let more = c.in_ok-more.more.items in
    let text : c.as_slice-4.result.now ≡ version_lines versions ++ more = search rules in (
      versions,
      more,
      subst
          (λ n. AreToldBy (AsksVersion (record { gave = g.D.Input.ByteIn.gave; took = g.D.Output.ByteOut.took })) n
          versions)
          c.nodes.ensures.value c.in_ok-versions.ensures.told,
      subst
          (λ vs. AreNodeTexts
          (asking_of g.D.Reach.reaches g.D.Reach.refuses
          (record { gave = g.D.Input.ByteIn.gave; took = g.D.Output.ByteOut.took }) c.args.credentials.now)
          c.args.book.now c.args.survey.now vs (length c.args.book.now) more)
          c.as_slice-2.ensures.value c.in_ok-more.ensures.told,
      subst (λ t. Writes g.E.ByteOut.took g.E.ByteOut.failures t c.args.errors.now c.show_text.new.errors) text
          c.show_text.ensures,
    )
