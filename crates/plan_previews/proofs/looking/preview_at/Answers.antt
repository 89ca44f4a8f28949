use Rattle.std.proofs.Common.{◌≡◌, ◌++◌, ◌∙◌, Some, ap, length, subst, sym}
use Rattle.std.proofs.lemmas.Result.{err_from_is_err_and}
use Rattle.cluster_inspection.specs.VerifyingAt.{line_of}
use Rattle.cluster_inspection.proofs.CleanOwners.{clean_owners, told_at}
use Rattle.key_slots.specs.Owners.{Owners}
use Rattle.transcripts.specs.PlanVerdicts.{SaysCount}
use Rattle.plan_changes.specs.Outlines.{IsOutline}
use Rattle.plan_language.specs.Lines.{plan_commands}
use Rattle.plan_changes.specs.Loads.{load_of}
use Rattle.plan_previews.proofs.Unshown.{clean_fault, uncounted}
use Rattle.plan_previews.proofs.looking.preview_at.Goals as goal

pub returns-in_err-verdict-clause-unshown : goal.returns-in_err-verdict-clause-unshown
returns-in_err-verdict-clause-unshown g c =
    let p = err_from_is_err_and c.from_residual-in_err-verdict.result c.from_residual-in_err-verdict.ensures.1 in
    rw (p.1, p.2)
    (clean_fault c.in_ok-owners.owners c.args.plan c.in_err-verdict.field-0.0
    (clean_owners _ c.args.servers.book c.args.servers.surveyed.survey _ _ _ c.requires.found c.requires.numbered c.requires.clean
    (told_at c.args.servers.surveyed.survey c.of.result c.in_ok-owners.owners (c.in_ok-owners.ensures ∙ c.owners.ensures) c.of.ensures))
    c.in_err-verdict.ensures.fault)

pub returns-in_err-counts-clause-unshown : goal.returns-in_err-counts-clause-unshown
returns-in_err-counts-clause-unshown g c =
    let p = err_from_is_err_and c.from_residual-in_err-counts.result c.from_residual-in_err-counts.ensures.1 in
    rw (p.1, p.2) (uncounted c.args.plan c.in_err-counts.field-0.0 c.in_err-counts.ensures.uncounted)

pub outline-requires-clause-legal : goal.outline-requires-clause-legal
outline-requires-clause-legal g c = c.in_ok-verdict.ensures.verdict.0.0

pub outline-requires-clause-keys : goal.outline-requires-clause-keys
outline-requires-clause-keys g c = ap length c.as_slice.ensures.value ∙ c.in_ok-counts.ensures.counts.width

pub returns-clause-shown : goal.returns-clause-shown
returns-clause-shown g c =
    let nodes : length c.args.servers.book ≡ c.in_ok-owners.owners.nodes =
    sym c.args.servers.told ∙ sym (ap (λ (o : Owners). o.nodes) (c.in_ok-owners.ensures ∙ c.owners.ensures)) in
    let load = c.in_ok-counts.ensures.counts.load
    ∙ ap (λ n. load_of c.in_ok-counts.counts.keys.items (plan_commands n c.args.plan.lines)) nodes in
    let old = c.in_ok-verdict.verdict in (
      c.in_ok-owners.owners,
      clean_owners _ c.args.servers.book c.args.servers.surveyed.survey _ _ _ c.requires.found c.requires.numbered c.requires.clean
          (told_at c.args.servers.surveyed.survey c.of.result c.in_ok-owners.owners (c.in_ok-owners.ensures ∙ c.owners.ensures) c.of.ensures),
      (
        c.in_ok-counts.counts.keys.items,
        record {
          verdict = (
            old.printed.items,
            subst (λ n. SaysCount c.in_ok-owners.owners c.args.plan n old.printed.items) (sym c.in_ok-report_load.ensures.1)
                c.in_ok-verdict.ensures.verdict,
            c.in_ok-report_load.ensures.0 ∙ ap (λ l. old.printed.items ++ line_of l) load,
          );
          commands = c.expanded_len.ensures ∙ ap (λ n. length (plan_commands n c.args.plan.lines)) c.nodes.ensures.value;
          version = c.version.ensures.value;
          outline = subst (λ ks. IsOutline c.in_ok-owners.owners.nodes (plan_commands c.in_ok-owners.owners.nodes c.args.plan.lines) c.in_ok-owners.owners.owners (Some ks) c.in_ok-outline.outline)
              c.as_slice.ensures.value c.in_ok-outline.ensures;
        },
      ),
      (c.args.servers.book, nodes, c.in_ok-counts.ensures.counts.servers),
    )
