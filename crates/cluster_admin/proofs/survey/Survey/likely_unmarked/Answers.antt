use Rattle.std.proofs.Common.{◌≡◌, ◌≢◌, ◌<◌, length, arith, ap, sym, ◌∙◌}
use Rattle.std.specs.Prelude.{not}
use Rattle.std.proofs.lemmas.Bool.{eq-eqb, true≢false}
use Rattle.cluster_admin.specs.Surveys.{owner_at, migrating_at, importing_at}
use Rattle.cluster_admin.proofs.Phasing.{likely_source_told}
use Rattle.cluster_admin.proofs.survey.Survey.likely_unmarked.Goals as goal

pub returns-then-ne-clause-likely : goal.returns-then-ne-clause-likely
returns-then-ne-clause-likely c p h =
    let v = c.args.self.now in
    let s = c.args.slot in
    let some : 0 < length v.rows = omega (arith, c.nodes-nodes.ensures.value, c.nodes-nodes.ensures.least) in
    let first : c.owner-first.result ≡ owner_at v 0 s = c.owner-first.ensures.value ∙ ap (λ k. owner_at v k s) c.of.ensures in
    let apart : c.owner-first.result ≢ c.owner-target.result =
    λ e. true≢false (sym c.if-ne.true ∙ c.ne.ensures ∙ ap not (eq-eqb c.owner-first.result c.owner-target.result e)) in
    likely_source_told (length v.rows) (λ n. owner_at v n s) (λ n. migrating_at v n s) (λ n. importing_at v n s) p c.owner-target.result c.owner-first.result 0 h
    c.requires.goes c.requires.comes some (c.owner-target.ensures.value ∙ ap (λ k. owner_at v k s) first) apart some (sym first)

pub returns-in-Some-clause-likely : goal.returns-in-Some-clause-likely
returns-in-Some-clause-likely c p h =
    let v = c.args.self.now in
    let s = c.args.slot in
    let some : 0 < length v.rows = omega (arith, c.nodes-nodes.ensures.value, c.nodes-nodes.ensures.least) in
    let said = c.in-Some.ensures in
    likely_source_told (length v.rows) (λ n. owner_at v n s) (λ n. migrating_at v n s) (λ n. importing_at v n s) p c.owner-target.result c.in-Some.source said.1.0 h
    c.requires.goes c.requires.comes some
    (c.owner-target.ensures.value ∙ ap (λ k. owner_at v k s) (c.owner-first.ensures.value ∙ ap (λ k. owner_at v k s) c.of.ensures))
    said.0 said.1.1 said.1.2
