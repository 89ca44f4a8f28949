use Rattle.std.proofs.Common.{◌≡◌, ◌≢◌, true, length, rules, sym, ◌∙◌, subst}
use Rattle.std.specs.Prelude.{IsTrue}
use Rattle.std.proofs.lemmas.Bool.{eqb-true, eq-eqb, true≢false}
use Rattle.cluster_admin.specs.Surveys.{owner_at, migrating_at, importing_at}
use Rattle.cluster_admin.proofs.Phasing.{told_phase, source_knows, target_knows, still_says}
use Rattle.cluster_admin.proofs.survey.Survey.are_told.Goals as goal

pub returns-then-eq : goal.returns-then-eq
returns-then-eq c =
    let v = c.args.self.now in
    let s = c.args.slot in
    let says : owner_at v c.args.source s ≡ c.args.source =
    sym c.owner-by_source.ensures.value ∙ eqb-true c.owner-by_source.result c.args.source (sym c.eq.ensures ∙ c.if-eq.true) in (
      λ h. search rules,
      λ u. absurd (source_knows (length v.rows) (λ n. owner_at v n s) (λ n. migrating_at v n s) (λ n. importing_at v n s) c.args.source c.args.target u says),
    )

pub returns-then-eq-2 : goal.returns-then-eq-2
returns-then-eq-2 c =
    let v = c.args.self.now in
    let s = c.args.slot in
    let says : owner_at v c.args.target s ≡ c.args.source =
    sym c.owner-by_target.ensures.value ∙ eqb-true c.owner-by_target.result c.args.source (sym c.eq-2.ensures ∙ c.if-eq-2.true) in (
      λ h. search rules,
      λ u. absurd (target_knows (length v.rows) (λ n. owner_at v n s) (λ n. migrating_at v n s) (λ n. importing_at v n s) c.args.source c.args.target u says),
    )

pub returns : goal.returns
returns c =
    let v = c.args.self.now in
    let s = c.args.slot in
    let is : IsTrue true = search rules in
    let by_source : owner_at v c.args.source s ≢ c.args.source =
    λ e. true≢false (sym (eq-eqb c.owner-by_source.result c.args.source (c.owner-by_source.ensures.value ∙ e)) ∙ sym c.eq.ensures ∙ c.if-eq.false) in
    let by_target : owner_at v c.args.target s ≢ c.args.source =
    λ e. true≢false (sym (eq-eqb c.owner-by_target.result c.args.source (c.owner-by_target.ensures.value ∙ e)) ∙ sym c.eq-2.ensures ∙ c.if-eq-2.false) in (
      λ h.
          let m = c.is_said.ensures.0 h in
          told_phase (length v.rows) (λ n. owner_at v n s) (λ n. migrating_at v n s) (λ n. importing_at v n s) c.args.source c.args.target m.0
          (c.are_two.ensures.0 (subst IsTrue (sym c.if-not-are_two.false) is)) by_source by_target m.1 m.2,
      λ u. c.is_said.ensures.1 (still_says (length v.rows) (λ n. owner_at v n s) (λ n. migrating_at v n s) (λ n. importing_at v n s) c.args.source c.args.target u),
    )
