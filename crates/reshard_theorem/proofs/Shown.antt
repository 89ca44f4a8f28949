-- What the survey of a world shows is so at its nodes.
use Rattle.std.proofs.Common.{◌≡◌, ◌<◌, length, map, sym, ap, ◌∙◌, subst}
use Rattle.std.specs.FinMap.{get}
use Rattle.std.specs.Prelude.{slice_index}
use Rattle.std.proofs.lemmas.List.{length-map}
use Rattle.cluster_world.specs.Openness.{HavePhases}
use Rattle.cluster_admin.specs.Phases.{IsPhase, Phases}
use Rattle.cluster_admin.specs.Surveys.{Row}
use Rattle.cluster_world.specs.Worlds.{row_of, survey_of, World}
use Rattle.cluster_world.proofs.Surveyed.{world_row}
use Rattle.plan_semantics.specs.Surveyed.{Shows}
use Rattle.reshard_theorem.specs.SurveyedWorlds.{SurveysShowPhases, SurveysCountNodes}

pub surveys_count_nodes : SurveysCountNodes
surveys_count_nodes w = length-map w.nodes row_of

have_shown : (w : World) (phases : Phases) → Shows (survey_of w) phases → HavePhases w phases
have_shown w phases shows s =
    let h = shows s in
    let many : length (map row_of w.nodes) ≡ length w.nodes = length-map w.nodes row_of in record {
      fine = subst (λ n. IsPhase n (phases s)) many h.fine;
      owners = λ m l. ap (λ (x : Row). slice_index x.owners s) (sym (world_row w m)) ∙ h.owners m (subst (λ k. m < k) (sym many) l);
      going = λ m l. ap (λ (x : Row). get x.migrating s) (sym (world_row w m)) ∙ h.going m (subst (λ k. m < k) (sym many) l);
      coming = λ m l. ap (λ (x : Row). get x.importing s) (sym (world_row w m)) ∙ h.coming m (subst (λ k. m < k) (sym many) l);
    }

are_shown : (w : World) (phases : Phases) → HavePhases w phases → Shows (survey_of w) phases
are_shown w phases have s =
    let h = have s in
    let many : length (map row_of w.nodes) ≡ length w.nodes = length-map w.nodes row_of in record {
      fine = subst (λ n. IsPhase n (phases s)) (sym many) h.fine;
      owners = λ m l. ap (λ (x : Row). slice_index x.owners s) (world_row w m) ∙ h.owners m (subst (λ k. m < k) many l);
      going = λ m l. ap (λ (x : Row). get x.migrating s) (world_row w m) ∙ h.going m (subst (λ k. m < k) many l);
      coming = λ m l. ap (λ (x : Row). get x.importing s) (world_row w m) ∙ h.coming m (subst (λ k. m < k) many l);
    }

pub surveys_show_phases : SurveysShowPhases
surveys_show_phases w phases = (have_shown w phases, are_shown w phases)
