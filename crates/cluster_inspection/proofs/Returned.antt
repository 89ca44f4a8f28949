-- Failed masters that were asked for once more.
use Rattle.std.proofs.Common.{◌≡◌, ◌≢◌, ◌∙◌, ◌==◌, ℕ, List, [], length, false, Option, None, Some, Result, Ok, Err, inl}
use Rattle.std.proofs.Common.{inr, ap, subst, sym}
use Rattle.std.proofs.lemmas.Bool.{false≢true}
use Rattle.std.specs.Prelude.{IfErr, MatchOption, OnOk}
use Rattle.cluster_inspection.specs.Refusals.{IsNoClusterOf, Says}
use Rattle.cluster_inspection.specs.Returning.{AreAway, IsHeldBack, IsWithheld}
use Rattle.cluster_inspection.specs.Starts.{IsNumberedBy, IsUnsurveyed}
use Rattle.cluster_inspection.specs.declared.no_cluster.NoCluster.{NoCluster}
use Rattle.cluster_inspection.specs.declared.no_cluster.NoCluster.TheVariants as unstarted
use Rattle.cluster_inspection.specs.declared.refusal.Refusal.{Refusal}
use Rattle.cluster_survey.specs.Found.{IsFoundBeside}
use Rattle.cluster_admin.specs.Surveys.{Survey}
use Rattle.node_names.specs.Names.{AreNames, Names}
use Rattle.plan_language.specs.declared.line.Line.{Line}
use Rattle.server_commands.specs.declared.book.Server.{Server}
use Rattle.server_shards.specs.Returning.{Asks}
use Rattle.server_shards.specs.Targets.{NoneReturns, Returns}
use Rattle.transcripts.specs.OutcomeTexts.{refused_text}
use Rattle.transcripts.specs.RunTexts.{unsurveyed_text}

-- nothing was refused, so nothing was said
pub silent : {T E A : Type 0} (none : Type 0) (some : A → Type 0) (r : Result T E) (said : Option A)
    → OnOk r (said ≡ None) → MatchOption said none some → OnOk r none
silent none some (Ok t) said quiet holds = subst (λ o. MatchOption o none some) quiet holds
silent none some (Err e) said quiet holds = tt

-- that there is no survey is what is said
pub unsurveyed_says : (u : NoCluster) (r : Refusal) (reason : List ℕ) → IsUnsurveyed reason u → IsNoClusterOf u r
    → Says (unsurveyed_text reason) r
unsurveyed_says unstarted.Memory r reason told is = subst (Says (unsurveyed_text reason)) (sym is) tt
unsurveyed_says (unstarted.Answer t) r reason told is = subst (Says (unsurveyed_text reason)) (sym is) told

not_empty : {X : Type 0} (xs ys : List X) → ys ≡ xs → false ≡ (length ys == 0) → xs ≢ []
not_empty xs ys same some none = absurd (false≢true (some ∙ ap (λ zs. length zs == 0) (same ∙ none)))

-- a text was refused with, which says who returns
pub held_back : {L T A : Type 0} (asks : Asks L) (b : List Server) (dead : List ℕ) (left left' : List Server)
    (lines : List Line) (items : A → List ℕ) (none : Type 0) (text : Option A) (r : Result T Refusal) → left ≡ left'
    → MatchOption text none (λ t. Returns asks b dead left lines (items t))
    → IfErr r (λ e. MatchOption text ⊥ (λ t. Says (refused_text (items t)) e))
    → IfErr r (IsHeldBack asks b dead left' lines)
held_back asks b dead left left' lines items none text (Ok t) same said told = tt
held_back asks b dead left left' lines items none None (Err e) same said told = absurd told
held_back asks b dead left left' lines items none (Some t) (Err e) same said told =
    inl (items t, subst (λ x. Returns asks b dead x lines (items t)) same said, told)

module _ {L T : Type 0} (asks : Asks L) (left left_slice b now : List Server) (v : Survey) (epochs : List ℕ)
    (links : ℕ) (found : IsFoundBeside now b v epochs links) where
  withheld_once : (dead : List ℕ) (names : Names) (lines : List Line) (r : Result T Refusal) → left ≢ []
      → (AreNames names → IsNumberedBy names b) → IfErr r (IsHeldBack asks b dead now lines)
      → IfErr r (IsWithheld asks dead names left lines)
  withheld_once dead names lines (Ok t) some numbered held = tt
  withheld_once dead names lines (Err e) some numbered held =
      (some, inr (b, now, v, epochs, links, found, numbered, held))

  -- by what was read of words and plans
  pub withheld : (dead dead' : List ℕ) (names names' : Names) (lines lines' : List Line) (r : Result T Refusal)
      → left_slice ≡ left → false ≡ (length left_slice == 0) → dead ≡ dead' → names ≡ names' → lines ≡ lines'
      → (AreNames names → IsNumberedBy names b) → IfErr r (IsHeldBack asks b dead now lines)
      → IfErr r (IsWithheld asks dead' names' left lines')
  withheld dead dead' names names' lines lines' r same some same_dead same_names same_lines numbered held =
      subst (λ x. IfErr r (IsWithheld asks x names' left lines')) same_dead
      (subst (λ x. IfErr r (IsWithheld asks dead x left lines')) same_names
      (subst (λ x. IfErr r (IsWithheld asks dead names left x)) same_lines
      (withheld_once dead names lines r (not_empty left left_slice same some) numbered held)))

module _ {L T E : Type 0} (asks : Asks L) (left b now : List Server) (v : Survey) (epochs : List ℕ) (links : ℕ)
    (found : IsFoundBeside now b v epochs links) where
  -- none of those that were found then returns
  away_once : (dead : List ℕ) (names : Names) (lines : List Line) (r : Result T E)
      → (AreNames names → IsNumberedBy names b) → OnOk r (NoneReturns asks b dead now lines)
      → OnOk r (AreAway asks dead names left lines)
  away_once dead names lines (Ok t) numbered none = inr (b, now, v, epochs, links, found, numbered, none)
  away_once dead names lines (Err e) numbered none = tt

  -- by what was read of words and plans
  pub away : (dead dead' : List ℕ) (names names' : Names) (lines lines' : List Line) (r : Result T E) → dead ≡ dead'
      → names ≡ names' → lines ≡ lines' → (AreNames names → IsNumberedBy names b)
      → OnOk r (NoneReturns asks b dead now lines) → OnOk r (AreAway asks dead' names' left lines')
  away dead dead' names names' lines lines' r same_dead same_names same_lines numbered none =
      subst (λ x. OnOk r (AreAway asks x names' left lines')) same_dead
      (subst (λ x. OnOk r (AreAway asks dead x left lines')) same_names
      (subst (λ x. OnOk r (AreAway asks dead names left x)) same_lines (away_once dead names lines r numbered none)))
