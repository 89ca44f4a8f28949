-- Lines of open slots: what they are by the counts of some state, they are by any counts.
use Rattle.std.proofs.Common.{◌≡◌, ◌∙◌, ℕ, zero, suc, Bool, true, false, List, [], ◌++◌, length, Result, Ok, Err, inl, inr}
use Rattle.std.proofs.Common.{refl, sym, ap}
use Rattle.std.proofs.Common.{subst}
use Rattle.std.specs.Prelude.{⊤, ◌↔◌, IfOk}
use Rattle.cluster_survey.specs.Found.{IsFoundBeside}
use Rattle.cluster_admin.specs.Surveys.{Survey}
use Rattle.server_commands.specs.declared.book.Server.{Server}
use Rattle.server_phases.specs.ServerPhases.{ServerPhases, ShowsPhases}
use Rattle.server_phases.specs.Texts.{AreLines, IsCounted, IsPhaseLine, IsSlotText}
use Rattle.server_phases.specs.declared.server_phase.ServerPhase.{ServerPhase}
use Rattle.server_phases.specs.declared.server_phase.ServerPhase.TheVariants as shown
use Rattle.survey_details.specs.Masters.{AreMasterTexts, IsKeysText, Telling}
use Rattle.survey_details.specs.declared.details.Details.{Details}
use Rattle.survey_texts.specs.Texts.{IsSurveyText}
use Rattle.transcripts.specs.declared.transcript.Transcript.{Transcript}
use Rattle.cluster_inspection.specs.Starts.{IsClean}
use Rattle.cluster_inspection.specs.Surveying.{HasPhaseLines, SaysLines, SaysSomeSurvey, SaysSurvey, any_telling}

abbrev pub any : ⊤ → (node slot keys : ℕ) → ⊤ → Type 0
any c n s k d = ⊤

module _ {C : Type 0} (counts : C → (node slot keys : ℕ) → C → Type 0) where
  counted : (slot : ℕ) (how : List ℕ) (a b : ℕ) (c : C) (t : List ℕ) (c' : C) → IsCounted counts slot how a b c t c'
      → IsCounted any slot how a b tt t tt
  counted slot how a b c t c' x = record {
    source_keys = x.source_keys;
    target_keys = x.target_keys;
    between = tt;
    first = tt;
    second = tt;
    whole = x.whole;
  }

  line : (s : ℕ) (p : ServerPhase) (c : C) (t : List ℕ) (c' : C) → IsPhaseLine counts s p c t c'
      → IsPhaseLine any s p tt t tt
  line s (shown.Closed o) c t c' x = (x.0, refl)
  line s (shown.Importing a b) c t c' x = counted s _ a b c t c' x
  line s (shown.Migrating a b) c t c' x = counted s _ a b c t c' x
  line s (shown.Told a b) c t c' x = counted s _ a b c t c' x
  line s (shown.Strange k) c t c' x = (x.0, refl)

  slot : (n s : ℕ) (p : ServerPhase) (c : C) (t : List ℕ) (c' : C) → IsSlotText counts n s p c t c'
      → IsSlotText any n s p tt t tt
  slot n s p c t c' x = (x.0, line s p c x.0 c' x.1, x.2)

  pub any_lines : (n : ℕ) (phases : ServerPhases) (k : ℕ) (c : C) (t : List ℕ) (c' : C)
      → AreLines counts n phases k c t c' → AreLines any n phases k tt t tt
  unfolding AreLines
  any_lines n phases zero c t c' x = (x.0, refl)
  any_lines n phases (suc k) c t c' x = (
    x.0,
    tt,
    x.2,
    any_lines n phases k c x.0 x.1 x.3,
    slot n k (phases k) x.1 x.2
        c' x.4,
    x.5,
  )

-- what was put after nothing are such lines
pub lines_put : {C : Type 0} (counts : C → (node slot keys : ℕ) → C → Type 0) (v : Survey) (before out : List ℕ)
    (c c' : C)
    → before ≡ []
    → ((phases : ServerPhases) → ShowsPhases v phases
    → (t : List ℕ) × AreLines counts (length v.rows) phases 16384 c t c' × (out ≡ before ++ t)) → HasPhaseLines v out
lines_put counts v before out c c' none put phases shows =
    let h = put phases shows in
    subst (λ t. AreLines any (length v.rows) phases 16384 tt t tt) (sym (h.2 ∙ ap (λ x. x ++ h.0) none))
    (any_lines counts (length v.rows) phases 16384 c h.0 c' h.1)

-- and a text with them is that of a survey
pub lines_said : {E : Type 0} (r : Result Transcript E) (masters : List ℕ) (left : List Server) (v : Survey)
    (more : List ℕ) → HasPhaseLines v more → IfOk r (λ t. IsSurveyText masters left v more t.printed.items)
    → IfOk r (λ t. (t.status ≡ 0) ↔ IsClean v) → IfOk r (λ t. SaysLines masters left v t.status t.printed.items)
lines_said (Ok t) masters left v more lines text clean = inr ((more, lines, text), clean)
lines_said (Err e) masters left v more lines text clean = tt

-- of a cluster that was found, with what its masters told
pub survey_said : {E : Type 0} (r : Result Transcript E) (telling : List Server → Telling) (details : Details)
    (left b : List Server) (v : Survey) (epochs : List ℕ) (links : ℕ) (masters : List ℕ)
    → IsFoundBeside left b v epochs links → AreMasterTexts (telling b) details b v (length b) masters
    → IfOk r (λ t. SaysLines masters left v t.status t.printed.items)
    → IfOk r (λ t. SaysSurvey telling details ⊤ t.status t.printed.items)
survey_said (Ok t) telling details left b v epochs links masters found texts says = by says
  where
    by : SaysLines masters left v t.status t.printed.items → SaysSurvey telling details ⊤ t.status t.printed.items
    by (inl none) = inl none
    by (inr s) = inr (left, b, v, epochs, links, found, (masters, s.0.0, texts, s.0.1, s.0.2), s.1, tt)
survey_said (Err e) telling details left b v epochs links masters found texts says = tt

-- and something is shown beside it
pub survey_shown : {E : Type 0} (telling : List Server → Telling) (details : Details) (shown : Type 0)
    (r : Result Transcript E) → IfOk r (λ t. SaysSurvey telling details ⊤ t.status t.printed.items)
    → shown → IfOk r (λ t. SaysSurvey telling details shown t.status t.printed.items)
survey_shown telling details shown (Ok t) says also = by says
  where
    by : SaysSurvey telling details ⊤ t.status t.printed.items
        → SaysSurvey telling details shown t.status t.printed.items
    by (inl none) = inl none
    by (inr s) = inr (s.0, s.1, s.2, s.3, s.4, s.5, s.6, s.7, also)
survey_shown telling details shown (Err e) says also = tt

-- with what was asked of them
pub details_said : {E : Type 0} (telling : List Server → Telling) (shown : Type 0) (made details : Details)
    (r : Result Transcript E) → made ≡ details
    → IfOk r (λ t. SaysSurvey telling made shown t.status t.printed.items)
    → IfOk r (λ t. SaysSurvey telling details shown t.status t.printed.items)
details_said telling shown made details (Ok t) same says =
    subst (λ (d : Details). SaysSurvey telling d shown t.status t.printed.items) same says
details_said telling shown made details (Err e) same says = tt

-- ---- whatever the masters told

module _ (telling : List Server → Telling) (details : Details) where
  some_keys : (b : List Server) (wanted : Bool) (n : ℕ) (t : List ℕ) → IsKeysText (telling b) wanted n t
      → IsKeysText (any_telling b) wanted n t
  some_keys b true n t x = (x.0, tt, x.2)
  some_keys b false n t x = x

  some_texts : (b : List Server) (v : Survey) (k : ℕ) (t : List ℕ)
      → AreMasterTexts (telling b) details b v k t → AreMasterTexts (any_telling b) details b v k t
  some_texts b v zero t x = x
  some_texts b v (suc k) t x =
      let one = x.4 in (
        x.0,
        x.1,
        x.2,
        some_texts b v k x.0 x.3,
        (
          one.0,
          one.1,
          some_keys b details.keys k one.0 one.2,
          (one.3.0, tt, one.3.2),
          one.4,
        ),
      )

  pub some_survey : (shown : Type 0) (status : ℕ) (text : List ℕ) → SaysSurvey telling details shown status text
      → SaysSomeSurvey details shown status text
  some_survey shown status text (inl none) = inl none
  some_survey shown status text (inr s) =
      let said = s.6 in
      inr (
        s.0,
        s.1,
        s.2,
        s.3,
        s.4,
        s.5,
        (said.0, said.1, some_texts s.1 s.2 (length s.1) said.0 said.2, said.3, said.4),
        s.7,
        s.8,
      )
