-- What is asked for goes by the slots below 16,384 alone.
use Rattle.std.proofs.Common.{◌≡◌, ◌∙◌, ℕ, zero, suc, ◌+◌, ◌*◌, ◌<◌, ◌≤◌, Bool, cond, length, Option, List, [], ◌∷◌, ◌++◌, Result, Ok, refl, ap, ap₂, subst, arith}
use Rattle.cluster_views.specs.declared.fault.SurveyFault.{SurveyFault}
use Rattle.cluster_admin.specs.Surveys.{Survey}
use Rattle.slot_key_counts.specs.Questions.{asked_owner, asks_for, wants}
use Rattle.slot_key_counts.specs.Rounds.{AreAsked, AreRounds, IsRound, Talk, Told, Wants, batch, nothing, talk}
use Rattle.slot_key_counts.specs.declared.questions.AskedNodes.{AskedNodes}
use Rattle.slot_key_counts.specs.declared.questions.AskedNodes.TheVariants.{Others}
use Rattle.slot_key_counts.specs.declared.questions.SlotQuestions.{SlotQuestions}
use Rattle.server_links.specs.Streams.{Streams}
use Rattle.server_links.specs.declared.link.Link as link
use Rattle.server_phases.specs.ServerPhases.{ServerPhases, ShowsPhases}
use Rattle.cluster_inspection.specs.Stranded.{AreTold, closed_owner, wants_stranded}

batch_same : (a b : ℕ → Bool) (r k : ℕ) → r < 64 → k ≤ 256 → ((s : ℕ) → s < 16384 → a s ≡ b s) → batch a r k ≡ batch b r k
unfolding batch
batch_same a b r zero round within same = refl
batch_same a b r (suc k) round within same = ap₂ ◌++◌ (batch_same a b r k round (omega arith) same)
    (ap (λ (t : Bool). cond t ((r + 64 * k) ∷ []) []) (same (r + 64 * k) (omega arith)))

module _ {L : Type 0} (by : Talk L) (a b : Wants) (same : (n s : ℕ) → s < 16384 → a n s ≡ b n s) (nodes : ℕ) where
  batches_same : (k : ℕ) → k < 64 → ◌≡◌ {A = ℕ → List ℕ} (λ n. batch (a n) k 256) (λ n. batch (b n) k 256)
  batches_same k round = λ i n. batch_same (a n) (b n) k 256 round (omega arith) (same n) i

  pub rounds_same : (k : ℕ) (told : Told) (links links' : List L) (r : Result Told SurveyFault) → k ≤ 64
      → AreRounds by a nodes k told links r links' → AreRounds by b nodes k told links r links'
  unfolding AreRounds
  rounds_same zero told links links' r within x = x
  rounds_same (suc k) told links links' r within x = (
    x.0,
    x.1,
    rounds_same k told links x.1 (Ok x.0) (omega arith) x.2,
    subst (λ (batches : ℕ → List ℕ). IsRound by batches nodes x.0 x.1 r links') (batches_same k (omega arith)) x.3,
  )

-- The questions for closed slots at all nodes but their owners are those that stranded keys are told by.
pub told_begins : {I O : Type 0} (by : Streams I O) (v : Survey) (q : SlotQuestions) (nodes : ℕ)
    (links links' : List (link.Link I O)) (told : Told) → q.whom ≡ Others
    → ((phases : ServerPhases) → ShowsPhases v phases → (s : ℕ) → s < 16384
    → asked_owner q s ≡ closed_owner (phases s))
    → nodes ≡ length v.rows → AreAsked (talk by) (wants q) nodes links told links' → AreTold by v told
told_begins by v q nodes links links' told whom owners count asked = (
  links,
  links',
  λ phases shows.
      subst (λ (n : ℕ). AreAsked (talk by) (wants_stranded phases) n links told links') count
      (rounds_same (talk by) (wants q) (wants_stranded phases)
      (λ n s less. ap (λ (w : AskedNodes). asks_for w n (asked_owner q s)) whom
      ∙ ap (λ (o : Option ℕ). asks_for Others n o) (owners phases shows s less))
      nodes 64 nothing links links' (Ok told) (omega arith) asked),
)
