-- What is told where there is nothing to show.
use Rattle.std.proofs.Common.{◌≡◌, ◌∙◌, ◌≤◌, ◌⊎◌, ℕ, List, arith, inl, inr, subst}
use Rattle.byte_streams.specs.Streams.{Input, Output}
use Rattle.cluster_inspection.specs.declared.refusal.Refusal.{Refusal}
use Rattle.cluster_inspection.specs.declared.refusal.Refusal.TheVariants as refusal
use Rattle.command_words.specs.declared.usage.ExplainWords.{ExplainWords}
use Rattle.command_words.specs.declared.usage.Start.{Start}
use Rattle.command_words.specs.declared.usage.Start.TheVariants.{Cluster, Even, Survey}
use Rattle.plan_previews.specs.Drawing.{Draws}
use Rattle.plan_previews.specs.Explaining.{SaysExplained}
use Rattle.plan_previews.specs.Previews.{IsUnshown, TellsWhy}
use Rattle.plan_previews.specs.Refusing.{IsAnswerOf}
use Rattle.plan_previews.specs.Telling.{IsToldTo}
use Rattle.transcripts.specs.declared.transcript.Transcript.{Transcript}

-- its status is 1
why_one : {R : Type 0} (start : Start) (i : Input R) (t : Transcript) → TellsWhy start i t → t.status ≡ 1
why_one start i t (inl text) = text.2.2
why_one (Even s) i t (inr (inl none)) = absurd none
why_one (Cluster g) i t (inr (inl none)) = none.0
why_one (Survey path) i t (inr (inl none)) = none.0
why_one start i t (inr (inr fault)) = fault.2.2.2.3

pub refused_says : {R : Type 0} (g : ExplainWords) (i : Input R) (r : Refusal) (t : Transcript) → IsUnshown g.start i r
    → IsAnswerOf g.json r t → SaysExplained g i t.status t.printed.items
refused_says g i refusal.Memory t why is = absurd is
refused_says g i refusal.Unread t why is = absurd is
refused_says g i (refusal.Answer a) t why is = inr (a, why, is.0 ∙ why_one g.start i a why, is.1)

pub few : {R : Type 0} (g : ExplainWords) (i : Input R) (status : ℕ) (text : List ℕ) → SaysExplained g i status text → status ≤ 1
few g i status text (inl shown) =
    let none : status ≡ 0 = shown.2 in
    omega (arith, none)
few g i status text (inr refused) =
    let one : status ≡ 1 = refused.2 in
    omega (arith, one)

pub undrawn : {R W E : Type 0} (start : Start) (i : Input R) (o : Output W) (e : Output E) (status : ℕ) (r : Refusal)
    → o.after ≡ o.before → IsUnshown start i r → IsToldTo r e status → Draws start i o e status
undrawn start i o e status refusal.Memory same why told = inr (told.0, same, inr (inl told.1))
undrawn start i o e status refusal.Unread same why told = inr (told.0, same, inr (inr told.1))
undrawn start i o e status (refusal.Answer t) same why (inl whole) =
    inr (whole.0 ∙ why_one start i t why, same, inl (t, why, inl whole.1))
undrawn start i o e status (refusal.Answer t) same why (inr partly) =
    inr (partly.0, same, inl (t, why, inr (partly.1.0, partly.1.1, partly.2)))
