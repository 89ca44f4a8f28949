-- How a plan that ran ended, and what of that was written.
use Rattle.std.proofs.Common.{◌≡◌, ◌≢◌, ◌≤◌, ◌⊎◌, ◌∙◌, ◌+◌, ℕ, List, [], ◌++◌, inl, inr, length, take, refl, sym, ap, subst, codes}
use Rattle.std.proofs.Common.{Bool, false, true, Option}
use Rattle.std.proofs.lemmas.List.{take-append-le}
use Rattle.std.proofs.Math.Seq.{take-append-add, take-length}
use Rattle.std.specs.Prelude.{is_some}
use Rattle.cluster_admin.specs.declared.call.AdminCall.{AdminCall}
use Rattle.plan_runner.specs.Faults.{arm_fault_text}
use Rattle.plan_runner.specs.declared.armed.ArmFault.TheVariants.{TableChanged}
use Rattle.plan_runner.specs.declared.running.Finish.{Finish}
use Rattle.plan_runner.specs.declared.running.Finish.TheVariants.{Done, Stopped}
use Rattle.plan_runner.specs.declared.stop_cause.StopCause.{StopCause}
use Rattle.plan_runner.specs.declared.stop_cause.StopCause.TheVariants as cause
use Rattle.plan_changes.specs.Loads.{most}
use Rattle.redis_servers.specs.declared.port.ServersPort as port
use Rattle.server_runs.specs.Applied.{Given}
use Rattle.server_runs.specs.Outcomes.{end_status, end_text, reason, run_status, run_text, stop_number, stop_status, stop_text}
use Rattle.server_runs.specs.declared.run_end.RunEnd.{RunEnd}
use Rattle.server_runs.specs.declared.run_end.RunEnd.TheVariants as ends
use Rattle.server_runs.specs.declared.watch.Watch as watch
use Rattle.transcripts.specs.OutcomeTexts.{Prints, refused_text}
use Rattle.transcripts.specs.Writing.{Writes}
use Rattle.transcripts.specs.declared.transcript.Transcript.{Transcript}
use Rattle.cluster_runs.specs.Applying.{IsClosing, Runs}
use Rattle.cluster_runs.specs.Ends.{IsEnd, IsPlainEnd}
use Rattle.cluster_runs.specs.Runs.{IsCarriedOut, IsCarriedOutBy, IsTold, Ways}
use Rattle.cluster_inspection.proofs.Told.{IsReported}

-- ---- the end

stopped : (said : Option (List ℕ)) (n : ℕ) (c : StopCause) (status : ℕ) (text : List ℕ) → status ≡ stop_status c
    → text ≡ stop_text said n c → IsPlainEnd status text
stopped said n cause.Abandoned status text is same = inr (inl (is, (n, same)))
stopped said n (cause.Refused k f) status text is same =
    inr (inr (is, inl (stop_number n (cause.Refused k f), reason said (cause.Refused k f), same)))
stopped said n cause.Memory status text is same =
    inr (inr (is, inl (stop_number n cause.Memory, reason said cause.Memory, same)))
stopped said n cause.StrangeReply status text is same =
    inr (inr (is, inl (stop_number n cause.StrangeReply, reason said cause.StrangeReply, same)))
stopped said n cause.Limit status text is same =
    inr (inr (is, inl (stop_number n cause.Limit, reason said cause.Limit, same)))
stopped said n cause.Lost status text is same =
    inr (inr (is, inl (stop_number n cause.Lost, reason said cause.Lost, same)))

finished : {S : Type 0} (said : Option (List ℕ)) (before : ℕ) (f : Finish S) (status : ℕ) (text : List ℕ) → status ≡ end_status f
    → text ≡ end_text said before f → IsPlainEnd status text
finished said before (Done d) status text is same = inl (is, (most (before + d.spent), same))
finished said before (Stopped s) status text is same = stopped said (most (before + s.spent)) s.cause status text is same

-- it was not armed, or ran
ended : {S A B C : Type 0} {D : Finish S → Type 0} (said : Option (List ℕ)) (before : ℕ) (t t' : Transcript) → t.printed.items ≡ []
    → (A × B × Prints t t' (refused_text (arm_fault_text TableChanged)) 1)
    ⊎ (C × ((finish : Finish S) × D finish × Prints t t' (end_text said before finish) (end_status finish)))
    → IsPlainEnd t'.status t'.printed.items
ended said before t t' fresh (inl unarmed) =
    inr (inr (unarmed.2.1, inr (unarmed.2.0 ∙ ap (λ x. x ++ refused_text (arm_fault_text TableChanged)) fresh)))
ended said before t t' fresh (inr ran) =
    let finish = ran.1.0 in
    finished said before finish t'.status t'.printed.items ran.1.2.1 (ran.1.2.0 ∙ ap (λ x. x ++ end_text said before finish) fresh)

-- the same where others were told in one go
run_ended : (said : Option (List ℕ)) (before : ℕ) (e : RunEnd) (status : ℕ) (text : List ℕ) → status ≡ run_status e
    → text ≡ run_text said before e → IsPlainEnd status text
run_ended said before (ends.Done k) status text is same = inl (is, (most (before + k), same))
run_ended said before (ends.Stopped c k) status text is same = stopped said (most (before + k)) c status text is same

ended_in_one_go : {A B : Type 0} {C D : RunEnd → Type 0} (said : Option (List ℕ)) (before : ℕ) (t t' : Transcript)
    → t.printed.items ≡ []
    → (A × Prints t t' (refused_text (arm_fault_text TableChanged)) 1)
    ⊎ ((end : RunEnd) × B × C end × Prints t t' (run_text said before end) (run_status end) × D end)
    → IsPlainEnd t'.status t'.printed.items
ended_in_one_go said before t t' fresh (inl unarmed) =
    inr (inr (unarmed.1.1, inr (unarmed.1.0 ∙ ap (λ x. x ++ refused_text (arm_fault_text TableChanged)) fresh)))
ended_in_one_go said before t t' fresh (inr ran) =
    let end = ran.0 in
    run_ended said before end t'.status t'.printed.items ran.3.1 (ran.3.0 ∙ ap (λ x. x ++ run_text said before end) fresh)

-- either way
module _ {I O P S L : Type 0} (ways : Ways I O S L) (g : Given (List AdminCall))
    (first last : port.ServersPort I O P × watch.Watch S L) (t t' : Transcript) (fresh : t.printed.items ≡ []) where
  ended_by : (has_names : Bool) → IsCarriedOutBy ways has_names g first last t t' → IsPlainEnd t'.status t'.printed.items
  ended_by false x = ended last.0.said g.before t t' fresh x
  ended_by true x = ended_in_one_go last.0.said g.before t t' fresh x

  pub carried_out : IsCarriedOut ways g first last t t' → IsPlainEnd t'.status t'.printed.items
  carried_out x = ended_by (is_some g.plan.names) x

-- where the log could not be written, that is told
pub told_end : (is_broken : Bool) (n : ℕ) (end told : Transcript) → IsPlainEnd end.status end.printed.items
    → IsTold is_broken n end told → IsEnd told.status told.printed.items
told_end false n end told plain same = subst (λ (t : Transcript). IsEnd t.status t.printed.items) (sym same) (inl plain)
told_end true n end told plain broken = inr (broken.0, (end.status, n, end.printed.items, plain, broken.1))

-- ---- what of it was written

module _ {W : Type 0} (took : W → List ℕ → W → Type 0) (failures : W → ℕ)
    (took_then : (x y z : W) (a b : List ℕ) → took x a y → took y b z → took x (a ++ b) z) (count : List ℕ)
    (writer : W) where
  -- not all of the count was
  pub cut : (writer' : W) (status n : ℕ) → status ≡ 1 → n ≤ length count → took writer (take n count) writer'
      → failures writer' ≢ failures writer → Runs count (record { took = took; failures = failures; before = writer; after = writer' }) status
  cut writer' status n one le wrote failed =
      let end = codes "out of memory\n" in
      inr (
        one,
        (
          end,
          inr refl,
          inr (n, subst (λ t. took writer t writer') (sym (take-append-le n count end le)) wrote, failed),
        ),
      )

  module _ (between : W) (n : ℕ) (all : n ≡ length count) (wrote : took writer (take n count) between)
      (kept : failures between ≡ failures writer) where
    whole : took writer count between
    whole = subst (λ t. took writer t between) (ap (λ k. take k count) all ∙ take-length count) wrote

    behind : (end : List ℕ) (writer' : W) → Writes took failures end between writer'
        → Writes took failures (count ++ end) writer writer'
    behind end writer' (inl all) = inl (took_then writer between writer' count end whole all)
    behind end writer' (inr part) = inr (
      length count + part.0,
      subst (λ t. took writer t writer') (sym (take-append-add count end part.0))
          (took_then writer between writer' count (take part.0 end) whole part.1),
      λ same. part.2 (same ∙ sym kept),
    )

    -- the end was reported
    pub reported : (said : ℕ) (end : List ℕ) (writer' : W) (status : ℕ) → IsEnd said end
        → IsReported (record { took = took; failures = failures; before = between; after = writer' }) said end status
        → Runs count (record { took = took; failures = failures; before = writer; after = writer' }) status
    reported said end writer' status is (inl told) = inl (
      end,
      subst (λ s. IsEnd s end) (sym told.0) is,
      took_then writer between writer' count end whole told.1,
      told.2 ∙ kept,
    )
    reported said end writer' status is (inr part) =
        inr (part.0, (end, inl (said, is), behind end writer' (inr (part.1.0, part.1.1, part.2))))

    -- memory ran out
    pub forgotten : (writer' : W) (status : ℕ) → status ≡ 1 → Writes took failures (codes "out of memory\n") between writer'
        → Runs count (record { took = took; failures = failures; before = writer; after = writer' }) status
    forgotten writer' status one wrote = inr (one, (codes "out of memory\n", inr refl, behind _ writer' wrote))
