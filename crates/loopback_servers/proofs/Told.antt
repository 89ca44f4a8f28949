-- Lines that were told, as far as it came.
use Rattle.std.proofs.Common.{◌≡◌, ◌∙◌, ◌+◌, ◌++◌, ℕ, List, [], Option, Some, append-nil, inl, inr, length, refl, sym, subst, take}
use Rattle.std.proofs.Math.Seq.{take-append-add}
use Rattle.byte_streams.specs.Streams.{Output}
use Rattle.cluster_world.specs.AdminCalls.{calls}
use Rattle.cluster_admin.specs.Surveys.{closed_survey}
use Rattle.cluster_world.specs.Trails.{Trail, IsRunFromOpening}
use Rattle.cluster_admin.specs.declared.call.AdminCall.{AdminCall}
use Rattle.key_slots.specs.Owners.{Owners}
use Rattle.loopback_servers.proofs.Served.{announces_then}
use Rattle.loopback_servers.specs.Announcing.{Announces, MayWrite, closed_text, end_status, end_text, serving_text}
use Rattle.loopback_servers.specs.Carrying.{EndsBy}
use Rattle.loopback_servers.specs.Telling.{IsRunBeside, IsTold, IsToldBehind, MayTellEnd, Tells, TellsEnd, ended_text}
use Rattle.loopback_servers.specs.declared.options.ServeOptions.{ServeOptions}
use Rattle.loopback_servers.specs.declared.plan_beside.PlanEnd.{PlanEnd}
use Rattle.plan_language.specs.Lines.{plan_commands}
use Rattle.plan_language.specs.PlanView.{PlanView}
use Rattle.plan_runner.specs.Verifying.{Verified}
use Rattle.transcripts.specs.OutcomeTexts.{verified_text}
use Rattle.transcripts.specs.Writing.{Writes}

module _ {W : Type 0} (took : W → List ℕ → W → Type 0) (failures : W → ℕ) where
  abbrev to : W → W → Output W
  to a b = record { took = took; failures = failures; before = a; after = b }

  -- how a plan ended that was run: it is printed whole, or not
  pub run_beside : (v : Verified) (before after : List AdminCall) (end : PlanEnd) (status : ℕ) (a b : W) → EndsBy v before after end
      → status ≡ end_status end → Announces took failures (end_text end) a b → IsRunBeside (to a b) (Some v) before after status
  run_beside v before after end status a b by is wrote = (end_text end, (end, by, refl, is), wrote)

  pub may_tell_end : (v : Verified) (before after : List AdminCall) (end : PlanEnd) (a b : W) → EndsBy v before after end
      → MayWrite took failures (end_text end) a b → MayTellEnd (to a b) (Some v) before
  may_tell_end v before after end a b by wrote = (after, end_text end, end_status end, (end, by, refl, refl), wrote)

  -- its line may be printed, since it is
  pub told_run : (plan : Option Verified) (before after : List AdminCall) (status : ℕ) (a b : W)
      → IsRunBeside (to a b) plan before after status → MayTellEnd (to a b) plan before
  told_run plan before after status a b run = (after, run.0, status, run.1, inr (inl run.2.0))

  module _ (o : ServeOptions) (owners : Owners) (port : ℕ) (plan : Option Verified) where
    -- nothing is told yet
    pub told_none : ((x : W) → took x [] x) → (a : W) → IsTold (to a a) o owners port plan
    told_none none a = ([], inl refl, inl (none a))

    -- the same of owners and a port that are these
    pub told_over : (owners' : Owners) (port' : ℕ) (a b : W) → owners ≡ owners' → port ≡ port' → IsTold (to a b) o owners port plan
        → IsTold (to a b) o owners' port' plan
    told_over owners' port' a b same ported told =
        subst (λ (x : Owners). IsTold (to a b) o x port' plan) same (subst (λ (n : ℕ). IsTold (to a b) o owners n plan) ported told)

    -- the ports, or a part of that
    pub told_ports : ((x : W) → took x [] x) → (a b : W) → MayWrite took failures (serving_text o.nodes o.base_port) a b
        → IsTold (to a b) o owners port plan
    told_ports none a b (inl same) = subst (λ (x : W). IsTold (to a x) o owners port plan) (sym same) (told_none none a)
    told_ports none a b (inr wrote) = (serving_text o.nodes o.base_port, inr (inl refl), wrote)

  module _ (joins : (x y z : W) (s t : List ℕ) → took x s y → took y t z → took x (s ++ t) z) where
    writes_then : (a b c : W) (s t : List ℕ) → Announces took failures s a b → Writes took failures t b c → Writes took failures (s ++ t) a c
    writes_then a b c s t p (inl whole) = inl (joins a b c s t p.0 whole)
    writes_then a b c s t p (inr cut) = inr (
      length s + cut.0,
      subst (λ l. took a l c) (sym (take-append-add s t cut.0)) (joins a b c s (take cut.0 t) p.0 cut.1),
      λ same. cut.2 (same ∙ sym p.1),
    )

    module _ (o : ServeOptions) (owners : Owners) (port : ℕ) (plan : Option Verified) where
      -- the ports, and the plan's end or a part of that
      pub told_to_end : (before : List AdminCall) (a b c : W) → before ≡ [] → Announces took failures (serving_text o.nodes o.base_port) a b
          → MayTellEnd (to b c) plan before → IsTold (to a c) o owners port plan
      told_to_end before a b c none first (after, line, status, end, inl same) = (
        serving_text o.nodes o.base_port,
        inr (inl refl),
        subst (λ x. Writes took failures (serving_text o.nodes o.base_port) a x) (sym same) (inl first.0),
      )
      told_to_end before a b c none first (after, line, status, end, inr wrote) = (
        ended_text o line,
        inr (inr (inl (after, line, status, subst (λ (l : List AdminCall). TellsEnd plan l after line status) none end, refl))),
        writes_then a b c (serving_text o.nodes o.base_port) line first wrote,
      )

      -- these, and the events of the trail or a part of that
      pub told_to_close : (before made : List AdminCall) (t : Trail) (status : ℕ) (a b c d : W) → before ≡ [] → t.owners ≡ owners → t.base_port ≡ port
          → IsRunFromOpening t → calls t.events ≡ made → Announces took failures (serving_text o.nodes o.base_port) a b
          → IsRunBeside (to b c) plan before made status → MayWrite took failures (closed_text (length t.events)) c d
          → IsTold (to a d) o owners port plan
      told_to_close before made t status a b c d none owned ported run made_are first between last = by last
        where
          end : TellsEnd plan [] made between.0 status
          end = subst (λ (l : List AdminCall). TellsEnd plan l made between.0 status) none between.1

          both : Announces took failures (ended_text o between.0) a c
          both = announces_then took failures joins a b c (serving_text o.nodes o.base_port) between.0 first between.2

          by : MayWrite took failures (closed_text (length t.events)) c d → IsTold (to a d) o owners port plan
          by (inl same) = (
            ended_text o between.0,
            inr (inr (inl (made, between.0, status, end, refl))),
            subst (λ x. Writes took failures (ended_text o between.0) a x) (sym same) (inl both.0),
          )
          by (inr wrote) = (
            ended_text o between.0 ++ closed_text (length t.events),
            inr (inr (inr (
              t,
              between.0,
              status,
              record { owners_are = owned; port_is = ported; run = run },
              subst (λ (l : List AdminCall). TellsEnd plan [] l between.0 status) (sym made_are) end,
              refl,
            ))),
            writes_then a c d (ended_text o between.0) (closed_text (length t.events)) both wrote,
          )

    -- after the plan's count
    pub told_behind : (o : ServeOptions) (owners : Owners) (plan : PlanView) (v : Verified) (a b c : W)
        → v ≡ record { plan = plan; survey = closed_survey owners.nodes owners.owners }
        → Announces took failures (verified_text (length (plan_commands owners.nodes plan.lines))) a b
        → IsTold (to b c) o owners o.base_port (Some v) → IsToldBehind (to a c) o owners (Some plan)
    told_behind o owners plan v a b c is first told = (
      told.0,
      subst (λ (v : Verified). Tells o owners o.base_port (Some v) told.0) is told.1,
      writes_then a b c (verified_text (length (plan_commands owners.nodes plan.lines))) told.0 first told.2,
    )

  -- nothing after the plan's count, or a part of that
  pub told_count : (o : ServeOptions) (owners : Owners) (plan : PlanView) (a b : W)
      → Writes took failures (verified_text (length (plan_commands owners.nodes plan.lines))) a b → IsToldBehind (to a b) o owners (Some plan)
  told_count o owners plan a b wrote = (
    [],
    inl refl,
    subst (λ (t : List ℕ). Writes took failures t a b) (sym (append-nil (verified_text (length (plan_commands owners.nodes plan.lines))))) wrote,
  )
