-- Texts that are written one after the other, and the trail that they are of.
use Rattle.std.proofs.Common.{◌≡◌, ◌∙◌, ◌++◌, ℕ, List, [], Option, Some, None, Result, Ok, Err, ap, arith, sym, subst}
use Rattle.std.specs.Prelude.{IfOk, length}
use Rattle.cluster_world.specs.AdminCalls.{calls}
use Rattle.cluster_admin.specs.Surveys.{closed_survey}
use Rattle.cluster_world.specs.Trails.{Trail, IsRunFromOpening}
use Rattle.cluster_admin.specs.declared.call.AdminCall.{AdminCall}
use Rattle.key_slots.specs.Owners.{IsEvenSplit, Owners}
use Rattle.loopback_servers.specs.Announcing.{Announces, closed_text, done_line, served_text, serving_text, verified_line}
use Rattle.loopback_servers.specs.Carrying.{CarriesOut, line_commands, verified_commands}
use Rattle.loopback_servers.specs.Served.{IsServed, IsServedWhole}
use Rattle.loopback_servers.specs.Telling.{IsRunBeside, TellsEnd}
use Rattle.loopback_servers.specs.declared.options.ServeOptions.{ServeOptions}
use Rattle.loopback_servers.specs.declared.plan_beside.PlanEnd.TheVariants as ended
use Rattle.loopback_servers.specs.declared.unserved.Unserved.{Unserved}
use Rattle.plan_language.specs.Lines.{plan_commands}
use Rattle.plan_language.specs.PlanView.{PlanView}
use Rattle.plan_language.specs.declared.plan_command.PlanCommand.{PlanCommand}
use Rattle.plan_runner.proofs.Surveyed.{closed_count}
use Rattle.plan_runner.specs.Verifying.{Verified, commands_of}
use Rattle.plan_semantics.specs.Unrolling.{Unrolls}
use Rattle.transcripts.specs.OutcomeTexts.{done_text, verified_text}

-- at status 0 a seat that was new has the calls that carried out the plan, and the line says that it is done
carried_out : (plan : Option Verified) (before after : List AdminCall) (line : List ℕ) (status : ℕ) → before ≡ [] → status ≡ 0
    → TellsEnd plan before after line status
    → CarriesOut (verified_commands plan) after × (line ≡ done_line (verified_commands plan) (length after))
carried_out None before after line status none zero end = (end.0 ∙ none, end.1)
carried_out (Some v) before after line status none zero (ended.Done n, by, text, is) =
    let same : by.0 ≡ after = ap (λ (l : List AdminCall). l ++ by.0) (sym none) ∙ sym by.1 in
    (subst (Unrolls (commands_of v.plan v.survey)) same by.2, text ∙ ap done_text (by.3 ∙ ap length same))
carried_out (Some v) before after line status none zero (ended.Stopped n cause, by, text, is) = absurd (omega (arith, zero, is))
carried_out (Some v) before after line status none zero (ended.NotArmed fault, by, text, is) = absurd (omega (arith, zero, is))

module _ {W : Type 0} (took : W → List ℕ → W → Type 0) (failures : W → ℕ) where
  module _ (joins : (x y z : W) (s t : List ℕ) → took x s y → took y t z → took x (s ++ t) z) where
    pub announces_then : (a b c : W) (s t : List ℕ) → Announces took failures s a b → Announces took failures t b c
        → Announces took failures (s ++ t) a c
    announces_then a b c s t p q = (joins a b c s t p.0 q.0, q.1 ∙ p.1)

    -- what is announced before threads begin, by them, and after they have ended
    pub is_served : (o : ServeOptions) (owners : Owners) (port : ℕ) (plan : Option Verified) (before made : List AdminCall)
        (t : Trail) (a b c d : W) (status : ℕ) → before ≡ [] → t.owners ≡ owners → t.base_port ≡ port → IsRunFromOpening t → calls t.events ≡ made
        → Announces took failures (serving_text o.nodes o.base_port) a b
        → IsRunBeside (record { took = took; failures = failures; before = b; after = c }) plan before made status
        → Announces took failures (closed_text (length t.events)) c d → status ≡ 0
        → IsServed (record { took = took; failures = failures; before = a; after = d }) o owners port (verified_commands plan)
    is_served o owners port plan before made t a b c d status none_before owned ported run made_are first between last none =
        let commands = verified_commands plan in
        let end = subst (λ (l : List AdminCall). TellsEnd plan before l between.0 status) (sym made_are) between.1 in
        let done = carried_out plan before (calls t.events) between.0 status none_before none end in (
          t,
          record { closed = record { owners_are = owned; port_is = ported; run = run }; carried_out = done.0 },
          announces_then a c d (serving_text o.nodes o.base_port ++ done_line commands (length (calls t.events))) (closed_text (length t.events))
              (announces_then a b c (serving_text o.nodes o.base_port) (done_line commands (length (calls t.events))) first
              (subst (λ (l : List ℕ). Announces took failures l b c) done.1 between.2)) last,
        )

    -- the plan's count before that
    pub is_served_whole : (o : ServeOptions) (owners : Owners) (plan : PlanView) (v : Verified) (a b c : W) (r : Result ℕ Unserved)
        → v ≡ record { plan = plan; survey = closed_survey owners.nodes owners.owners }
        → Announces took failures (verified_text (length (plan_commands owners.nodes plan.lines))) a b → IsEvenSplit o.nodes o.even owners
        → IfOk r (λ s. s ≡ 0 → IsServed (record { took = took; failures = failures; before = b; after = c }) o owners o.base_port (verified_commands (Some v)))
        → IfOk r (λ s. s ≡ 0 → IsServedWhole (record { took = took; failures = failures; before = a; after = c }) o (Some plan))
    is_served_whole o owners plan v a b c (Ok s) is first even more = λ none.
        let commands : verified_commands (Some v) ≡ line_commands o.nodes (Some plan) =
        ap (λ (v : Verified). verified_commands (Some v)) is ∙ ap (λ n. line_commands n (Some plan)) (closed_count owners ∙ even.among) in
        let served = subst (λ (p : Option (List PlanCommand)). IsServed (record { took = took; failures = failures; before = b; after = c }) o owners
        o.base_port p) commands (more none) in (
          owners,
          served.0,
          even,
          served.1,
          announces_then a b c (verified_line (line_commands o.nodes (Some plan)))
              (served_text o (line_commands o.nodes (Some plan)) (length (calls served.0.events)) (length served.0.events))
              (subst (λ n. Announces took failures (verified_text (length (plan_commands n plan.lines))) a b) even.among first) served.2,
        )
    is_served_whole o owners plan v a b c (Err e) is first even more = tt
