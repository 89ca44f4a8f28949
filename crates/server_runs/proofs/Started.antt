-- A run of a plan that was just armed begins at the plan's start.
use Rattle.std.proofs.Common.{◌≡◌, ◌⊎◌, ◌∙◌, List, Result, Ok, Err, OnOk, ap, sym, subst}
use Rattle.cluster_admin.specs.Surveys.{Survey}
use Rattle.cluster_admin.specs.declared.call.AdminCall.{AdminCall}
use Rattle.plan_language.specs.PlanView.{PlanView}
use Rattle.plan_runner.specs.Advancing.{end_of, last_seat}
use Rattle.plan_runner.specs.ProgressView.{Progress, at_start}
use Rattle.plan_runner.specs.Verifying.{commands_of}
use Rattle.plan_runner.specs.Watching.{RunsWatched, WatchedSteps}
use Rattle.plan_runner.specs.declared.running.Finish.{Finish}
use Rattle.plan_semantics.specs.Surveyed.{node_count}

pub on_ok_then : {A E : Type 0} (r : Result A E) (P Q : Type 0) → OnOk r P → (P → Q) → OnOk r Q
on_ok_then (Ok x) P Q h f = f h
on_ok_then (Err e) P Q h f = h

pub runs_from_start : {P W S : Type 0} (by : WatchedSteps P W)
    (calls : S → List AdminCall) (first last : P × W) (plan plan' : PlanView) (v v' : Survey) (seat seat' : S) (p : Progress)
    (finish : Finish S) → plan' ≡ plan → v' ≡ v → seat' ≡ seat
    → p ≡ at_start (node_count v') (commands_of plan' v') 18446744073709551615
    → RunsWatched by (record { port = first; calls = calls seat' }) (record { port = last; calls = calls (last_seat finish) }) p (end_of finish)
    → RunsWatched by (record { port = first; calls = calls seat }) (record { port = last; calls = calls (last_seat finish) })
    (at_start (node_count v) (commands_of plan v) 18446744073709551615) (end_of finish)
runs_from_start {P} {W} {S} by calls first last plan plan' v v' seat seat' p finish same surveyed seated at runs =
    let start : p ≡ at_start (node_count v) (commands_of plan v) 18446744073709551615 =
    at ∙ ap (λ (x : Survey). at_start (node_count x) (commands_of plan' x) 18446744073709551615) surveyed
    ∙ ap (λ (x : PlanView). at_start (node_count v) (commands_of x v) 18446744073709551615) same in
    subst (λ (q : Progress). RunsWatched by (record { port = first; calls = calls seat }) (record { port = last; calls = calls (last_seat finish) }) q (end_of finish)) start
    (subst (λ (x : S). RunsWatched by (record { port = first; calls = calls x }) (record { port = last; calls = calls (last_seat finish) }) p (end_of finish)) seated runs)
