-- What a reply makes of a plan.
use Rattle.std.specs.Prelude.{ℕ, ◌+◌, Bool, true, false, cond, ◌==◌, List, [], ◌∷◌, Option, Some, None}
use Rattle.plan_language.specs.declared.plan_command.PlanCommand.{PlanCommand}
use Rattle.plan_language.specs.declared.plan_command.PlanCommand.TheVariants as planned
use Rattle.cluster_admin.specs.declared.admin.AdminReply.{AdminReply}
use Rattle.cluster_admin.specs.declared.admin.AdminReply.TheVariants.{Ok, NoKey, Keys, Refused}
use Rattle.cluster_admin.specs.Keys.{Key}
use Rattle.plan_runner.specs.ProgressView.{Waits}
use Rattle.plan_runner.specs.Listings.{is_listing}
use Rattle.plan_runner.specs.declared.plan_state.PlanState.{PlanState}
use Rattle.plan_runner.specs.declared.plan_state.PlanState.TheVariants.{Running, Done, Stopped}
use Rattle.plan_runner.specs.declared.stop_cause.StopCause.TheVariants as causes

-- what is left of a plan: its rest, and the keys of a listing that no MIGRATE has followed yet
abbrev pub Left : Type 0
Left = List PlanCommand × Option (List Key)

abbrev pub when_fine : AdminReply → Left → Option Left
when_fine Ok left = Some left
when_fine NoKey left = None
when_fine (Keys ks) left = None
when_fine (Refused fault) left = None

abbrev pub when_moved : AdminReply → Left → Option Left
when_moved Ok left = Some left
when_moved NoKey left = Some left
when_moved (Keys ks) left = None
when_moved (Refused fault) left = None

-- a listing ends the drain where it has no key
abbrev pub when_listed : AdminReply → (slot batch : ℕ) → PlanCommand → List PlanCommand → Option Left
when_listed Ok s b o rest = None
when_listed NoKey s b o rest = None
when_listed (Keys []) s b o rest = Some (rest, None)
when_listed (Keys (k ∷ ks)) s b o rest = cond (is_listing s b (k ∷ ks)) (Some (o ∷ rest, Some (k ∷ ks))) None
when_listed (Refused fault) s b o rest = None

-- what is left after a reply; none where the reply is strange
abbrev pub after : List PlanCommand → Bool → AdminReply → Option Left
after [] open_still reply = None
after (planned.Drain s m t b ∷ rest) false reply = when_listed reply s b (planned.Drain s m t b) rest
after (planned.Drain s m t b ∷ rest) true reply = when_moved reply (planned.Drain s m t b ∷ rest, None)
after (o ∷ rest) open_still reply = when_fine reply (rest, None)

-- Done at the end, stopped at the limit, and otherwise running
abbrev pub progress_at : (nodes : ℕ) → Left → (spent most : ℕ) → PlanState
progress_at n ([], listed) spent most = Done spent
progress_at n (o ∷ rest, listed) spent most = cond (spent == most) (Stopped causes.Limit spent)
    (Running (record { nodes = n; rest = o ∷ rest; listed = listed; spent = spent; most = most }))

abbrev pub plan_with : (nodes : ℕ) → Option Left → (spent most : ℕ) → PlanState
plan_with n None spent most = Stopped causes.StrangeReply spent
plan_with n (Some left) spent most = progress_at n left spent most

-- the first that applies: refused, strange, done, limit, running
abbrev pub plan_after : Waits → AdminReply → PlanState
plan_after w (Refused fault) = Stopped (causes.Refused (w.spent + 1) fault) (w.spent + 1)
plan_after w Ok = plan_with w.nodes (after w.rest w.open_still Ok) (w.spent + 1) w.most
plan_after w NoKey = plan_with w.nodes (after w.rest w.open_still NoKey) (w.spent + 1) w.most
plan_after w (Keys ks) = plan_with w.nodes (after w.rest w.open_still (Keys ks)) (w.spent + 1) w.most
