-- A quiet run of a legal plan: no refusal, exactly the cost, and a clean world in the end.
use Rattle.std.proofs.Common.{◌≡◌, ℕ, ◌+◌, List, [], ◌∷◌, length, None, sym, refl, ap, subst, arith}
use Rattle.store_commands.specs.Store.{Store}
use Rattle.cluster_world.specs.Worlds.{World}
use Rattle.cluster_world.specs.Cleanness.{Clean}
use Rattle.cluster_world.specs.Steps.{after}
use Rattle.cluster_world.specs.Servers.{ServerRun}
use Rattle.cluster_world.specs.declared.event.Event.{Event}
use Rattle.cluster_world.specs.declared.event.Event.TheVariants.{Client, Look, Admin}
use Rattle.cluster_world.specs.Honesty.{Honest}
use Rattle.cluster_world.specs.Serving.{served, store_after}
use Rattle.plan_language.specs.declared.plan_command.PlanCommand.{PlanCommand}
use Rattle.cluster_admin.specs.Phases.{Phases}
use Rattle.cluster_world.specs.Openness.{Open}
use Rattle.plan_semantics.specs.Plans.{part, Legal, final_owner}
use Rattle.cluster_world.specs.AdminCalls.{calls}
use Rattle.plan_semantics.specs.Unrolling.{Unrolls}
use Rattle.reshard_theorem.specs.QuietRuns.{NoClients, IsQuietReshard}
use Rattle.reshard_theorem.specs.ServerRuns.{QuietServers}
use Rattle.plan_semantics.specs.Costs.{cost, none_passed, plan_cost}
use Rattle.reshard_theorem.specs.Counts.{counts, first_count, first_counts}
use Rattle.reshard_theorem.proofs.Phases.{Phase, Closed, Importing, Migrating, Drained, TargetTold, SourceTold, Rest, Fresh}
use Rattle.reshard_theorem.proofs.Base.{Inv}
use Rattle.reshard_theorem.proofs.Begins.{start}
use Rattle.reshard_theorem.proofs.Spending.{count, first_ok}
use Rattle.reshard_theorem.proofs.Exactly.{Exactly, AreFresh, due_fresh, run_exact}
use Rattle.reshard_theorem.proofs.HonestRuns.{clean_end, no_command_refused}
use Rattle.plan_semantics.proofs.Unrolling.{spelled_by_whole}
use Rattle.reshard_theorem.proofs.Prefixes.{prefixes_are_driven}
use Rattle.reshard_theorem.proofs.Unrolled.{whole_is_prefix}
use Rattle.reshard_theorem.specs.Starts.{Reshard, Starts}

pub quiet_honest : (es : List Event) (w : World) (past : List Event) → NoClients es → Honest w past es
quiet_honest [] w past q = tt
quiet_honest (Client seat x asking c r ∷ es) w past q = absurd q
quiet_honest (Look seat x r ∷ es) w past q = (tt, quiet_honest es w (Look seat x r ∷ past) q)
quiet_honest (Admin n c r ∷ es) w past q = (tt, quiet_honest es (after w (Admin n c r)) (Admin n c r ∷ past) q)

quiet_served : (es : List Event) → NoClients es → served es ≡ []
quiet_served [] q = refl
quiet_served (Client seat x asking c r ∷ es) q = absurd q
quiet_served (Look seat x r ∷ es) q = quiet_served es q
quiet_served (Admin n c r ∷ es) q = quiet_served es q

module _ (n goal s : ℕ) (w : World) where
  first_fresh : (q : Phase) (rest : List PlanCommand) → Rest n goal s q rest → Fresh (first_count w rest) 0 (count w s) q
  first_fresh (Closed o) rest l = tt
  first_fresh (Importing o t) rest l = tt
  first_fresh (Migrating o t) rest l = subst (λ x. Fresh (first_count w x) 0 (count w s) (Migrating o t)) (sym l.is) refl
  first_fresh (Drained o t) rest l = tt
  first_fresh (TargetTold o t) rest l = tt
  first_fresh (SourceTold o t left) rest l = tt

module _ (reshard : Reshard) (events : List Event) (last : World)
    (starts : Starts reshard) (run : ServerRun reshard.first events last) (whole : Unrolls reshard.plan (calls events)) (quiet : NoClients events) where
  begun : Inv (length reshard.first.nodes) (final_owner reshard.plan reshard.phases) reshard.first reshard.before reshard.plan None reshard.store
  begun = start reshard starts

  fresh : AreFresh (length reshard.first.nodes) (final_owner reshard.plan reshard.phases) reshard.plan (first_counts reshard.first reshard.plan) none_passed reshard.first reshard.plan None begun.base
  fresh s = first_fresh (length reshard.first.nodes) (final_owner reshard.plan reshard.phases s) s reshard.first (begun.base.marks s).phase (part reshard.plan s) (begun.base.marks s).left

  exactly_begun : Exactly (length reshard.first.nodes) (final_owner reshard.plan reshard.phases) reshard.plan (first_counts reshard.first reshard.plan) reshard.first reshard.plan None 0
  exactly_begun = record {
    base = begun.base;
    passed = none_passed;
    slots = λ s. first_ok (length reshard.first.nodes) (final_owner reshard.plan reshard.phases s) s reshard.first (begun.base.marks s).phase (part reshard.plan s) (begun.base.marks s).left;
    fresh = λ s e. fresh s;
    behind = λ x. 0;
    splits = λ x. omega arith;
    kept = λ x y g. refl;
    paid = ap (λ x. 0 + x) (due_fresh (length reshard.first.nodes) (final_owner reshard.plan reshard.phases) reshard.plan (first_counts reshard.first reshard.plan) none_passed reshard.first reshard.plan begun.base fresh);
  }

  pub exactly : Exactly (length reshard.first.nodes) (final_owner reshard.plan reshard.phases) reshard.plan (counts (first_counts reshard.first reshard.plan) reshard.first events) last [] None (length (calls events) + 0)
  exactly = run_exact (length reshard.first.nodes) (final_owner reshard.plan reshard.phases) reshard.plan events (first_counts reshard.first reshard.plan) reshard.first last reshard.before reshard.plan [] None None reshard.store 0 begun exactly_begun run (spelled_by_whole reshard.plan (calls events) whole) quiet

  takes_cost : length (calls events) ≡ plan_cost (counts (first_counts reshard.first reshard.plan) reshard.first events) reshard.plan
  takes_cost =
      let paid : length (calls events) + 0 + 0 ≡ exactly.behind (counts (first_counts reshard.first reshard.plan) reshard.first events) + 0 = exactly.paid in
      let all : cost none_passed (counts (first_counts reshard.first reshard.plan) reshard.first events) reshard.plan ≡ exactly.behind (counts (first_counts reshard.first reshard.plan) reshard.first events) + 0 = exactly.splits (counts (first_counts reshard.first reshard.plan) reshard.first events) in
      omega arith

  pub quiet_run : IsQuietReshard reshard events last
  quiet_run =
      let d = prefixes_are_driven reshard events last starts run (whole_is_prefix reshard.plan (calls events) whole) (quiet_honest events reshard.first reshard.before quiet) in
      record {
        no_refusal = no_command_refused reshard events last d.0 d.1;
        cost = takes_cost;
        clean = λ final f. subst (λ l. Clean last final (store_after reshard.store l)) (quiet_served events quiet) (clean_end final reshard events last d.0 d.1 whole f);
      }

pub quiet_reshard : QuietServers
quiet_reshard reshard events last starts run whole quiet = quiet_run reshard events last starts run whole quiet
