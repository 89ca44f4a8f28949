-- What stands in a plan that runs.
use Rattle.std.specs.Prelude.{◌≡◌, ℕ, ◌<◌, [], Option, Some, None, is_some}
use Rattle.cluster_admin.specs.Commands.{IsCommand}
use Rattle.plan_runner.specs.ProgressView.{Progress}
use Rattle.plan_semantics.specs.Orders.{sending, listed_in}
use Rattle.plan_runner.specs.declared.progress.Pending.{Pending}
use Rattle.plan_runner.specs.declared.progress.Progress.TheInside.{Inside}

abbrev pub progress_of_pending : (nodes : ℕ) → Option Pending → ℕ → Progress
progress_of_pending n None most = record { nodes = n; rest = []; listed = None; spent = 0; most = most }
progress_of_pending n (Some p) most = record {
  nodes = n;
  rest = p.waiting.rest;
  listed = listed_in p.order.command;
  spent = p.waiting.spent;
  most = most;
}

abbrev pub progress_of : Inside → Progress
progress_of a = progress_of_pending a.nodes a.pending a.most

abbrev pub IsPending : (nodes : ℕ) → Option Pending → ℕ → Type 0
IsPending n None most = 0 < most
IsPending n (Some p) most = (sending p.waiting.rest (listed_in p.order.command) ≡ Some p.order)
    × (p.waiting.open_still ≡ is_some (listed_in p.order.command)) × (p.waiting.most ≡ most) × (p.waiting.spent < most)
    × (p.waiting.nodes ≡ n) × (p.order.node < n) × IsCommand p.order.command

abbrev pub IsProgress : Inside → Type 0
IsProgress a = IsPending a.nodes a.pending a.most
