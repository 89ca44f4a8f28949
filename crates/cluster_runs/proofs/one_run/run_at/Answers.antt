use Rattle.std.proofs.Common.{◌≡◌, ◌↔◌, ◌∙◌, ◌+◌, rules, ap, refl, subst, sym}
use Rattle.std.specs.Prelude.{IsTrue}
use Rattle.plan_changes.specs.Loads.{most}
use Rattle.server_runs.specs.RunLogs.{HasBrokenLog}
use Rattle.server_runs.specs.Unheard.{LogsUnheard}
use Rattle.server_runs.specs.declared.counts.Counts.{Counts}
use Rattle.cluster_runs.proofs.Ended.{logs_as}
use Rattle.cluster_runs.proofs.one_run.run_at.Goals as goal

pub returns : goal.returns
returns g c =
    let run = c.show_end.ensures.kept.run in
    let aside = c.tell_unheard.ensures.kept.counts in
    let counts = c.log_end.ensures.kept.counts in
    let answered : c.commands.result ≡ c.carry_out_plan.new.watch.run.counts.commands =
    c.commands.ensures ∙ ap (λ (x : Counts). x.commands) (counts ∙ aside) ∙ ap (λ x. x.counts.commands) run in
    let sum : c.saturating_add-commands.result ≡ most (c.args.before + c.commands.result) = search rules in record {
      port' = c.carry_out_plan.new.port;
      watch' = c.carry_out_plan.new.watch;
      seat = c.in_ok-seat.seat;
      uncalled = c.in_ok-seat.ensures;
      fresh = c.new-end.result;
      empty = c.new-end.ensures.printed;
      end = c.carry_out_plan.new.end;
      applied = c.in_ok-carry_out_plan.ensures;
      trouble = c.trouble_of.ensures;
      handed_over = c.handed_over.ensures ∙ ap (λ (x : Counts). x.handed_over) (counts ∙ aside)
          ∙ ap (λ x. x.counts.handed_over) run;
      commands = sum ∙ ap (λ k. most (c.args.before + k)) answered;
      noted = c.tell_unheard.new.self.run.log;
      unheard = subst (λ k. LogsUnheard g.L.ByteOut.took k c.carry_out_plan.new.watch.run.log
          c.tell_unheard.new.self.run.log) c.unheard.ensures
          (subst (λ l. LogsUnheard g.L.ByteOut.took c.unheard.result l c.tell_unheard.new.self.run.log)
          (ap (λ x. x.log) run) c.tell_unheard.ensures.log);
      logged = logs_as g.L.ByteOut.took _ _ _ _ _ _ c.as_slice.ensures.value refl c.into_log.ensures
          c.log_end.ensures.log;
      is_broken = c.has_broken_log-is_broken.result;
      broken = subst (λ l. IsTrue c.has_broken_log-is_broken.result ↔ HasBrokenLog l) (sym c.into_log.ensures)
          c.has_broken_log-is_broken.ensures;
      told = c.in_ok-end.ensures;
    }
