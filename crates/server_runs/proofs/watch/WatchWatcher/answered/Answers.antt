use Rattle.std.proofs.Common.{rules, ◌≡◌, ◌∙◌, Option, ap, subst, sym}
use Rattle.server_runs.specs.Counts.{counted}
use Rattle.server_runs.specs.RunLogs.{Logs}
use Rattle.server_runs.specs.declared.counts.Counts.{Counts}
use Rattle.server_runs.specs.declared.kind.Kind.{Kind}
use Rattle.server_runs.specs.declared.run_record.RunRecord.{RunRecord}
use Rattle.server_runs.specs.declared.run_log.RunLog.{RunLog}
use Rattle.transcripts.specs.RunTexts.{log_reply_text}
use Rattle.server_runs.proofs.Pacing.{paced_on}
use Rattle.server_runs.proofs.watch.WatchWatcher.answered.Goals as goal

pub returns : goal.returns
returns g c =
    let log = c.log_reply.ensures.kept in
    let counts : c.counted-self.result ≡ counted c.args.self.now.run.kind c.args.reply.now c.args.self.now.run.counts =
    c.counted-self.ensures ∙ ap (λ (k : Kind). counted k c.args.reply.now c.log_reply.new.self.run.counts) log.kind
    ∙ ap (λ (n : Counts). counted c.args.self.now.run.kind c.args.reply.now n) log.counts in (
      subst (λ (l : Option (RunLog g.row.L.Denot)). Logs g.L.ByteOut.took (log_reply_text c.args.reply.now) c.args.self.now.run.log l)
          (sym (ap (λ (r : RunRecord g.row.L.Denot). r.log) c.pass_time.ensures.kept.run)) c.log_reply.ensures.log,
      ap (λ (r : RunRecord g.row.L.Denot). r.counts) c.pass_time.ensures.kept.run ∙ counts,
      ap (λ (r : RunRecord g.row.L.Denot). r.nodes) c.pass_time.ensures.kept.run ∙ log.nodes,
      (c.pass_time.ensures.kept.pace ∙ log.pace, c.pass_time.ensures.kept.moves ∙ log.moves),
      paced_on g.S.RunContext.tells g.S.RunContext.waits c.args.self.now.pace c.log_reply.new.self.pace c.args.self.now.run.kind
          c.log_reply.new.self.run.kind (counted c.args.self.now.run.kind c.args.reply.now c.args.self.now.run.counts) c.counted-self.result
          log.pace log.kind counts c.pass_time.ensures.paced,
    )
