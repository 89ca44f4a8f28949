use Rattle.std.proofs.Common.{◌≡◌, ◌≢◌, length, refl, rules, subst}
use Rattle.cluster_runs.specs.Applying.{Runs}
use Rattle.cluster_runs.proofs.Applied.{cut, forgotten, reported}
use Rattle.cluster_runs.proofs.Ended.{last_ended}
use Rattle.cluster_runs.proofs.apply.run.Goals as goal

pub returns-then-is_err : goal.returns-then-is_err
returns-then-is_err g c =
    let took = g.W.ByteOut.took in
    let failures = g.W.ByteOut.failures in
    let bytes = c.as_slice.result.now in
    let wrote = c.write_whole.ensures.wrote in
    let failed : failures c.write_whole.new.writer ≢ failures c.args.writer.now = search rules in
    subst (λ t. Runs t (record { took = took; failures = failures; before = c.args.writer.now; after = c.write_whole.new.writer }) 1) c.as_slice.ensures.value
    (cut took failures g.met.W.ByteOut.took_then bytes c.args.writer.now c.write_whole.new.writer 1 wrote.0 refl wrote.1 wrote.2
    failed)

pub returns-in-Ok : goal.returns-in-Ok
returns-in-Ok g c =
    let took = g.W.ByteOut.took in
    let failures = g.W.ByteOut.failures in
    let bytes = c.as_slice.result.now in
    let wrote = c.write_whole.ensures.wrote in
    let all : wrote.0 ≡ length bytes = search rules in
    let kept : failures c.write_whole.new.writer ≡ failures c.args.writer.now = search rules in
    subst (λ t. Runs t (record { took = took; failures = failures; before = c.args.writer.now; after = c.report-status.new.writer }) c.report-status.result) c.as_slice.ensures.value
    (reported took failures g.met.W.ByteOut.took_then bytes c.args.writer.now c.write_whole.new.writer wrote.0 all wrote.2 kept
    c.in-Ok.end.status c.in-Ok.end.printed.items c.report-status.new.writer c.report-status.result
    (last_ended _ _ c.args.words.now c.args.attempt _ c.args.lines.now c.in-Ok.end c.in-Ok.ensures) c.report-status.ensures.reported)

pub returns-in-Err : goal.returns-in-Err
returns-in-Err g c =
    let took = g.W.ByteOut.took in
    let failures = g.W.ByteOut.failures in
    let bytes = c.as_slice.result.now in
    let wrote = c.write_whole.ensures.wrote in
    let all : wrote.0 ≡ length bytes = search rules in
    let kept : failures c.write_whole.new.writer ≡ failures c.args.writer.now = search rules in
    subst (λ t. Runs t (record { took = took; failures = failures; before = c.args.writer.now; after = c.out_of_memory.new.writer }) c.out_of_memory.result) c.as_slice.ensures.value
    (forgotten took failures g.met.W.ByteOut.took_then bytes c.args.writer.now c.write_whole.new.writer wrote.0 all wrote.2 kept
    c.out_of_memory.new.writer c.out_of_memory.result c.out_of_memory.ensures.status c.out_of_memory.ensures.wrote)
