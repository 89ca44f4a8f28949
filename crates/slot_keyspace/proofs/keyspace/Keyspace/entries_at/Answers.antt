use Rattle.std.proofs.Common.{◌≡◌, Option, Some, None, option_map, ap, sym, ◌∙◌, ◌++◌, drop, map, ◌+◌}
use Rattle.std.proofs.lemmas.List.{map-append}
use Rattle.std.specs.FinMap.{get}
use Rattle.slot_keyspace.specs.Batches.{Entry, batch_of}
use Rattle.slot_keyspace.proofs.Batches.{batch_of-found, batch_of-missing, batch_of-end, some-found, on_err}
use Rattle.slot_keyspace.proofs.keyspace.Keyspace.entries_at.Goals as goal
use Rattle.slot_keyspace.proofs.keyspace.Keyspace.entries_at.Goals.{in-Some+in_ok-push, in_default}

pub loop-key-preserved : goal.loop-key-preserved
loop-key-preserved c =
    let s = c.args.self.now in
    let keys = c.args.keys.now in
    let i = c.loop-key.key-index in
    let k = c.key-item.result in
    let same : get s k ≡ option_map (λ v. v.now) c.get-in-loop-key.result =
    sym (ap (λ q. get s q) c.get.ensures.value) ∙ sym c.get-in-loop-key.ensures in
    elim c.match-get.branch [
      | in-Some+in_ok-push w ↦
          let v = w.in-Some.value.now in
          let found : Some (k, v) ≡ option_map (λ v. (k, v)) (get s k) =
          ap (option_map (λ v. (k, v))) (sym (same ∙ ap (option_map (λ v. v.now)) w.in-Some.is)) in
          ap (λ b. map (λ e. (e.0.now, e.1.now)) b.items ++ batch_of s (drop (i + 1) keys)) w.batch-is
          ∙ ap (λ es. map (λ e. (e.0.now, e.1.now)) es ++ batch_of s (drop (i + 1) keys)) w.in_ok-push.ensures.items
          ∙ ap (λ es. es ++ batch_of s (drop (i + 1) keys)) (map-append (λ e. (e.0.now, e.1.now)) c.loop-key.batch.items _)
          ∙ batch_of-found s keys i k (k, v) _ _ c.loop-key-test.true c.key-item.is found c.loop-key.invariant
      | in_default w ↦
          let missing : ◌≡◌ {A = Option Entry} None (option_map (λ v. (k, v)) (get s k)) =
          ap (option_map (λ v. (k, v))) (sym (same ∙ ap (option_map (λ v. v.now)) w.in_default.is)) in
          ap (λ b. map (λ e. (e.0.now, e.1.now)) b.items ++ batch_of s (drop (i + 1) keys)) w.batch-is
          ∙ batch_of-missing s keys i k _ _ c.loop-key-test.true c.key-item.is missing c.loop-key.invariant
    ]

pub returns-clause-entries : goal.returns-clause-entries
returns-clause-entries c = batch_of-end c.args.self.now c.args.keys.now c.loop-key.key-index _ _ c.loop-key-test.false c.loop-key.invariant

pub returns-in_err-push-clause-memory : goal.returns-in_err-push-clause-memory
returns-in_err-push-clause-memory c =
    let s = c.args.self.now in
    let keys = c.args.keys.now in
    let i = c.loop-key.key-index in
    let k = c.key-item.result in
    let v = c.in-Some.value.now in
    let same : get s k ≡ option_map (λ v. v.now) c.get-in-loop-key.result =
    sym (ap (λ q. get s q) c.get.ensures.value) ∙ sym c.get-in-loop-key.ensures in
    let found : Some (k, v) ≡ option_map (λ v. (k, v)) (get s k) =
    ap (option_map (λ v. (k, v))) (sym (same ∙ ap (option_map (λ v. v.now)) c.in-Some.is)) in
    on_err c.from_residual.result _ (some-found _ _ _ _ (batch_of-found s keys i k (k, v) _ _ c.loop-key-test.true c.key-item.is found c.loop-key.invariant))
