use Rattle.std.proofs.Common.{◌≡◌, ◌<◌, ◌-◌, ◌+◌, ℕ, List, [], ◌∷◌, ◌++◌, length, drop, arith, ap}
use Rattle.std.proofs.lemmas.Result.{err_from_is_err_and}
use Rattle.std.proofs.lemmas.List.{length-append}
use Rattle.resp2_wire.specs.Stream.{Words}
use Rattle.resp2_wire.specs.Progress.{words_of}
use Rattle.resp2_wire.proofs.Going.{stops_from, word_fails, word_fits, word_goes}
use Rattle.resp2_wire.proofs.progress.Progress.read_word.Goals as goal

pub returns-in_err-word-clause-err : goal.returns-in_err-word-clause-err
returns-in_err-word-clause-err c =
    let p = err_from_is_err_and c.from_residual.result c.from_residual.ensures.1 in
    let n = c.args.self.now.count - length (words_of c.args.self.now) in
    let some : 0 < n = omega (arith, c.requires.missing) in
    rw (p.1, p.2) (stops_from _ _ (word_fails _ (words_of c.args.self.now) n (drop c.args.self.now.at c.args.bytes.now) c.args.bytes.now some (c.requires.follows.reads (omega (arith, c.requires.missing))) (rw c.split_at.ensures.back at c.in_err-word.ensures.read)))

pub overflow_sub-self : goal.overflow_sub-self
overflow_sub-self c = (word_fits c.args.self.now.at _ c.args.bytes.now _ (rw c.split_at.ensures.back at c.in_ok-word.ensures.read)).0

pub returns-clause-follows : goal.returns-clause-follows
returns-clause-follows c =
    let old = c.args.self.now in
    let bytes = c.args.bytes.now in
    let word = c.in_ok-word.word.now in
    let after = c.in_ok-word.rest.now in
    let reads = rw c.split_at.ensures.back at c.in_ok-word.ensures.read in
    let fits = word_fits old.at word bytes after reads in
    let ws : Words = words_of old in
    let missing : length ws < old.count = c.requires.missing in
    let words : c.push.new.self.items ≡ ws ++ word ∷ [] = rw c.in_ok-push.ensures.items (ap (λ (w : List ℕ). ws ++ w ∷ []) c.in_ok-from_slice.ensures) in
    let len : length c.push.new.self.items ≡ length ws + 1 = rw words (length-append ws (word ∷ [])) in
    record {
      fits = omega arith;
      few = omega arith;
      most = c.requires.follows.most;
      start = λ z. absurd (omega arith);
      not_empty = λ z. absurd (omega arith);
      reads = λ lt more.
          let next = word_goes ws word (old.count - length ws) (old.count - (length ws + 1)) (drop old.at bytes) after bytes (omega arith) (c.requires.follows.reads (omega arith)) reads in
          rw (fits.1, len, words) (next more);
    }
