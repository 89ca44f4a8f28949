use Rattle.std.proofs.Common.{Ok, ap, ◌∙◌, sym}
use Rattle.script_lines.specs.Words.{unescape}
use Rattle.script_lines.proofs.Escapes.{plain, after_none, one_more_byte}
use Rattle.script_lines.proofs.words.unescape.Goals as goal

pub returns-then-not-has_escape : goal.returns-then-not-has_escape
returns-then-not-has_escape c = plain c.args.word.now (sym c.has_escape.ensures ∙ c.if-not-has_escape.true) ∙ ap (λ t. Ok t) (sym c.in_ok-from_slice.ensures.items)

pub loop-byte-init : goal.loop-byte-init
loop-byte-init c = rw c.new-bytes.ensures.items (after_none (unescape c.args.word.now))

pub loop-byte-preserved : goal.loop-byte-preserved
loop-byte-preserved c =
    one_more_byte c.args.word.now c.loop-byte.rest.now c.in-Some.remaining.now c.loop-byte.bytes.items c.push.new.self.items c.in-Some-byte.byte c.in-Some.byte
    c.in-Some.ensures.byte c.in-Some-byte.is c.in_ok-push.ensures.items c.loop-byte.invariant
