use Rattle.std.proofs.Common.{Ok, Some, ◌≡◌, refl, drop}
use Rattle.resp2_wire.specs.Stream.{Next}
use Rattle.resp2_wire.specs.Progress.{words_of}
use Rattle.resp2_wire.proofs.Streams.{gave_next}
use Rattle.resp2_wire.proofs.Skipping.{is_whole, next_less}
use Rattle.resp2_wire.proofs.decoder.Decoder.next.Goals as goal

whole_request : (c : goal.After-from_vec) → Next c.args.self.now (Ok (Some c.from_vec.result)) c.skip_empty.new.buffer.items
whole_request c =
    let w = is_whole c.read_on.new.self _ c.in-Ok.ensures.follows c.in-Ok.ensures.ok.0 c.in-Ok.ensures.ok.1 in
    let at = c.read_on.new.self.at in
    let words : c.from_vec.result ≡ words_of c.read_on.new.self = rw (c.from_vec.ensures, c.replace-words.ensures.value) refl in
    (drop at c.self.inside.buffer.items, rw (← c.self.view_is, words) (rw c.as_slice.ensures at w.0), rw words w.1, rw c.advance.ensures.items at c.skip_empty.ensures.skips)

pub returns-in-Ok-clause-next : goal.returns-in-Ok-clause-next
returns-in-Ok-clause-next c = whole_request c

pub returns-in-Ok-clause-given : goal.returns-in-Ok-clause-given
returns-in-Ok-clause-given c = λ stream given g. gave_next stream _ _ given _ g (whole_request c)

pub returns-in-Ok-clause-less : goal.returns-in-Ok-clause-less
returns-in-Ok-clause-less c = let n = whole_request c in next_less c.args.self.now n.0 _ _ n.1 n.3
