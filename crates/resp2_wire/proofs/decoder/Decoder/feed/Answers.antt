use Rattle.std.proofs.Common.{zero, sym}
use Rattle.resp2_wire.proofs.Streams.{gave_fed, gave_unread}
use Rattle.resp2_wire.proofs.decoder.Decoder.feed.Goals as goal

pub returns-then-self-gt0-clause-fed : goal.returns-then-self-gt0-clause-fed
returns-then-self-gt0-clause-fed c = λ stream given g. gave_fed stream c.args.self.now c.args.piece.now _ given g (zero, rw (← c.self.view_is) (sym c.in_ok-extend_from_slice.ensures.ok))

pub returns-clause-fed : goal.returns-clause-fed
returns-clause-fed c = λ stream given g. gave_fed stream c.args.self.now c.args.piece.now _ given g (rw (← c.self.view_is, ← c.in_ok-extend_from_slice.ensures.ok) c.skip_empty.ensures.skips)

pub returns-then-self-gt0-clause-refused : goal.returns-then-self-gt0-clause-refused
returns-then-self-gt0-clause-refused c = λ stream given g. gave_unread stream c.args.self.now c.args.piece.now given g

pub returns-clause-refused : goal.returns-clause-refused
returns-clause-refused c = λ stream given g. gave_unread stream c.args.self.now c.args.piece.now given g

pub returns-in_err-extend_from_slice-clause-refused : goal.returns-in_err-extend_from_slice-clause-refused
returns-in_err-extend_from_slice-clause-refused c = λ stream given g. gave_unread stream c.args.self.now c.args.piece.now given g
