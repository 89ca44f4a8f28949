use Rattle.std.proofs.Common.{rules, ◌+◌, ◌==◌, suc, refl, sym, inl, inr}
use Rattle.server_settling.proofs.quieting.quiet.Goals as goal

pub returns-in-Err-clause-quiets : goal.returns-in-Err-clause-quiets
returns-in-Err-clause-quiets g c =
    let before = c.loop.invariant in
    (before.0, c.loop.seen.ended, c.loop.seen.is_quiet, c.loop.links.items, before.1, inl c.in-Err.ensures.round)

pub returns-in-None-clause-quiets : goal.returns-in-None-clause-quiets
returns-in-None-clause-quiets g c =
    let before = c.loop.invariant in (
      suc before.0,
      c.loop.seen.ended + c.in-Ok.count,
      c.in-Ok.count == 0,
      c.round.new.links.items,
      (
        c.loop.seen.ended,
        c.loop.seen.is_quiet,
        c.in-Ok.count,
        c.loop.links.items,
        before.1,
        c.in-Ok.ensures.round,
        sym c.if-is_second.ensures,
        refl,
        refl,
      ),
      inr (refl, c.stop_by.ensures),
    )

pub returns-then-not-pause-clause-quiets : goal.returns-then-not-pause-clause-quiets
returns-then-not-pause-clause-quiets g c =
    let before = c.loop.invariant in (
      suc before.0,
      c.in-Some.next.ended,
      c.in-Some.next.is_quiet,
      c.round.new.links.items,
      (
        c.loop.seen.ended,
        c.loop.seen.is_quiet,
        c.in-Ok.count,
        c.loop.links.items,
        before.1,
        c.in-Ok.ensures.round,
        sym c.if-is_second.ensures,
        c.in-Some.ensures.0,
        c.in-Some.ensures.1,
      ),
      inr (refl, c.stop_by-then-not-pause.ensures),
    )

pub loop-preserved : goal.loop-preserved
loop-preserved g c =
    let before = c.loop.invariant in (
      suc before.0,
      (
        c.loop.seen.ended,
        c.loop.seen.is_quiet,
        c.in-Ok.count,
        c.loop.links.items,
        before.1,
        c.in-Ok.ensures.round,
        sym c.if-is_second.ensures,
        c.in-Some.ensures.0,
        c.in-Some.ensures.1,
      ),
      search rules,
    )

pub returns-clause-quiets : goal.returns-clause-quiets
returns-clause-quiets g c =
    let before = c.loop.invariant in (
      before.0,
      c.loop.seen.ended,
      c.loop.seen.is_quiet,
      c.loop.links.items,
      before.1,
      inr (refl, c.stop_by-2.ensures),
    )
