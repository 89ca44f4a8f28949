use Rattle.std.proofs.Common.{◌<◌, ◌≡◌, ℕ, List, [], ◌∷◌, false, sym, ap, subst, ◌∙◌}
use Rattle.std.proofs.lemmas.List.Elements.{All-push}
use Rattle.cluster_world.specs.declared.event.Event.{Event}
use Rattle.shared_trail.specs.Trails.{among, calls_of}
use Rattle.live_cluster.specs.Returns.{back_after, numbers_of, AreFirst}
use Rattle.live_cluster.proofs.Returned.{back_push, first_push, numbers_push}
use Rattle.live_cluster.proofs.closing.close_seats.Goals as goal

pub loop-seat-preserved : goal.loop-seat-preserved
loop-seat-preserved g c =
    let inv = c.loop-seat.invariant in
    let back : List ℕ = c.args.trail.now.gone in
    let more = sym (numbers_push c.loop-seat.yielded c.in-Some.seat) in
    record {
      events = c.settle.ensures.events ∙ inv.events;
      gone = c.settle.ensures.gone ∙ ap (λ l. c.in-Some.seat.0 ∷ l) inv.gone ∙ sym (back_push (numbers_of c.loop-seat.yielded) c.in-Some.seat.0 back) ∙ ap (λ ns. back_after ns back) more;
      first = subst (λ ns. AreFirst ns back) more (first_push (numbers_of c.loop-seat.yielded) c.in-Some.seat.0 back inv.first (subst (λ (l : List ℕ). among c.in-Some.seat.0 l ≡ false) inv.gone c.settle.ensures.first));
      low = All-push (λ (s : ℕ × List Event). s.0 < 32) c.loop-seat.yielded c.in-Some.seat inv.low c.settle.ensures.number;
      seats = All-push (λ (s : ℕ × List Event). calls_of s.0 c.args.trail.now.events ≡ s.1) c.loop-seat.yielded c.in-Some.seat inv.seats (ap (calls_of c.in-Some.seat.0) (sym inv.events) ∙ c.settle.ensures.seat);
    }
