-- A recorded world goes on by one event: its trail stays a run.
use Rattle.std.proofs.Common.{◌≡◌, ℕ, List, [], ◌∷◌, ◌++◌, None, refl}
use Rattle.key_slots.specs.Owners.{Owners, IsTable}
use Rattle.resp2_wire.specs.declared.reply.Reply.{Reply}
use Rattle.cluster_world.specs.Worlds.{World}
use Rattle.cluster_world.specs.WorldView.{new_world}
use Rattle.cluster_world.specs.Steps.{action_of, Answers, IsCall, Run, after}
use Rattle.cluster_world.specs.declared.event.Event.{Event}
use Rattle.cluster_world.specs.Recorded.{Recorded, AreCalls, IsRecord, Puts, begun, put, held, sent_event}
use Rattle.cluster_world.specs.Recorded.{with_event}
use Rattle.cluster_world.specs.declared.recorded.Sent.{Sent as Waiting}

pub run_on : (first : World) (es : List Event) (now : World) (e : Event) → Run first es now → Answers now e
    → Run first (es ++ e ∷ []) (after now e)
run_on first [] now e p a = (rw p at a, rw p refl)
run_on first (x ∷ es) now e p a = (p.0, run_on (after first x) es now e p.1 a)

calls_on : (es : List Event) (e : Event) → AreCalls es → IsCall (action_of e) → AreCalls (es ++ e ∷ [])
calls_on [] e h is = (is, tt)
calls_on (x ∷ es) e h is = (h.0, calls_on es e h.1 is)

pub recorded : (r next : Recorded) (e : Event) → IsRecord r → Puts r e next → IsRecord next
recorded r next e k p =
    rw p.2
    (record {
      none_waits = refl;
      opening = k.opening;
      calls = calls_on r.events e k.calls p.0;
      run = run_on r.first r.events r.world e k.run p.1;
    })

-- where nothing has happened yet
pub opened_recorded : (r : Recorded) (port : ℕ) (o : Owners) → IsTable o → r ≡ begun (new_world port o.nodes o.owners)
    → IsRecord r
opened_recorded r port o table is =
    rw is
    (record {
      none_waits = refl;
      opening = record { port = port; table = o; is_table = table; is = refl };
      calls = tt;
      run = refl;
    })

-- the call that waited is put on the trail
pub put_held : (r mid : Recorded) (s : Waiting) (reply : Reply) → mid ≡ held r s reply
    → put mid reply ≡ with_event r (sent_event s reply)
put_held r mid s reply e = rw e refl

-- where none waits, nothing is put there
pub put_none : (r : Recorded) (reply : Reply) → r.sent ≡ None → put r reply ≡ r
put_none r reply e = rw e refl
