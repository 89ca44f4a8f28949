-- A client's call that a recorded world has answered is put on its trail.
use Rattle.std.proofs.Common.{◌≡◌, ℕ, Bool, true, false, List, [], ◌∷◌, ◌++◌, None, refl, sym, ap, ◌∙◌, Ok}
use Rattle.key_slots.specs.Owners.{Owners, IsTable}
use Rattle.cluster_world.specs.Worlds.{World}
use Rattle.cluster_world.specs.WorldView.{new_world}
use Rattle.cluster_world.specs.Steps.{action_of, Answers, IsCall, Run, after}
use Rattle.cluster_world.specs.declared.event.Event.{Event}
use Rattle.cluster_world.specs.Recorded.{Recorded, AreCalls, IsRecord, Puts, begun, put, held, sent_event}
use Rattle.cluster_world.proofs.Recording.{put_held, put_none, recorded}
use Rattle.cluster_world.specs.declared.recorded.Sent.{Sent as Waiting}
use Rattle.resp2_wire.specs.declared.reply.Reply.{Reply}
use Rattle.resp2_wire.specs.Stream.{Words}
use Rattle.cluster_world.specs.Ports.{Chain}
use Rattle.cluster_world.specs.declared.event.Event.TheVariants as event
use Rattle.node_session.specs.Talk.{Exchange, Lent, Sent, Looked, Unsent, Told, request_of, answer_of, IsExchange, sent_of}
use Rattle.node_session.specs.Talk.{Answers as Talked}
use Rattle.rehearsal.specs.Answering.{IsReply, IsReplied, is_unknown, put_at}
use Rattle.cluster_world.specs.RecordedPorts.{IsHeld}
use Rattle.cluster_world.specs.declared.recorded.Sent.TheVariants as waiting

-- ---- a client's call

module _ (r mid next : Recorded) (node : ℕ) (asking : Bool) (request : Words) (reply : Reply) (k : IsRecord r)
    (e : next ≡ put mid reply) where
  -- the world as it was asked, before its call is put on the trail
  abbrev held_at : Lent Recorded
  held_at = record { sends = IsHeld; node = node; before = r; after = mid }

  exchanged : (x : Exchange) → request_of x ≡ request → answer_of x ≡ Ok reply → IsExchange x
      → Chain IsHeld r (sent_of node asking x) mid
      → Talked (put_at r node next) asking request (Ok reply) × IsRecord next
  exchanged (Sent q c a) f g h (m, sends, last) =
      let s = rw g at sends in
      let p : Puts r (event.Client 0 node asking c reply) next = (
        tt,
        s.0,
        e ∙ ap (λ (x : Recorded). put x reply) (sym last)
            ∙ put_held r m (waiting.Command node asking c) reply s.1,
      ) in
      ((Sent q c a, f, g, h, (next, rw g p, refl)), recorded r next (event.Client 0 node asking c reply) k p)
  exchanged (Looked q a) f g h (m, sends, last) =
      let s = rw g at sends in
      let p : Puts r (event.Look 0 node reply) next =
      (tt, s.0, e ∙ ap (λ (x : Recorded). put x reply) (sym last) ∙ put_held r m (waiting.Look node) reply s.1) in
      ((Looked q a, f, g, h, (next, rw g p, refl)), recorded r next (event.Look 0 node reply) k p)
  exchanged (Unsent q a) f g h last =
      let same : next ≡ r = e ∙ ap (λ (x : Recorded). put x reply) (sym last) ∙ put_none r reply k.none_waits in
      ((Unsent q a, f, g, h, sym same), rw same k)
  exchanged (Told q a) f g h last = absurd h

  replied : (unknown : Bool) → IsReply unknown held_at asking request reply
      → IsReply unknown (put_at r node next) asking request reply × IsRecord next
  replied true (is, same) =
      let all : next ≡ r = e ∙ ap (λ (x : Recorded). put x reply) same ∙ put_none r reply k.none_waits in
      ((is, all), rw all k)
  replied false (x, f, g, h, chain) = exchanged x f g h chain

  pub answered : IsReplied held_at asking request (Ok reply)
      → IsReplied (put_at r node next) asking request (Ok reply) × IsRecord next
  answered p = replied (is_unknown request) p
