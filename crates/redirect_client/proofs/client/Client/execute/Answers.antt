use Rattle.std.proofs.Common.{[], ℕ, ◌≡◌, refl, ap, ◌∙◌, ◌≤◌, subst, arith, Ok, Err, inl, inr}
use Rattle.std.proofs.lemmas.Result.{err_from_is_err_and}
use Rattle.redirect_client.specs.ClientView.{ClientView}
use Rattle.redirect_client.specs.Turns.{owners_after}
use Rattle.redirect_client.specs.declared.meaning.Redirect.{Redirect}
use Rattle.redirect_client.specs.declared.client_fault.ClientFault.TheVariants.{Port, BadRedirect}
use Rattle.redirect_client.specs.declared.meaning.Meaning.TheVariants.{Answer, Redirected, Bad}
use Rattle.redirect_client.proofs.Following.{ended_many, ended_by, goes_on, means_same}
use Rattle.redirect_client.proofs.client.Client.execute.Goals as goal

pub loop-init : goal.loop-init
loop-init g c = record {
  kept = refl;
  so_far = record { sent = []; count_is = refl; chain = refl; follows = refl; port_is = refl; nodes_are = refl; there = tt };
}

fewer : (a b k m : ℕ) → a ≡ b → k ≡ m → b ≤ m → a ≤ k
fewer a b k m e f h = omega arith

pub send-requires-clause-nodes : goal.send-requires-clause-nodes
send-requires-clause-nodes g c =
    fewer c.loop.self.owners.nodes c.args.self.now.owners.nodes (g.P.NodeCount.count c.loop.port)
    (g.P.NodeCount.count c.args.port.now) c.loop.invariant.so_far.nodes_are c.loop.invariant.kept c.requires

pub send-requires-clause-there : goal.send-requires-clause-there
send-requires-clause-there g c = c.loop.invariant.so_far.there

pub returns-in_err-reply-clause-executes : goal.returns-in_err-reply-clause-executes
returns-in_err-reply-clause-executes g c =
    let p = err_from_is_err_and c.from_residual.result c.from_residual.ensures.1 in
    rw (p.1, p.2)
    (ended_by g.P.NodePort.sends c.args.port.now c.loop.port c.args.self.now c.loop.self c.loop.next c.args.command.now
    c.loop.counter c.loop.invariant.so_far c.send.new.port (Err c.in_err-reply.field-0.0)
    (Err (Port c.in_err-reply.field-0.0)) c.loop-test.true c.in_err-reply.ensures.sends refl)

pub returns-in_err-reply-clause-count : goal.returns-in_err-reply-clause-count
returns-in_err-reply-clause-count g c = c.in_err-reply.ensures.count ∙ c.loop.invariant.kept

pub returns-in-Answer-clause-executes : goal.returns-in-Answer-clause-executes
returns-in-Answer-clause-executes g c =
    ended_by g.P.NodePort.sends c.args.port.now c.loop.port c.args.self.now c.loop.self c.loop.next c.args.command.now
    c.loop.counter c.loop.invariant.so_far c.send.new.port (Ok c.in_ok-reply.reply) (Ok c.in_ok-reply.reply)
    c.loop-test.true c.in_ok-reply.ensures.sends
    (inl (
      means_same c.self.inside.base_port c.loop.self.base_port c.nodes.result c.loop.self.owners.nodes
          c.slot_of_command-slot.result _ c.in_ok-reply.reply Answer (ap (λ (v : ClientView). v.base_port) c.self.view_is)
          (c.nodes.ensures.value ∙ ap (λ (v : ClientView). v.owners.nodes) c.self.view_is) c.slot_of_command-slot.ensures
          c.in-Answer.ensures,
      refl,
    ))

pub returns-in-Answer-clause-count : goal.returns-in-Answer-clause-count
returns-in-Answer-clause-count g c = c.in_ok-reply.ensures.count ∙ c.loop.invariant.kept

pub returns-in-Bad-clause-executes : goal.returns-in-Bad-clause-executes
returns-in-Bad-clause-executes g c =
    ended_by g.P.NodePort.sends c.args.port.now c.loop.port c.args.self.now c.loop.self c.loop.next c.args.command.now
    c.loop.counter c.loop.invariant.so_far c.send.new.port (Ok c.in_ok-reply.reply) (Err BadRedirect) c.loop-test.true
    c.in_ok-reply.ensures.sends
    (inr (
      means_same c.self.inside.base_port c.loop.self.base_port c.nodes.result c.loop.self.owners.nodes
          c.slot_of_command-slot.result _ c.in_ok-reply.reply Bad (ap (λ (v : ClientView). v.base_port) c.self.view_is)
          (c.nodes.ensures.value ∙ ap (λ (v : ClientView). v.owners.nodes) c.self.view_is) c.slot_of_command-slot.ensures
          c.in-Bad.ensures,
      refl,
    ))

pub returns-in-Bad-clause-count : goal.returns-in-Bad-clause-count
returns-in-Bad-clause-count g c = c.in_ok-reply.ensures.count ∙ c.loop.invariant.kept

slot_learned : (client client' : ClientView) (n s : ℕ) (x : Redirect) → client' ≡ record client { owners = owners_after client.owners n x } → n ≡ s
    → client' ≡ record client { owners = owners_after client.owners s x }
slot_learned client client' n s x e h = subst (λ k. client' ≡ record client { owners = owners_after client.owners k x }) h e

pub loop-preserved : goal.loop-preserved
loop-preserved g c = record {
  kept = c.in_ok-reply.ensures.count ∙ c.loop.invariant.kept;
  so_far = goes_on g.P.NodePort.sends c.args.port.now c.loop.port c.args.self.now c.loop.self c.loop.next
      c.args.command.now c.loop.counter c.loop.invariant.so_far c.send.new.port c.in_ok-reply.reply
      c.in-Redirected.redirect c.learn-next.new.self c.learn-next.result c.in_ok-reply.ensures.sends
      (means_same c.self.inside.base_port c.loop.self.base_port c.nodes.result c.loop.self.owners.nodes
      c.slot_of_command-slot.result _ c.in_ok-reply.reply (Redirected c.in-Redirected.redirect)
      (ap (λ (v : ClientView). v.base_port) c.self.view_is)
      (c.nodes.ensures.value ∙ ap (λ (v : ClientView). v.owners.nodes) c.self.view_is) c.slot_of_command-slot.ensures
      c.in-Redirected.ensures)
      (slot_learned c.loop.self c.learn-next.new.self c.slot_of_command-slot.result _ c.in-Redirected.redirect
      c.learn-next.ensures.learned c.slot_of_command-slot.ensures) c.learn-next.ensures.next;
}

pub returns-clause-executes : goal.returns-clause-executes
returns-clause-executes g c =
    ended_many g.P.NodePort.sends c.args.port.now c.loop.port c.args.self.now c.loop.self c.loop.next c.args.command.now
    c.loop.counter c.loop.invariant.so_far (full c.loop.counter c.loop.auto.counter-end c.loop-test.false)
  where
    full : (n : ℕ) → n ≤ 16 → 16 ≤ n → n ≡ 16
    full n h k = omega arith

pub returns-clause-count : goal.returns-clause-count
returns-clause-count g c = c.loop.invariant.kept

pub returns-in_err-reply-clause-nodes : goal.returns-in_err-reply-clause-nodes
returns-in_err-reply-clause-nodes g c = c.loop.invariant.so_far.nodes_are

pub returns-in-Answer-clause-nodes : goal.returns-in-Answer-clause-nodes
returns-in-Answer-clause-nodes g c = c.loop.invariant.so_far.nodes_are

pub returns-in-Bad-clause-nodes : goal.returns-in-Bad-clause-nodes
returns-in-Bad-clause-nodes g c = c.loop.invariant.so_far.nodes_are

pub returns-clause-nodes : goal.returns-clause-nodes
returns-clause-nodes g c = c.loop.invariant.so_far.nodes_are
