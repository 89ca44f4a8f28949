-- A command that is sent on, send by send.
use Rattle.std.proofs.Common.{◌≡◌, ℕ, ◌+◌, ◌<◌, List, [], ◌∷◌, ◌++◌, length, Result, Ok, Err, refl, sym, ap, subst, ◌∙◌}
use Rattle.std.proofs.Common.{inl, inr, length-append}
use Rattle.resp2_wire.specs.declared.reply.Reply.{Reply}
use Rattle.client_commands.specs.declared.command.Command.{Command}
use Rattle.cluster_world.specs.Ports.{Answer, Send, Chain}
use Rattle.redirect_client.specs.ClientView.{ClientView}
use Rattle.redirect_client.specs.Redirects.{IsRedirection, IsKnown, Means}
use Rattle.redirect_client.specs.Turns.{Turn, call_to, slot_of_command, owners_after, destination, turn_after}
use Rattle.redirect_client.specs.Turns.{IsRedirected, IsThere}
use Rattle.redirect_client.specs.Executions.{Follows, first_turn, IsEnd, Executes}
use Rattle.redirect_client.specs.declared.meaning.Redirect.{Redirect}
use Rattle.redirect_client.specs.declared.meaning.Redirect.TheVariants.{Moved, Ask, TryAgain}
use Rattle.redirect_client.specs.declared.meaning.Meaning.{Meaning}
use Rattle.redirect_client.specs.declared.meaning.Destination.{Destination}
use Rattle.redirect_client.specs.declared.client_fault.ClientFault.{ClientFault}
use Rattle.redirect_client.specs.declared.client_fault.ClientFault.TheVariants.{TooManySends}

pub chain_more : {P : Type 0} (sends : P → Send → P → Type 0) (first mid last : P) (xs : List Send) (x : Send) → Chain sends first xs mid → sends mid x last → Chain sends first (xs ++ x ∷ []) last
chain_more sends first mid last [] x h s = (last, subst (λ p. sends p x last) (sym h) s, refl)
chain_more sends first mid last (y ∷ ys) x h s = (h.0, h.1, chain_more sends h.0 mid last ys x h.2 s)

abbrev pub turn_of : ClientView → Destination → Turn
turn_of client next = record { owners = client.owners; next = next }

-- what was sent of a command before the turn that comes next
pub record SoFar {P : Type 0} (sends : P → Send → P → Type 0) (first now : P) (client client' : ClientView) (next : Destination) (c : Command) (count : ℕ) : Type 0 where
  pub sent : List Send
  pub count_is : length sent ≡ count
  pub chain : Chain sends first sent now
  pub follows : Follows client.base_port c client.owners sent (turn_of client' next)
  pub port_is : client'.base_port ≡ client.base_port
  pub nodes_are : client'.owners.nodes ≡ client.owners.nodes
  pub there : IsThere client'.owners.nodes next

there_known : (nodes : ℕ) (x : Redirect) → IsKnown nodes x → IsThere nodes (destination x)
there_known nodes (Moved n) h = tt
there_known nodes (Ask n) h = h
there_known nodes TryAgain h = tt

nodes_learned : (client : ClientView) (s : ℕ) (x : Redirect) → (owners_after client.owners s x).nodes ≡ client.owners.nodes
nodes_learned client s (Moved n) = refl
nodes_learned client s (Ask n) = refl
nodes_learned client s TryAgain = refl

view_is : (client client' : ClientView) → client'.base_port ≡ client.base_port → client' ≡ record client { owners = client'.owners }
view_is client client' e = λ i. record { owners = client'.owners; base_port = e i }

module _ {P : Type 0} (sends : P → Send → P → Type 0) (first now : P) (client client' : ClientView) (next : Destination) (c : Command) (count : ℕ) (so_far : SoFar sends first now client client' next c count) where
  pub ended_many : count ≡ 16 → Executes (record { sends = sends; before = first; after = now }) client c (Err TooManySends) client'
  ended_many e = record {
    redirected = so_far.sent;
    turn = turn_of client' next;
    mid = now;
    chain = so_far.chain;
    follows = so_far.follows;
    ends = inl (so_far.count_is ∙ e, refl, refl);
    keeps = view_is client client' so_far.port_is;
  }

  pub ended_by : (last : P) (answer : Answer) (result : Result Reply ClientFault) → count < 16
      → sends now (record { call = call_to c client'.owners.owners next; answer = answer }) last
      → IsEnd client'.base_port client'.owners.nodes (slot_of_command c) answer result
      → Executes (record { sends = sends; before = first; after = last }) client c result client'
  ended_by last answer result few sent end = record {
    redirected = so_far.sent;
    turn = turn_of client' next;
    mid = now;
    chain = so_far.chain;
    follows = so_far.follows;
    ends = inr (
      answer,
      subst (λ n. n < 16) (sym so_far.count_is) few,
      sent,
      subst (λ p. IsEnd p client'.owners.nodes (slot_of_command c) answer result) so_far.port_is end,
    );
    keeps = view_is client client' so_far.port_is;
  }

  pub goes_on : (last : P) (r : Reply) (x : Redirect) (client'' : ClientView) (next' : Destination)
      → sends now (record { call = call_to c client'.owners.owners next; answer = Ok r }) last
      → IsRedirection client'.base_port client'.owners.nodes (slot_of_command c) r x
      → client'' ≡ record client' { owners = owners_after client'.owners (slot_of_command c) x } → next' ≡ destination x
      → SoFar sends first last client client'' next' c (count + 1)
  goes_on last r x client'' next' sent meaning e d =
      subst (λ v. SoFar sends first last client v next' c (count + 1)) (sym e)
      (subst (λ n. SoFar sends first last client after n c (count + 1)) (sym d) on)
    where
      after : ClientView
      after = record client' { owners = owners_after client'.owners (slot_of_command c) x }

      on : SoFar sends first last client (record client' { owners = owners_after client'.owners (slot_of_command c) x }) (destination x) c (count + 1)
      on = record {
        sent = so_far.sent ++ record { call = call_to c client'.owners.owners next; answer = Ok r } ∷ [];
        count_is = length-append so_far.sent (record { call = call_to c client'.owners.owners next; answer = Ok r } ∷ []) ∙ ap (λ n. n + 1) so_far.count_is;
        chain = chain_more sends first now last so_far.sent (record { call = call_to c client'.owners.owners next; answer = Ok r }) so_far.chain sent;
        follows = chain_more (IsRedirected client.base_port c) (first_turn client.owners) (turn_of client' next) (turn_after c (turn_of client' next) x) so_far.sent
            (record { call = call_to c client'.owners.owners next; answer = Ok r }) so_far.follows (record {
              reply = r;
              redirect = x;
              sent = refl;
              answer = refl;
              meaning = subst (λ p. IsRedirection p client'.owners.nodes (slot_of_command c) r x) so_far.port_is meaning;
              on = refl;
            });
        port_is = so_far.port_is;
        nodes_are = nodes_learned client' (slot_of_command c) x ∙ so_far.nodes_are;
        there = subst (λ n. IsThere n (destination x)) (sym (nodes_learned client' (slot_of_command c) x)) (there_known client'.owners.nodes x meaning.known);
      }

pub means_same : (p p' n n' s s' : ℕ) (r : Reply) (t : Meaning) → p ≡ p' → n ≡ n' → s ≡ s' → Means p n s r t → Means p' n' s' r t
means_same p p' n n' s s' r t e f h meaning = subst (λ k. Means k n' s' r t) e (subst (λ k. Means p k s' r t) f (subst (λ k. Means p n k r t) h meaning))
