-- Of the sends of one command at most one is served.
use Rattle.std.proofs.Common.{◌≡◌, ◌∙◌, ◌≤◌, ℕ, Bool, true, false, cond, List, [], ◌∷◌, ◌++◌, Result, Ok, Err, refl}
use Rattle.std.proofs.Common.{sym, ap, append-nil, subst, inl, inr, length, arith}
use Rattle.client_commands.specs.declared.command.Command.{Command}
use Rattle.cluster_node.specs.Redirections.{redirection}
use Rattle.cluster_world.proofs.Chained.{sends_are_runs}
use Rattle.cluster_world.specs.Ports.{Answer, Chain, Execute, IsSent, Send}
use Rattle.cluster_world.specs.Sends.{event_of, events_of}
use Rattle.cluster_world.specs.Serving.{is_redirection, served}
use Rattle.cluster_world.specs.Steps.{Run}
use Rattle.cluster_world.specs.Worlds.{World}
use Rattle.cluster_world.specs.declared.event.Event.{Event}
use Rattle.cluster_world.specs.declared.event.Event.TheVariants.{Client}
use Rattle.resp2_wire.specs.declared.reply.Reply.{Reply}
use Rattle.redirect_client.specs.Executions.{Ends, IsEnd, last_send}
use Rattle.redirect_client.specs.Redirects.{BeginsRedirection, verdict_of}
use Rattle.redirect_client.specs.Turns.{IsRedirected, Turn, call_of, slot_of_command}
use Rattle.redirect_client.specs.WorldExecutions.{ServedAtMostOnce, served_by}
use Rattle.redirect_client.specs.declared.client_fault.ClientFault.{ClientFault}
use Rattle.redirect_client.specs.declared.meaning.Redirect.{Redirect}
use Rattle.redirect_client.specs.declared.meaning.Redirect.TheVariants.{Moved, Ask, TryAgain}
use Rattle.redirect_client.proofs.Following.{chain_more}
use Rattle.redirect_client.proofs.Honestly.{call_is}

-- a redirection's text is none of a served command
redirects : (port s : ℕ) (x : Redirect) → is_redirection (redirection port s (verdict_of x)) ≡ true
unfolding is_redirection redirection
redirects port s (Moved n) = refl
redirects port s (Ask n) = refl
redirects port s TryAgain = refl

-- nor is that of a bad one
bad_redirects : (r : Reply) → BeginsRedirection r → is_redirection r ≡ true
unfolding is_redirection
bad_redirects r (inl (rest, is)) = ap is_redirection is
bad_redirects r (inr (rest, is)) = ap is_redirection is

-- the event of a command that a redirection answered adds nothing that was served
not_served : (n : ℕ) (a : Bool) (c : Command) (r : Reply) (es : List Event) → is_redirection r ≡ true
    → served (Client 0 n a c r ∷ es) ≡ served es
not_served n a c r es is = ap (λ b. cond b (served es) ((c, r) ∷ served es)) is

module _ (port : ℕ) (c : Command) where
  first_not_served : (t : Turn) (x : Send) (u : Turn) (es : List Event) → IsRedirected port c t x u
      → served (event_of 0 x.call x.answer ++ es) ≡ served es
  first_not_served t x u es is =
      let call = call_is c t.owners.owners t.next in
      let sends = is.sent ∙ call.2 in
      let text = ap is_redirection is.meaning.text ∙ redirects port _ is.redirect in
      ap served (λ i. event_of 0 (sends i) (is.answer i) ++ es) ∙ not_served call.0 call.1 c is.reply es text

  none_served : (xs : List Send) (t u : Turn) → Chain (IsRedirected port c) t xs u → served (events_of 0 xs) ≡ []
  none_served [] t u chain = refl
  none_served (x ∷ xs) t u chain =
      first_not_served t x chain.0 (events_of 0 xs) chain.1 ∙ none_served xs chain.0 u chain.2

  one_at_most : (b : Bool) (r : Reply) → length {A = Command × Reply} (cond b [] ((c, r) ∷ [])) ≤ 1
  one_at_most true r = omega arith
  one_at_most false r = omega arith

  last_served : (n : ℕ) (a : Bool) (answer : Answer) → length (served (event_of 0 (Execute n a c) answer ++ [])) ≤ 1
  last_served n a (Ok r) = one_at_most (is_redirection r) r
  last_served n a (Err f) = omega arith

  once_served : (xs : List Send) (t u : Turn) (answer : Answer) → Chain (IsRedirected port c) t xs u
      → length (served (events_of 0 (xs ++ record { call = call_of c u; answer = answer } ∷ []))) ≤ 1
  once_served [] t u answer chain =
      let call = call_is c u.owners.owners u.next in
      subst (λ k. length (served (event_of 0 k answer ++ [])) ≤ 1) (sym call.2) (last_served call.0 call.1 answer)
  once_served (x ∷ xs) t u answer chain =
      let more : List Event = events_of 0 (xs ++ record { call = call_of c u; answer = answer } ∷ []) in
      subst (λ l. length l ≤ 1) (sym (first_not_served t x chain.0 more chain.1))
      (once_served xs chain.0 u answer chain.2)

  -- what was served is what the last send was answered
  served_last : (xs : List Send) (t u : Turn) (answer : Answer) → Chain (IsRedirected port c) t xs u
      → served (events_of 0 (xs ++ record { call = call_of c u; answer = answer } ∷ []))
      ≡ served (event_of 0 (call_of c u) answer ++ [])
  served_last [] t u answer chain = refl
  served_last (x ∷ xs) t u answer chain =
      first_not_served t x chain.0 (events_of 0 (xs ++ record { call = call_of c u; answer = answer } ∷ [])) chain.1
      ∙ served_last xs chain.0 u answer chain.2

  -- and that is what the client answers
  last_is : (nodes n : ℕ) (a : Bool) (answer : Answer) (result : Result Reply ClientFault)
      → IsEnd port nodes (slot_of_command c) answer result
      → served (event_of 0 (Execute n a c) answer ++ []) ≡ served_by c result
  last_is nodes n a (Ok r) result (inl (means, is)) = ap (served_by c) (sym is)
  last_is nodes n a (Ok r) result (inr (means, is)) =
      ap (λ b. cond b [] ((c, r) ∷ [])) (bad_redirects r means.0) ∙ ap (served_by c) (sym is)
  last_is nodes n a (Err f) result is = ap (served_by c) (sym is)

-- the sends lead from the one world to the other, at most one of them was served, and its reply is the client's answer
abbrev IsOnce : (first last : World) → Command → Result Reply ClientFault → List Send → Type 0
IsOnce first last c result sends =
    Run first (events_of 0 sends) last × (length (served (events_of 0 sends)) ≤ 1)
    × (served (events_of 0 sends) ≡ served_by c result)

pub served_at_most_once : ServedAtMostOnce
served_at_most_once first client c result last client' x = by_ends x.ends
  where
    by_ends : (e : Ends (record { sends = IsSent; before = x.mid; after = last }) client.base_port c
        (length x.redirected) x.turn result)
        → IsOnce first last c result (x.redirected
        ++ last_send (record { sends = IsSent; before = x.mid; after = last }) client.base_port c (length x.redirected)
        x.turn result e)
    by_ends (inl e) =
        let none : served (events_of 0 x.redirected) ≡ [] =
        none_served client.base_port c x.redirected _ x.turn x.follows in
        subst (IsOnce first last c result) (sym (append-nil x.redirected)) (
          ((sends_are_runs first x.redirected last).0
              (subst (λ w. Chain IsSent first x.redirected w) (sym e.2) x.chain)).1,
          subst (λ l. length l ≤ 1) (sym none) (omega arith),
          none ∙ ap (served_by c) (sym e.1),
        )
    by_ends (inr e) =
        let end : Send = record { call = call_of c x.turn; answer = e.0 } in
        let all : List Send = x.redirected ++ record { call = call_of c x.turn; answer = e.0 } ∷ [] in
        let call = call_is c x.turn.owners.owners x.turn.next in (
          ((sends_are_runs first all last).0
              (chain_more IsSent first x.mid last x.redirected end x.chain e.2)).1,
          once_served client.base_port c x.redirected _ x.turn e.0 x.follows,
          served_last client.base_port c x.redirected _ x.turn e.0 x.follows
              ∙ subst (λ k. served (event_of 0 k e.0 ++ []) ≡ served_by c result) (sym call.2)
              (last_is client.base_port c x.turn.owners.nodes call.0 call.1 e.0 result e.3),
        )
