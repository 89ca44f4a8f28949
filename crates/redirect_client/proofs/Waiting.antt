-- Where no slot has one node as the target twice, an ASK counts however long its client waits.
use Rattle.std.proofs.Common.{◌≡◌, ℕ, ◌<◌, ◌≤◌, Bool, true, false, ◌⊎◌, List, [], ◌∷◌, ◌++◌, length, Option, refl, sym, ap, subst, ◌∙◌, inl, inr, arith}
use Rattle.std.specs.List.{AllByRecursion}
use Rattle.std.proofs.lemmas.Bool.{cases_Bool, true≢false}
use Rattle.resp2_wire.specs.declared.reply.Reply.{Reply}
use Rattle.store_commands.specs.Store.{Key}
use Rattle.client_commands.specs.Commands.{keys}
use Rattle.client_commands.specs.declared.command.Command.{Command}
use Rattle.slot_marks.specs.Verdicts.{first_slot}
use Rattle.slot_marks.specs.declared.verdict.Verdict.TheVariants.{Ask}
use Rattle.cluster_node.specs.Nodes.{client_reply, is_serve}
use Rattle.cluster_node.specs.Redirections.{redirection}
use Rattle.cluster_world.specs.Worlds.{World, node_at, verdict}
use Rattle.cluster_world.specs.Steps.{Run, after}
use Rattle.cluster_world.specs.Serving.{is_redirection}
use Rattle.cluster_world.specs.Ports.{Send}
use Rattle.cluster_world.specs.Honesty.{IsNoImport, IsAsk}
use Rattle.cluster_world.specs.declared.event.Event.{Event}
use Rattle.cluster_world.specs.declared.event.Event.TheVariants.{Client, Look, Admin}
use Rattle.cluster_world.proofs.Searching.{world_port}
use Rattle.cluster_world.proofs.Telling.{answered, redirect_told}
use Rattle.plan_semantics.specs.Plans.{final_owner}
use Rattle.reshard_theorem.specs.Reimports.{NoneReimported}
use Rattle.reshard_theorem.proofs.Asks.{told_is_ask}
use Rattle.reshard_theorem.proofs.Clients.{is_serve_Serve, reply_served, reply_told}
use Rattle.reshard_theorem.proofs.Landed.{asks_stand, driven_at_servers}
use Rattle.reshard_theorem.proofs.Retargets.{NamesNodes, names_nodes}
use Rattle.redirect_client.specs.HonestClients.{IsSend, StandIn, AsksNext}
use Rattle.redirect_client.specs.ClientRuns.{ClientsMayWait}
use Rattle.redirect_client.specs.Turns.{slot_of_command}
use Rattle.redirect_client.proofs.Addresses.{place_after}
use Rattle.redirect_client.proofs.Honestly.{EndsByAsk, ask_event, sent_by_ask}
use Rattle.redirect_client.proofs.OneMeaning.{ask_text, same_node}

same_ask : (port s n m : ℕ) → port ≤ 65528 → n < 255 → m < 255
    → redirection port s (Ask n) ≡ redirection port s (Ask m) → n ≡ m
unfolding redirection
same_ask port s n m most a b e = same_node port s n m most a b (ask_text (place_after port s n) (place_after port s m) e)

module _ (port : ℕ) (most : port ≤ 65528) where
  -- the verdict by which an ASK was told names the node of the text
  asked_so : (w : World) (seat x : ℕ) (asking : Bool) (c : Command) (r : Reply) (ks : List Key) (n : ℕ) → w.base_port ≡ port → n < 255
      → ((m : ℕ) → verdict w x asking (keys c) ≡ Ask m → m < 255)
      → r ≡ client_reply w.base_port x (node_at w x) asking c
      → IsAsk port ks n (Client seat x asking c r) → verdict w x asking (keys c) ≡ Ask n
  asked_so w seat x asking c r ks n at below names told ask = elim (cases_Bool (is_serve (verdict w x asking (keys c)))) [
    | inl u ↦ absurd (true≢false (sym (redirect_told port (first_slot ks) (Ask n) refl) ∙ ap is_redirection (sym ask.1 ∙ told ∙ reply_served w x asking c (is_serve_Serve _ u)) ∙ answered _ c))
    | inr u ↦ (
        let text : redirection port (first_slot (keys c)) (verdict w x asking (keys c)) ≡ redirection port (first_slot (keys c)) (Ask n) =
        ap (λ p. redirection p (first_slot (keys c)) (verdict w x asking (keys c))) (sym at) ∙ sym (reply_told w x asking c u) ∙ sym told ∙ ask.1 ∙ ap (λ k. redirection port (first_slot k) (Ask n)) (sym ask.0) in
        let is = told_is_ask port (first_slot (keys c)) (first_slot (keys c)) n (verdict w x asking (keys c)) text in
        is.1 ∙ ap Ask (same_ask port (first_slot (keys c)) is.0 n most (names is.0 is.1) below (ap (redirection port (first_slot (keys c))) (sym is.1) ∙ text)))
  ]

  -- after an ASK by its text no IMPORTING comes
  abbrev TextStands : List Event → Type 0
  TextStands [] = Unit {0}
  TextStands (e ∷ es) =
      ((ks : List Key) (n : ℕ) → n < 255 → IsAsk port ks n e → AllByRecursion (IsNoImport (first_slot ks) n) es) × TextStands es

  module _ (nodes : ℕ) (goal : ℕ → ℕ) (few : nodes ≤ 255) where
    text_stands : (es : List Event) (w last : World) → w.base_port ≡ port → Run w es last → NamesNodes nodes goal w es → NoneReimported w es → TextStands es
    text_stands [] w last at run names none = tt
    text_stands (Client seat x asking c r ∷ es) w last at run names none = (
      λ ks n below ask.
          let v : verdict w x asking (keys c) ≡ Ask n = asked_so w seat x asking c r ks n at below (λ m e. let h = names.1 m e in omega (arith, h, few)) run.0.1 ask in
          subst (λ k. AllByRecursion (IsNoImport (first_slot k) n) es) ask.0 (none.0 n v),
      text_stands es (after w (Client seat x asking c r)) last at run.1 names.2 none.1,
    )
    text_stands (Look seat x r ∷ es) w last at run names none = (λ ks n below ask. absurd ask, text_stands es w last at run.1 names none)
    text_stands (Admin x c r ∷ es) w last at run names none =
        (λ ks n below ask. absurd ask, text_stands es (after w (Admin x c r)) last (world_port (Admin x c r ∷ []) w ∙ at) run.1 names none)

    -- the node of a client's command
    node_named : (es : List Event) (w : World) (seat x : ℕ) (asking : Bool) (c : Command) (r : Reply) (rest : List Event)
        → NamesNodes nodes goal w (es ++ Client seat x asking c r ∷ rest) → x < nodes
    node_named [] w seat x asking c r rest names = names.0
    node_named (Client s y b d q ∷ es) w seat x asking c r rest names = node_named es (after w (Client s y b d q)) seat x asking c r rest names.2
    node_named (Look s y q ∷ es) w seat x asking c r rest names = node_named es w seat x asking c r rest names
    node_named (Admin y d q ∷ es) w seat x asking c r rest names = node_named es (after w (Admin y d q)) seat x asking c r rest names

  front : (P : Event → Type 0) (es fs : List Event) → AllByRecursion P (es ++ fs) → AllByRecursion P es
  front P [] fs all = tt
  front P (e ∷ es) fs all = (all.0, front P es fs all.1)

  -- the sends lie so that no IMPORTING came since
  lies_since : (c : Command) (n : ℕ) → n < 255 → (xs : List Send) (es fs : List Event) → TextStands (es ++ fs) → EndsByAsk port c n xs → StandIn (λ e. Unit {0}) xs es
      → StandIn (IsNoImport (slot_of_command c) n) xs es
  lies_since c n below [] es fs texts ends lies = tt
  lies_since c n below (x ∷ xs) [] fs texts ends lies = lies
  lies_since c n below (x ∷ xs) (e ∷ es) fs texts (inl ask) (inl s) = inl (
    s.0,
    subst (λ l. StandIn (IsNoImport (slot_of_command c) n) l es) (sym ask.1) tt,
    λ none. front (IsNoImport (slot_of_command c) n) es fs (texts.0 (keys c) n below (ask_event port c n x e s.0 ask.0)),
  )
  lies_since c n below (x ∷ xs) (e ∷ es) fs texts (inr ends) (inl s) = inl (s.0, lies_since c n below xs es fs texts.1 ends s.1, λ none. absurd (subst (EndsByAsk port c n) none ends))
  lies_since c n below (x ∷ xs) (e ∷ es) fs texts ends (inr s) = inr (lies_since c n below (x ∷ xs) es fs texts.1 ends s)

pub clients_may_wait : ClientsMayWait
clients_may_wait reshard events last left drives once most few asks so_far later seat n c r is =
    let port : ℕ = reshard.first.base_port in
    let goal : ℕ → ℕ = final_owner reshard.plan reshard.phases in
    let names : NamesNodes (length reshard.first.nodes) goal reshard.first events = names_nodes reshard events last left (driven_at_servers drives) in
    let texts : TextStands port most events = text_stands port most (length reshard.first.nodes) goal few events reshard.first last refl drives.run names (asks_stand reshard events last left drives once) in
    let below : n < length reshard.first.nodes = node_named port most (length reshard.first.nodes) goal few so_far reshard.first seat n true c r later (subst (NamesNodes (length reshard.first.nodes) goal reshard.first) is names) in
    let a : AsksNext (λ e. Unit {0}) port so_far n c = asks so_far later seat n c r is in
    record {
      believed = a.believed;
      sent = a.sent;
      turn = a.turn;
      follows = a.follows;
      lies = lies_since port most c n (omega arith) a.sent so_far (Client seat n true c r ∷ later) (subst (TextStands port most) is texts) (sent_by_ask (λ e. Unit {0}) port so_far n c a) a.lies;
      next = a.next;
    }
