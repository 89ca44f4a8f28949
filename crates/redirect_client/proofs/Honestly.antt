-- ASKING that comes from clients is earned.
use Rattle.std.proofs.Common.{◌≡◌, ℕ, Bool, true, false, ◌⊎◌, List, [], ◌∷◌, ◌++◌, Ok, refl, sym, ap, subst, ◌∙◌, inl, inr}
use Rattle.resp2_wire.specs.declared.reply.Reply.{Reply}
use Rattle.client_commands.specs.Commands.{keys}
use Rattle.client_commands.specs.declared.command.Command.{Command}
use Rattle.slot_marks.specs.declared.verdict.Verdict.TheVariants as verdict
use Rattle.cluster_node.specs.Redirections.{redirection}
use Rattle.cluster_world.specs.Worlds.{World}
use Rattle.cluster_world.specs.Ports.{Answer, Execute, Send, Chain}
use Rattle.cluster_world.specs.Ports as call
use Rattle.store_commands.specs.Store.{Key}
use Rattle.slot_marks.specs.Verdicts.{first_slot}
use Rattle.std.specs.List.{AllByRecursion}
use Rattle.cluster_world.specs.Honesty.{WasAsked, IsAsk, IsNoImport, IsEarned, Honest, past_of}
use Rattle.cluster_world.specs.Earning.{world_after}
use Rattle.cluster_world.specs.declared.event.Event.{Event}
use Rattle.cluster_world.specs.declared.event.Event.TheVariants.{Client, Look, Admin}
use Rattle.cluster_world.proofs.Earning.{honest_by_each}
use Rattle.cluster_world.proofs.Searching.{world_port}
use Rattle.reshard_theorem.proofs.Landed.{headline_holds}
use Rattle.redirect_client.specs.Redirects.{IsRedirection}
use Rattle.redirect_client.specs.Turns.{Turn, call_to, slot_of_command, destination, IsRedirected}
use Rattle.redirect_client.specs.HonestClients.{IsSend, StandIn, AsksNext, AsksByClients, ClientsAreHonest}
use Rattle.redirect_client.specs.ClientRuns.{HeadlineOfClients}
use Rattle.redirect_client.specs.declared.meaning.Redirect.{Redirect}
use Rattle.redirect_client.specs.declared.meaning.Redirect.TheVariants.{Moved, Ask, TryAgain}
use Rattle.redirect_client.specs.declared.meaning.Destination.{Destination}
use Rattle.redirect_client.specs.declared.meaning.Destination.TheVariants.{Owner, Asked}

-- the send was answered by an ASK to the node
abbrev pub IsAnswered : (port : ℕ) → Command → ℕ → Send → Type 0
IsAnswered port c n x = (m : ℕ) × (b : Bool) × (x.call ≡ Execute m b c) × (x.answer ≡ Ok (redirection port (slot_of_command c) (verdict.Ask n)))

-- ---- who asks was sent by an ASK

pub call_is : (c : Command) (owners : List ℕ) (next : Destination) → (m : ℕ) × (b : Bool) × (call_to c owners next ≡ Execute m b c)
call_is c owners Owner = (_, false, refl)
call_is c owners (Asked n) = (n, true, refl)

ask_of : (n : ℕ) (x : Redirect) → destination x ≡ Asked n → x ≡ Ask n
ask_of n (Moved m) e = cc
ask_of n (Ask m) e = cc
ask_of n TryAgain e = cc

one_ask : (port : ℕ) (c : Command) (n : ℕ) (t : Turn) (x : Send) (u : Turn) → IsRedirected port c t x u → u.next ≡ Asked n → IsAnswered port c n x
one_ask port c n t x u is e =
    let ask : is.redirect ≡ Ask n = ask_of n is.redirect (sym (ap (λ (v : Turn). v.next) is.on) ∙ e) in
    let call = call_is c t.owners.owners t.next in
    let meaning : IsRedirection port t.owners.nodes (slot_of_command c) is.reply (Ask n) = subst (λ r. IsRedirection port t.owners.nodes (slot_of_command c) is.reply r) ask is.meaning in
    (call.0, call.1, is.sent ∙ call.2, is.answer ∙ ap Ok meaning.text)

-- the last of the sends was answered by an ASK to the node
abbrev pub EndsByAsk : (port : ℕ) → Command → ℕ → List Send → Type 0
EndsByAsk port c n [] = ⊥
EndsByAsk port c n (x ∷ xs) = (IsAnswered port c n x × (xs ≡ [])) ⊎ EndsByAsk port c n xs

ends_by_ask : (port : ℕ) (c : Command) (n : ℕ) (xs : List Send) (t u : Turn) → Chain (IsRedirected port c) t xs u → u.next ≡ Asked n
    → ((xs ≡ []) × (t.next ≡ Asked n)) ⊎ EndsByAsk port c n xs
ends_by_ask port c n [] t u h e = inl (refl, ap (λ (v : Turn). v.next) h ∙ e)
ends_by_ask port c n (x ∷ xs) t u h e = elim (ends_by_ask port c n xs h.0 u h.2 e) [
  | inl here ↦ inr (inl (one_ask port c n t x h.0 h.1 here.1, here.0))
  | inr later ↦ inr (inr later)
]

-- ---- the ASK stands in the run

same_command : (m k : ℕ) (a b : Bool) (c d : Command) → Execute m a c ≡ Execute k b d → c ≡ d
same_command m k a b c d e = cc

same_reply : (r s : Reply) → ◌≡◌ {A = Answer} (Ok r) (Ok s) → r ≡ s
same_reply r s e = cc

no_look : (m k : ℕ) (b : Bool) (c : Command) → call.Look m ≡ Execute k b c → ⊥
no_look m k b c e = cc

call_of_send : (x y : Send) → x ∷ [] ≡ y ∷ [] → x.call ≡ y.call
call_of_send x y e = ap (λ (z : Send). z.call) (head_is x y e)
  where
    head_is : (x y : Send) → ◌≡◌ {A = List Send} (x ∷ []) (y ∷ []) → x ≡ y
    head_is x y e = cc

answer_of_send : (x y : Send) → x ∷ [] ≡ y ∷ [] → x.answer ≡ y.answer
answer_of_send x y e = ap (λ (z : Send). z.answer) (head_is x y e)
  where
    head_is : (x y : Send) → ◌≡◌ {A = List Send} (x ∷ []) (y ∷ []) → x ≡ y
    head_is x y e = cc

-- the event of a send that an ASK answered
pub ask_event : (port : ℕ) (c : Command) (n : ℕ) (x : Send) (e : Event) → IsSend x e → IsAnswered port c n x → IsAsk port (keys c) n e
ask_event port c n x (Client seat m b d r) is h =
    let sent : Send = record { call = Execute m b d; answer = Ok r } in (
      ap keys (same_command m h.0 b h.1 d c (call_of_send sent x is ∙ h.2)),
      same_reply r (redirection port (slot_of_command c) (verdict.Ask n)) (answer_of_send sent x is ∙ h.3),
    )
ask_event port c n x (Look seat m r) is h =
    absurd (no_look m h.0 h.1 c (call_of_send (record { call = call.Look m; answer = Ok r }) x is ∙ h.2))
ask_event port c n x (Admin m d r) is h = absurd (nothing is)
  where
    nothing : ◌≡◌ {A = List Send} [] (x ∷ []) → ⊥
    nothing e = cc

module _ (port : ℕ) (ks : List Key) (n : ℕ) where
  -- an ASK counts as long as no IMPORTING comes
  still_counts : (es past : List Event) → AllByRecursion (IsNoImport (first_slot ks) n) es → WasAsked port past ks n → WasAsked port (past_of past es) ks n
  still_counts [] past none asked = asked
  still_counts (e ∷ es) past none asked = still_counts es (e ∷ past) none.1 (inr (none.0, asked))

asked_in : (port : ℕ) (c : Command) (n : ℕ) (xs : List Send) (es past : List Event) → StandIn (IsNoImport (slot_of_command c) n) xs es → EndsByAsk port c n xs
    → WasAsked port (past_of past es) (keys c) n
asked_in port c n [] es past s h = absurd h
asked_in port c n (x ∷ xs) [] past s h = absurd s
asked_in port c n (x ∷ xs) (e ∷ es) past (inl s) (inl h) = still_counts port (keys c) n es (e ∷ past) (s.2 h.1) (inl (ask_event port c n x e s.0 h.0))
asked_in port c n (x ∷ xs) (e ∷ es) past (inl s) (inr h) = asked_in port c n xs es (e ∷ past) s.1 h
asked_in port c n (x ∷ xs) (e ∷ es) past (inr s) h = asked_in port c n (x ∷ xs) es (e ∷ past) s h

-- ---- so ASKING is earned

asks_where : (c : Command) (owners : List ℕ) (next : Destination) (n : ℕ) → call_to c owners next ≡ Execute n true c → next ≡ Asked n
asks_where c owners Owner n e = absurd (not_asking _ n e)
  where
    not_asking : (m n : ℕ) → Execute m false c ≡ Execute n true c → ⊥
    not_asking m n e = cc
asks_where c owners (Asked m) n e = ap Asked (same m n e)
  where
    same : (m n : ℕ) → Execute m true c ≡ Execute n true c → m ≡ n
    same m n e = cc

-- a client that asks was sent by an ASK
pub sent_by_ask : (P : Event → Type 0) (port : ℕ) (es : List Event) (n : ℕ) (c : Command) (a : AsksNext P port es n c) → EndsByAsk port c n a.sent
sent_by_ask P port es n c a =
    elim (ends_by_ask port c n a.sent (record { owners = a.believed; next = Owner }) a.turn a.follows (asks_where c a.turn.owners.owners a.turn.next n a.next)) [
      | inl e ↦ absurd (owner_asks n e.1)
      | inr h ↦ h
    ]
  where
    owner_asks : (n : ℕ) → Owner ≡ Asked n → ⊥
    owner_asks n e = cc

was_asked : (port : ℕ) (es : List Event) (n : ℕ) (c : Command) → AsksNext (IsNoImport (slot_of_command c) n) port es n c → WasAsked port (past_of [] es) (keys c) n
was_asked port es n c a = asked_in port c n a.sent es [] a.lies (sent_by_ask (IsNoImport (slot_of_command c) n) port es n c a)

earned : (first : World) (events : List Event) → AsksByClients first.base_port events → (so_far : List Event) (e : Event) (rest : List Event) → events ≡ so_far ++ e ∷ rest
    → IsEarned (world_after first so_far) (past_of [] so_far) e
earned first events asks so_far (Client seat n asking c r) rest is = λ a o i.
    subst (λ p. WasAsked p (past_of [] so_far) (keys c) n) (sym (world_port so_far first))
    (was_asked first.base_port so_far n c (asks so_far rest seat n c r (is ∙ ap (λ b. so_far ++ Client seat n b c r ∷ rest) a)))
earned first events asks so_far (Look seat n r) rest is = tt
earned first events asks so_far (Admin n c r) rest is = tt

pub clients_are_honest : ClientsAreHonest
clients_are_honest first events last run asks = (honest_by_each first [] events).1 (earned first events asks)

pub headline_of_clients : HeadlineOfClients
headline_of_clients reshard events last of = headline_holds reshard events last (record {
  starts = of.starts;
  run = of.run;
  driven = of.driven;
  honest = subst (λ past. Honest reshard.first past events) (sym of.fresh) (clients_are_honest reshard.first events last of.run of.clients);
})
