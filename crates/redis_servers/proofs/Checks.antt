-- What a look shows, and how the run continues by that.
use Rattle.std.proofs.Common.{◌≡◌, ◌∙◌, ◌≤◌, ◌-◌, ◌||◌, ℕ, suc, Bool, true, false, List, Option, Result, Ok, Err, arith, ap, inl, inr, subst, sym, true≢false}
use Rattle.std.specs.Prelude.{IsTrue, MatchResult, ◌↔◌, is_some}
use Rattle.listed_nodes.specs.declared.node_line.NodeLine.{NodeLine}
use Rattle.cluster_admin.specs.declared.admin.AdminCommand.{AdminCommand}
use Rattle.cluster_admin.specs.Surveys.{Survey}
use Rattle.resp2_wire.specs.declared.reply.Reply.{Reply}
use Rattle.resp2_wire.specs.declared.reply.Reply.TheVariants as reply
use Rattle.server_commands.specs.Spelling.{request_of}
use Rattle.server_commands.specs.declared.answers.Answered.TheVariants as told
use Rattle.server_links.specs.Streams.{Question}
use Rattle.redis_servers.specs.Asking.{nodes_question}
use Rattle.redis_servers.specs.Calls.{Commands, Confirms, Given, Reads, ReadsError, Sends, is_excuse}
use Rattle.redis_servers.specs.RunHistories.{RunHistory, IsEmptied, taken_from}
use Rattle.redis_servers.specs.Duties.{duties_before}
use Rattle.redis_servers.specs.Looking.{AsksRole, LooksAt, StopsWith, owns_slot}
use Rattle.redis_servers.specs.Unmet.{disowned_text, lost_writes_text, replica_text}
use Rattle.redis_servers.specs.Looking.{taken_within}
use Rattle.redis_servers.specs.Meeting.{MeetsAll, ShowsMaster, ShowsOwned, ShowsStill}
use Rattle.redis_servers.specs.declared.commanding.Outcome.{Outcome}
use Rattle.redis_servers.specs.declared.duty.Duty.{Duty}
use Rattle.redis_servers.specs.declared.port_stop.PortStop.{PortStop}
use Rattle.redis_servers.specs.declared.setup.PortSetup.{PortSetup}

-- ---- slots that were taken over

pub one_less : (x : RunHistory) (v : Survey) (t number next last : ℕ) → next ≡ suc number → number ≤ last
    → is_some (taken_from x v t number) ≡ false
    → taken_within x v t number (suc last - number) ≡ taken_within x v t next (suc last - next)
one_less x v t number next last is few none =
    let here : suc last - number ≡ suc (last - number) = omega (arith, few) in
    let later : last - number ≡ suc last - suc number = omega arith in
    ap (λ k. taken_within x v t number k) here
    ∙ ap (λ b. b || taken_within x v t (suc number) (last - number)) none
    ∙ ap (λ k. taken_within x v t (suc number) k) later
    ∙ ap (λ n. taken_within x v t n (suc last - n)) (sym is)

pub found_here : (x : RunHistory) (v : Survey) (t number last : ℕ) → number ≤ last → is_some (taken_from x v t number) ≡ true
    → taken_within x v t number (suc last - number) ≡ true
found_here x v t number last few some =
    let here : suc last - number ≡ suc (last - number) = omega (arith, few) in
    ap (λ k. taken_within x v t number k) here
    ∙ ap (λ b. b || taken_within x v t (suc number) (last - number)) some

-- ---- checks

not_both : (b : Bool) → b ≡ true → b ≡ false → ⊥
not_both b is not = true≢false (sym is ∙ not)

-- an excuse of a node that is not excused is an error
pub not_excused : (excused : Type 0) (n : ℕ) (c : AdminCommand) (r : Reply) (t got kept : List ℕ) (b e : Bool)
    → r ≡ reply.Error t → got ≡ t → b ≡ is_excuse got → b ≡ true → IsTrue e ↔ excused → e ≡ false → kept ≡ t
    → Reads excused n c r (told.Error kept)
not_excused excused n c r t got kept b e of same is holds both fails copy =
    subst (λ (x : Reply). Reads excused n c x (told.Error kept)) (sym of)
    (subst (λ x. ReadsError x excused n c t (told.Error kept)) (sym holds ∙ is ∙ ap is_excuse same)
    (inr (λ x. not_both e (both.1 x) fails, ap (λ y. told.Error y) copy)))

module _ {L : Type 0} (asks : Question → List L → (node : ℕ) → Result Reply PortStop → List L → Type 0) (x : PortSetup) where
  pub master_by : (s : ℕ) (text : List ℕ) (links links' : List L) (b : Bool) (r : Result (Unit {0}) PortStop)
      → text ≡ replica_text s → AsksRole asks x.credentials links s (Ok b) links'
      → MatchResult r (λ u. b ≡ true) (λ h. (b ≡ false) × StopsWith text h)
      → ShowsMaster asks x s links r links'
  master_by s text links links' b (Ok u) same asked is =
      subst (λ (b : Bool). AsksRole asks x.credentials links s (Ok b) links') is asked
  master_by s text links links' b (Err h) same asked is =
      inr (subst (λ (b : Bool). AsksRole asks x.credentials links s (Ok b) links') is.0 asked, subst (λ t. StopsWith t h) same is.1)

  pub owned_by : (t slot : ℕ) (text : List ℕ) (links links' : List L) (ns : List NodeLine) (b : Bool) (r : Result (Unit {0}) PortStop)
      → text ≡ disowned_text t → LooksAt asks x.credentials nodes_question links t (Ok ns) links' → b ≡ owns_slot slot ns
      → MatchResult r (λ u. b ≡ true) (λ h. (b ≡ false) × StopsWith text h)
      → ShowsOwned asks x t slot links r links'
  owned_by t slot text links links' ns b (Ok u) words looked same is = (ns, looked, sym same ∙ is)
  owned_by t slot text links links' ns b (Err h) words looked same is =
      inr (ns, looked, sym same ∙ is.0, subst (λ t. StopsWith t h) words is.1)

  pub still_by : (history : RunHistory) (s slot : ℕ) (text : List ℕ) (links links' : List L) (b : Bool) (r : Result (Unit {0}) PortStop)
      → text ≡ lost_writes_text s → AsksRole asks x.credentials links s (Ok false) links' → IsTrue b ↔ IsEmptied history x.survey s slot
      → MatchResult r (λ u. b ≡ true) (λ h. (b ≡ false) × StopsWith text h)
      → ShowsStill asks x history s slot links r links'
  still_by history s slot text links links' b (Ok u) words asked same is =
      (false, asked, inr (same.0 is))
  still_by history s slot text links links' b (Err h) words asked same is =
      inr (asked, λ emptied. not_both b (same.1 emptied) is.0, subst (λ t. StopsWith t h) words is.1)

  -- ---- a command, and what is shown before it and after it

  pub sends_by : (y z : PortSetup) (history later last : RunHistory) (n : ℕ) (c : AdminCommand) (request : List ℕ)
      (before : List Duty) (links a b links' : List L) (o : Outcome) (given : Given) (said : Option (List ℕ))
      → before ≡ duties_before x.waits_for_news history x.survey n c → request ≡ request_of x.book x.timeout x.credentials c
      → y ≡ x → later ≡ history → z ≡ y → last ≡ later
      → MeetsAll asks x history before links (Ok tt) a → Commands asks y later request n c a o.given o.said b
      → Confirms asks z last n c o b given said links' → Sends asks x history n c links given said links'
  sends_by y z history later last n c request before links a b links' o given said is spelled setup same setup' same' met commands confirms = inl (
    a,
    o,
    b,
    subst (λ (ds : List Duty). MeetsAll asks x history ds links (Ok tt) a) is met,
    subst (λ (q : List ℕ). Commands asks x history q n c a o.given o.said b) spelled
        (subst (λ (w : PortSetup). Commands asks w history request n c a o.given o.said b) setup
        (subst (λ (w : RunHistory). Commands asks y w request n c a o.given o.said b) same commands)),
    subst (λ (w : PortSetup). Confirms asks w history n c o b given said links') (setup' ∙ setup)
        (subst (λ (w : RunHistory). Confirms asks z w n c o b given said links') (same' ∙ same) confirms),
  )
