-- The target is told once more that it imports the slot (the page of CLUSTER SETSLOT). At Valkey the command goes to
-- its replicas first: so those have the mark that were away when it was told before.
use Rattle.std.specs.Prelude.{◌≡◌, ◌⊎◌, ℕ, zero, suc, ◌≤◌, ◌/◌, Bool, true, false, codes, Result, Ok, Err}
use Rattle.byte_texts.specs.Words.{begins, is}
use Rattle.resp2_wire.specs.declared.reply.Reply.{Reply}
use Rattle.resp2_wire.specs.declared.reply.Reply.TheVariants as reply
use Rattle.server_commands.specs.Servers.{server_at}
use Rattle.server_links.specs.Limits.{line_limit}
use Rattle.server_settling.specs.Asking.{Asks, Given, IsAsked, Message, ReadBy}
use Rattle.server_settling.specs.Stops.{Accepts}
use Rattle.server_settling.specs.Words.{importing_words}
use Rattle.server_settling.specs.declared.setup.OpenSlot.{OpenSlot}
use Rattle.server_settling.specs.declared.setup.SettleSetup.{SettleSetup}
use Rattle.server_settling.specs.declared.stop.SettleStop.{SettleStop}

abbrev pub is_ok : Reply → Bool
is_ok (reply.Simple t) = is (codes "OK") t
is_ok other = false

-- the node's replicas did not do it within 2 seconds, so it did not
abbrev pub is_slow : Reply → Bool
is_slow (reply.Error t) = begins (codes "NOREPLICAS ") t
is_slow other = false

-- how often it is told again at most while they are too slow
abbrev pub most_again : SettleSetup → ℕ
most_again x = x.timeout / 2000

abbrev pub mark_message : SettleSetup → OpenSlot → Message
mark_message x o = record {
  node = o.target;
  words = importing_words o.slot (server_at x.book o.source);
  limit = line_limit;
}

-- an answer that is not of slow replicas, or after which there is no time left
abbrev pub IsLastAnswer : SettleSetup → (again : ℕ) → Given → Type 0
IsLastAnswer x k (Ok r) = (is_slow r ≡ false) ⊎ (k ≡ most_again x)
IsLastAnswer x k (Err e) = Unit {0}

module _ {S : Type 0} (asks : Asks S) (x : SettleSetup) (o : OpenSlot) where
  -- so many answers that replicas are too slow
  abbrev pub SlowAnswers : (again : ℕ) → S → S → Type 0
  SlowAnswers zero s s' = s' ≡ s
  SlowAnswers (suc k) s s' = (mid : S) × (r : Reply) × SlowAnswers k s mid
      × IsAsked asks (mark_message x o) mid (Ok r) s' × (is_slow r ≡ true)

  -- and then a last one
  abbrev pub Answers : S → Given → S → Type 0
  Answers s given s' = (k : ℕ) × (mid : S) × (k ≤ most_again x) × SlowAnswers k s mid
      × IsAsked asks (mark_message x o) mid given s' × IsLastAnswer x k given

  -- the target has the mark, as its last answer says; or that is of no use
  abbrev pub Marks : S → Result (Unit {0}) SettleStop → S → Type 0
  Marks s r s' =
      (given : Given) × Answers s given s' × ReadBy (λ reply. Accepts (is_ok reply) o.target reply) given r
