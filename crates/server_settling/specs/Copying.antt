-- Stale copies at the target are overwritten by the source's keys (the page of MIGRATE).
use Rattle.std.specs.Prelude.{◌≡◌, ◌≢◌, ℕ, zero, suc, Bool, false, ◌||◌, List, [], take, drop, codes, Result, Ok}
use Rattle.resp2_wire.specs.declared.reply.Reply.{Reply}
use Rattle.resp2_wire.specs.declared.reply.Reply.TheVariants as reply
use Rattle.byte_texts.specs.Words.{is}
use Rattle.server_commands.specs.Servers.{server_at}
use Rattle.server_links.specs.Limits.{line_limit}
use Rattle.server_settling.specs.Asking.{Asks, Tells, Then}
use Rattle.server_settling.specs.Stops.{Accepts}
use Rattle.server_settling.specs.Words.{replace_words}
use Rattle.server_settling.specs.declared.setup.OpenSlot.{OpenSlot}
use Rattle.server_settling.specs.declared.setup.SettleSetup.{SettleSetup}
use Rattle.server_settling.specs.declared.stop.SettleStop.{SettleStop}

-- the keys are at the target, or the source holds none of them any more
abbrev pub is_ok_or_nokey : List ℕ → Bool
is_ok_or_nokey t = is (codes "OK") t || is (codes "NOKEY") t

abbrev pub is_done : Reply → Bool
is_done (reply.Simple t) = is_ok_or_nokey t
is_done other = false

module _ {S : Type 0} (asks : Asks S) (x : SettleSetup) (o : OpenSlot) where
  -- these keys go from the source to the target, in one request
  abbrev pub Copies : (keys : List (List ℕ)) → S → Result (Unit {0}) SettleStop → S → Type 0
  Copies keys s r s' = Tells asks (λ reply. Accepts (is_done reply) o.source reply) (record {
    node = o.source;
    words = replace_words (server_at x.book o.target) x.timeout x.credentials keys;
    limit = line_limit;
  }) s r s'

  -- so many requests, each of the next keys, as many as a batch has at most, up to the first that stops
  abbrev pub Batches : (requests : ℕ) → (keys : List (List ℕ)) → S → Result (Unit {0}) SettleStop → S → Type 0
  Batches zero keys s r s' = (keys ≡ []) × (r ≡ Ok tt) × (s' ≡ s)
  Batches (suc k) keys s r s' =
      (keys ≢ []) × Then (Copies (take x.batch keys)) (λ u. Batches k (drop x.batch keys)) s r s'

  abbrev pub CopiesAll : (keys : List (List ℕ)) → S → Result (Unit {0}) SettleStop → S → Type 0
  CopiesAll keys s r s' = (k : ℕ) × Batches k keys s r s'
