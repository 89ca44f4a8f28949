-- The target of an open slot is told again while its replicas are too slow.
use Rattle.std.proofs.Common.{◌≡◌, ◌∙◌, ◌≤◌, ◌+◌, ℕ, Bool, true, false, Ok, Err, add-one, inl, inr, subst, sym}
use Rattle.resp2_wire.specs.declared.reply.Reply.{Reply}
use Rattle.server_settling.specs.Asking.{Asks, Given, IsAsked}
use Rattle.server_settling.specs.Marking.{Answers, IsLastAnswer, SlowAnswers, is_slow, mark_message, most_again}
use Rattle.server_settling.specs.declared.setup.OpenSlot.{OpenSlot}
use Rattle.server_settling.specs.declared.setup.SettleSetup.{SettleSetup}
use Rattle.server_settling.specs.declared.stop.SettleStop.{SettleStop}

pub slow_next : {S : Type 0} (asks : Asks S) (x : SettleSetup) (o : OpenSlot) (k : ℕ) (s mid s' : S) (r : Reply) (b : Bool)
    → SlowAnswers asks x o k s mid → IsAsked asks (mark_message x o) mid (Ok r) s' → b ≡ is_slow r → b ≡ true
    → SlowAnswers asks x o (k + 1) s s'
slow_next asks x o k s mid s' r b before asked is slow =
    subst (λ n. SlowAnswers asks x o n s s') (sym (add-one k)) (mid, r, before, asked, sym is ∙ slow)

pub fast : {S : Type 0} (asks : Asks S) (x : SettleSetup) (o : OpenSlot) (k : ℕ) (s mid s' : S) (r : Reply) (b : Bool)
    → k ≤ most_again x → SlowAnswers asks x o k s mid → IsAsked asks (mark_message x o) mid (Ok r) s' → b ≡ is_slow r
    → b ≡ false → Answers asks x o s (Ok r) s'
fast asks x o k s mid s' r b few before asked is not = (k, mid, few, before, asked, inl (sym is ∙ not))

pub gone : {S : Type 0} (asks : Asks S) (x : SettleSetup) (o : OpenSlot) (k : ℕ) (s mid s' : S) (e : SettleStop)
    → k ≤ most_again x → SlowAnswers asks x o k s mid → IsAsked asks (mark_message x o) mid (Err e) s'
    → Answers asks x o s (Err e) s'
gone asks x o k s mid s' e few before asked = (k, mid, few, before, asked, tt)

last_of : (x : SettleSetup) (k : ℕ) (given : Given) → k ≡ most_again x → IsLastAnswer x k given
last_of x k (Ok r) all = inr all
last_of x k (Err e) all = tt

pub last : {S : Type 0} (asks : Asks S) (x : SettleSetup) (o : OpenSlot) (k : ℕ) (s mid s' : S) (given : Given)
    → k ≤ most_again x → k ≡ most_again x → SlowAnswers asks x o k s mid → IsAsked asks (mark_message x o) mid given s'
    → Answers asks x o s given s'
last asks x o k s mid s' given few all before asked = (k, mid, few, before, asked, last_of x k given all)

pub ruleset answering = (slow_next, fast, gone, last)
