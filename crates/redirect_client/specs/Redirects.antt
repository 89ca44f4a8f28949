-- What a reply tells of its command (Redis Cluster specification, "Redirection and resharding"): the texts that a node
-- writes are the texts that a client reads.
use Rattle.std.specs.Prelude.{◌≡◌, ◌≢◌, ℕ, ◌<◌, ◌≤◌, ◌⊎◌, List, ◌++◌, codes}
use Rattle.resp2_wire.specs.declared.reply.Reply.{Reply}
use Rattle.resp2_wire.specs.declared.reply.Reply.TheVariants.{Error}
use Rattle.slot_marks.specs.declared.verdict.Verdict.{Verdict}
use Rattle.slot_marks.specs.declared.verdict.Verdict.TheVariants as verdict
use Rattle.cluster_node.specs.Redirections.{redirection, try_again}
use Rattle.redirect_client.specs.declared.meaning.Redirect.{Redirect}
use Rattle.redirect_client.specs.declared.meaning.Redirect.TheVariants.{Moved, Ask, TryAgain}
use Rattle.redirect_client.specs.declared.meaning.Meaning.{Meaning}
use Rattle.redirect_client.specs.declared.meaning.Meaning.TheVariants.{Answer, Redirected, Bad}

-- the error begins with the word and a blank
abbrev pub BeginsWith : List ℕ → Reply → Type 0
BeginsWith word r = (rest : List ℕ) × (r ≡ Error (word ++ rest))

abbrev pub BeginsRedirection : Reply → Type 0
BeginsRedirection r = BeginsWith (codes "MOVED ") r ⊎ BeginsWith (codes "ASK ") r

abbrev pub verdict_of : Redirect → Verdict
verdict_of (Moved n) = verdict.Moved n
verdict_of (Ask n) = verdict.Ask n
verdict_of TryAgain = verdict.TryAgain

-- it names a node among so many, or none
abbrev pub IsKnown : (nodes : ℕ) → Redirect → Type 0
IsKnown nodes (Moved n) = n < nodes
IsKnown nodes (Ask n) = n < nodes
IsKnown nodes TryAgain = Unit {0}

-- the reply is this redirection of a command of the slot, as a node of the cluster tells it
pub record IsRedirection (port nodes slot : ℕ) (r : Reply) (x : Redirect) : Type 0 where
  pub known : IsKnown nodes x
  pub text : r ≡ redirection port slot (verdict_of x)

-- what a reply to a command of the slot tells, in a cluster of so many nodes, the first of which has this port
abbrev pub Means : (port nodes slot : ℕ) → Reply → Meaning → Type 0
Means port nodes slot r (Redirected x) = IsRedirection port nodes slot r x
Means port nodes slot r Bad = BeginsRedirection r × ((x : Redirect) → IsRedirection port nodes slot r x → ⊥)
Means port nodes slot r Answer = (BeginsRedirection r → ⊥) × (r ≢ try_again)

-- each reply tells one thing
abbrev pub HasOneMeaning : Type 0
HasOneMeaning = (port nodes slot : ℕ) (r : Reply) (x y : Meaning) → port ≤ 65528 → nodes ≤ 255
    → Means port nodes slot r x → Means port nodes slot r y → x ≡ y
