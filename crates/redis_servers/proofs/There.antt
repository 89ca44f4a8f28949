-- The servers that duties name are there.
use Rattle.std.proofs.Common.{◌≡◌, ◌<◌, ◌≤◌, ◌+◌, ℕ, suc, Bool, true, false, cond, not, ◌&&◌, ◌==◌, List, [], ◌∷◌}
use Rattle.std.proofs.Common.{◌++◌, length, Option, Some, None, arith, refl, subst, sym}
use Rattle.std.specs.Prelude.{nat_lt}
use Rattle.std.proofs.lemmas.Bool.{and_parts, ltb-true}
use Rattle.cluster_admin.specs.declared.admin.AdminCommand.{AdminCommand}
use Rattle.cluster_admin.specs.declared.admin.AdminCommand.TheVariants.{Importing, KeysIn, Migrate, Migrating, SetNode}
use Rattle.cluster_admin.specs.declared.admin.AdminCommand.TheVariants.{Stable}
use Rattle.cluster_admin.specs.Surveys.{Survey}
use Rattle.server_commands.specs.Spelling.{Names}
use Rattle.redis_servers.specs.RunHistories.{RunHistory, is_chained, source_of}
use Rattle.redis_servers.specs.Duties.{AreThere, duties_after, duties_before, epoch_if, epochs_from, has_role}
use Rattle.redis_servers.specs.Duties.{master_if, news_at, owner_if, taken_if}
use Rattle.redis_servers.specs.declared.duty.Duty.{Duty}
use Rattle.redis_servers.specs.declared.duty.Duty.TheVariants.{HasNews, IsMaster, IsStillMaster, OwnsSlot, ShowsOwner}

are_both : (k : ℕ) (xs ys : List Duty) → AreThere k xs → AreThere k ys → AreThere k (xs ++ ys)
are_both k [] ys first later = later
are_both k (x ∷ xs) ys first later = (first.0, are_both k xs ys first.1 later)

epoch_there : (wanted : Bool) (k i t : ℕ) → i < k → t < k → AreThere k (epoch_if wanted i t)
epoch_there true k i t here there = ((here, there), tt)
epoch_there false k i t here there = tt

epochs_there : (k t i : ℕ) (rs : List Bool) → t < k → i + length rs ≤ k → AreThere k (epochs_from t i rs)
epochs_there k t i [] there few = tt
epochs_there k t i (r ∷ rs) there few =
    are_both k (epoch_if (r && not (i == t)) i t) (epochs_from t (suc i) rs)
    (epoch_there (r && not (i == t)) k i t (omega arith) there) (epochs_there k t (suc i) rs there (omega arith))

if_any : (b : Bool) (k : ℕ) (ds : List Duty) → AreThere k ds → AreThere k (cond b ds [])
if_any true k ds there = there
if_any false k ds there = tt

news_there : (x : RunHistory) (k t : ℕ) → t < k → length x.receivers ≤ k → AreThere k (news_at x t)
news_there x k t there few =
    if_any (is_chained x t) k (epochs_from t 0 x.receivers ++ HasNews t ∷ [])
    (are_both k (epochs_from t 0 x.receivers) (HasNews t ∷ []) (epochs_there k t 0 x.receivers there (omega (arith, few))) (there, tt))

source_there : (k t s : ℕ) → has_role k t s ≡ true → s < k
source_there k t s e = ltb-true s k (and_parts (nat_lt s k) (not (s == t)) e).0

master_by : (b : Bool) (k t s : ℕ) → has_role k t s ≡ b → AreThere k (cond b (IsMaster s ∷ []) [])
master_by true k t s e = (source_there k t s e, tt)
master_by false k t s e = tt

master_there : (k t : ℕ) (o : Option ℕ) → AreThere k (master_if k t o)
master_there k t (Some s) = master_by (has_role k t s) k t s refl
master_there k t None = tt

taken_by : (b : Bool) (k t slot s : ℕ) → t < k → has_role k t s ≡ b
    → AreThere k (cond b (OwnsSlot t slot ∷ (IsStillMaster s slot ∷ [])) [])
taken_by true k t slot s there e = (there, (source_there k t s e, tt))
taken_by false k t slot s there e = tt

taken_there : (k t slot : ℕ) (o : Option ℕ) → t < k → AreThere k (taken_if k t slot o)
taken_there k t slot (Some s) there = taken_by (has_role k t s) k t slot s there refl
taken_there k t slot None there = tt

owner_there : (wanted : Bool) (k i slot t : ℕ) → i < k → t < k → AreThere k (owner_if wanted i slot t)
owner_there true k i slot t here there = ((here, there), tt)
owner_there false k i slot t here there = tt

before : (waits : Bool) (x : RunHistory) (v : Survey) (k n : ℕ) (c : AdminCommand) → k ≡ length v.rows → n < k
    → length x.receivers ≤ k → Names k c → AreThere k (duties_before waits x v n c)
before waits x v k n (SetNode slot owner) rows there few named =
    if_any (owner == n) k (news_at x n ++ master_if (length v.rows) n (source_of x v slot))
    (are_both k (news_at x n) (master_if (length v.rows) n (source_of x v slot)) (news_there x k n there few)
    (subst (λ j. AreThere k (master_if j n (source_of x v slot))) rows (master_there k n (source_of x v slot))))
before waits x v k n (Importing slot m) rows there few named = owner_there waits k n slot m there named
before waits x v k n (Migrating slot m) rows there few named = tt
before waits x v k n (Stable slot) rows there few named = tt
before waits x v k n (KeysIn slot count) rows there few named = tt
before waits x v k n (Migrate ks m) rows there few named = tt

after : (x : RunHistory) (v : Survey) (k n : ℕ) (c : AdminCommand) → k ≡ length v.rows → n < k
    → AreThere k (duties_after x v n c)
after x v k n (SetNode slot owner) rows there =
    if_any (owner == n) k (taken_if (length v.rows) n slot (source_of x v slot))
    (subst (λ j. AreThere k (taken_if j n slot (source_of x v slot))) rows
    (taken_there k n slot (source_of x v slot) there))
after x v k n (Importing slot m) rows there = tt
after x v k n (Migrating slot m) rows there = tt
after x v k n (Stable slot) rows there = tt
after x v k n (KeysIn slot count) rows there = tt
after x v k n (Migrate ks m) rows there = tt

-- the same of a list that was made
pub there_before : (waits : Bool) (x : RunHistory) (v : Survey) (k n : ℕ) (c : AdminCommand) (ds : List Duty)
    → ds ≡ duties_before waits x v n c → k ≡ length v.rows → n < k → length x.receivers ≡ k → Names k c → AreThere k ds
there_before waits x v k n c ds is rows there few named =
    subst (AreThere k) (sym is) (before waits x v k n c rows there (omega (arith, few)) named)

pub there_after : (x : RunHistory) (v : Survey) (k n : ℕ) (c : AdminCommand) (ds : List Duty)
    → ds ≡ duties_after x v n c → k ≡ length v.rows → n < k → AreThere k ds
there_after x v k n c ds is rows there = subst (AreThere k) (sym is) (after x v k n c rows there)
