-- What the commands of a run did, as far as what is asked before and after a command has to know it.
use Rattle.std.specs.Prelude.{◌≡◌, ◌↔◌, ℕ, suc, ◌<◌, Bool, true, false, cond, not, ◌&&◌, ◌||◌, ◌==◌, nat_lt}
use Rattle.std.specs.Prelude.{List, [], ◌∷◌}
use Rattle.std.specs.Prelude.{Option, Some, None, IsTrue, is_some, length, slice_index_or, slice_set, replicate, refl}
use Rattle.std.specs.Coded.{Coded, code_by, coded×, coded_list, coded_bool}
use Rattle.std.specs.FinMap as finite
use Rattle.slot_marks.specs.Tables.{Marks, marks_code}
use Rattle.cluster_admin.specs.declared.admin.AdminCommand.{AdminCommand}
use Rattle.cluster_admin.specs.declared.admin.AdminCommand.TheVariants.{Migrating, SetNode}
use Rattle.cluster_admin.specs.declared.admin.AdminReply.{AdminReply}
use Rattle.cluster_admin.specs.declared.admin.AdminReply.TheVariants.{Ok}
use Rattle.cluster_admin.specs.Surveys.{Row, Survey, migrating_at, owner_at}

-- Whether each node has taken slots over in this run, and whether it has given slots away, or was to, in this run or
-- before it; the node at which each slot was marked migrating last, and the node that took it over last.
pub record RunHistory : Type 0 where
  pub receivers : List Bool
  pub givers : List Bool
  pub sources : Marks
  pub owners : Marks

abbrev pub course_code : Coded RunHistory
course_code =
    code_by (List Bool × (List Bool × (Marks × Marks)))
    (coded× (coded_list coded_bool) (coded× (coded_list coded_bool) (coded× marks_code marks_code)))
    (λ x. (x.receivers, (x.givers, (x.sources, x.owners))))
    (λ p. record { receivers = p.0; givers = p.1.0; sources = p.1.1.0; owners = p.1.1.1 }) (λ _. refl)

-- ---- before the first command

-- a slot is on its way from the node
abbrev pub HasMark : Survey → (n : ℕ) → Type 0
HasMark v n = (s : ℕ) × (s < 16384) × (is_some (migrating_at v n s) ≡ true)

-- of the first so many nodes these are the ones that have a mark
abbrev pub AreMarked : Survey → (count : ℕ) → List Bool → Type 0
AreMarked v k bs = (n : ℕ) → n < k → IsTrue (slice_index_or bs n false) ↔ HasMark v n

-- no node has taken a slot over, and those have given slots away that have a mark
pub record IsNewCourse (v : Survey) (x : RunHistory) : Type 0 where
  pub receivers : x.receivers ≡ replicate (length v.rows) false
  pub many : length x.givers ≡ length v.rows
  pub givers : AreMarked v (length v.rows) x.givers
  pub sources : x.sources ≡ finite.empty
  pub owners : x.owners ≡ finite.empty

-- ---- after a command

-- a node was told of a slot that is its own from then on
abbrev pub receivers_after : (node : ℕ) → AdminCommand → List Bool → List Bool
receivers_after n (SetNode slot owner) rs = cond (owner == n) (slice_set rs n true) rs
receivers_after n other rs = rs

abbrev pub givers_after : (node : ℕ) → AdminCommand → List Bool → List Bool
givers_after n (Migrating slot target) gs = slice_set gs n true
givers_after n other gs = gs

-- where slots were marked migrating
abbrev pub sources_after : (node : ℕ) → AdminCommand → Marks → Marks
sources_after n (Migrating slot target) m = finite.insert m slot n
sources_after n other m = m

abbrev pub owners_after : (node : ℕ) → AdminCommand → Marks → Marks
owners_after n (SetNode slot owner) m = cond (owner == n) (finite.insert m slot n) m
owners_after n other m = m

-- the history after a command that was done
abbrev pub done_at : (node : ℕ) → AdminCommand → RunHistory → RunHistory
done_at n c x = record {
  receivers = receivers_after n c x.receivers;
  givers = givers_after n c x.givers;
  sources = sources_after n c x.sources;
  owners = owners_after n c x.owners;
}

-- the history after a reply
abbrev pub course_after : (node : ℕ) → AdminCommand → AdminReply → RunHistory → RunHistory
course_after n c Ok x = done_at n c x
course_after n c other x = x

-- ---- sources and targets

abbrev pub or_else : Option ℕ → Option ℕ → Option ℕ
or_else (Some n) o = Some n
or_else None o = o

-- the first node from i on whose row has a migrating mark of the slot
abbrev pub number_if : Option ℕ → (i : ℕ) → Option ℕ
number_if (Some target) i = Some i
number_if None i = None

abbrev pub first_marked : (slot i : ℕ) → List Row → Option ℕ
first_marked s i [] = None
first_marked s i (r ∷ rs) = or_else (number_if (finite.get r.migrating s) i) (first_marked s (suc i) rs)

-- the node that the slot comes from: where it was marked migrating last, in this run or else before the survey
abbrev pub source_of : RunHistory → Survey → (slot : ℕ) → Option ℕ
source_of x v slot = or_else (finite.get x.sources slot) (first_marked slot 0 v.rows)

-- whether the node is that one
abbrev pub is_source_by : (n : ℕ) → Option ℕ → (marked : Bool) → Bool
is_source_by n (Some s) marked = s == n
is_source_by n None marked = marked

abbrev pub is_source : RunHistory → Survey → (n slot : ℕ) → Bool
is_source x v n slot = is_source_by n (finite.get x.sources slot) (is_some (migrating_at v n slot))

-- the target of a mark that stood at the time of the survey, if it said then that the slot was its own
abbrev pub target_told : Survey → (slot : ℕ) → (target : Option ℕ) → Option ℕ
target_told v slot (Some m) = cond (nat_lt m (length v.rows) && (owner_at v m slot == m)) (Some m) None
target_told v slot None = None

abbrev pub unless_some : (newer : Option ℕ) → Option ℕ → Option ℕ
unless_some (Some s) o = None
unless_some None o = o

-- the node that had taken the slot over from this one before the run began, while this one had not heard of it
abbrev pub told_before : RunHistory → Survey → (n slot : ℕ) → Option ℕ
told_before x v n slot = unless_some (finite.get x.sources slot) (target_told v slot (migrating_at v n slot))

-- the node that has taken the slot over from this one
abbrev pub given_to : (n : ℕ) → (taken before : Option ℕ) → Option ℕ
given_to n (Some owner) before = cond (owner == n) None (Some owner)
given_to n None before = before

abbrev pub told_to : RunHistory → Survey → (n slot : ℕ) → Option ℕ
told_to x v n slot = given_to n (finite.get x.owners slot) (told_before x v n slot)

-- the new owner of a slot that comes from this node
abbrev pub taken_from : RunHistory → Survey → (n slot : ℕ) → Option ℕ
taken_from x v n slot = cond (is_source x v n slot) (told_to x v n slot) None

-- ---- nodes that were emptied

-- it had the slot as the run began, or was giving it away
abbrev pub had_at : Survey → (n slot : ℕ) → Bool
had_at v n slot = (owner_at v n slot == n) || is_some (migrating_at v n slot)

abbrev pub held_by : (n : ℕ) → (taken : Option ℕ) → (before : Bool) → Bool
held_by n (Some owner) before = owner == n
held_by n None before = before

-- it has the slot: it was the last to take it over; or nobody has, it had it, and no other had been told of it
abbrev pub holds : RunHistory → Survey → (n slot : ℕ) → Bool
holds x v n slot =
    held_by n (finite.get x.owners slot) ((owner_at v n slot == n) && not (is_some (told_before x v n slot)))

abbrev pub HadSlots : Survey → (n : ℕ) → Type 0
HadSlots v n = (s : ℕ) × (s < 16384) × (had_at v n s ≡ true)

abbrev pub HoldsNoOther : RunHistory → Survey → (n slot : ℕ) → Type 0
HoldsNoOther x v n slot = (s : ℕ) → s < 16384 → (not (s == slot) && holds x v n s) ≡ false

-- The node had slots, and has given all of them away, but for this one maybe, which another node has by now.
pub record IsEmptied (x : RunHistory) (v : Survey) (n slot : ℕ) : Type 0 where
  pub had : HadSlots v n
  pub none : HoldsNoOther x v n slot

-- ---- whether claims can meet

-- the nodes that have taken slots over, or are about to
abbrev pub takes : (t : ℕ) → List Bool → (n : ℕ) → Bool
takes t rs n = (n == t) || slice_index_or rs n false

abbrev pub chained_from : (t i : ℕ) → (givers receivers : List Bool) → Bool
chained_from t i [] rs = false
chained_from t i (g ∷ gs) rs = (g && takes t rs i) || chained_from t (suc i) gs rs

-- a node that gives slots away takes some over, too
abbrev pub is_chained : RunHistory → (t : ℕ) → Bool
is_chained x t = chained_from t 0 x.givers x.receivers
