-- A node's table in the model, which is made slot by slot.
use Rattle.std.proofs.Common.{◌≡◌, ◌≢◌, ℕ, ◌+◌, ◌<◌, ◌≤◌, Bool, true, false, cond, eqb, List, [], ◌∷◌, ◌++◌, length}
use Rattle.std.proofs.Common.{Option, Some, None, nat_cmp, inl, inr, refl, sym, ap, ◌∙◌, subst, arith}
use Rattle.std.proofs.lemmas.Bool.{cases_eq, cases_lt, eqb-true, eq-eqb, ne_eqb}
use Rattle.std.proofs.lemmas.List.{get_or_append_left, get_or-set_other, get_or-set_same, length-append, length-map, length-set}
use Rattle.std.specs.FinMap as finite
use Rattle.std.specs.FinMap.{get-empty}
use Rattle.std.specs.List.{All}
use Rattle.std.specs.Prelude.{IfSome, slice_index, slice_index_or, slice_set, suc, take, zero}
use Rattle.key_slots.specs.Owners.{Owners}
use Rattle.slot_marks.specs.Tables.{Marks, Table}
use Rattle.cluster_admin.proofs.Marks.{inserted, removed}
use Rattle.cluster_views.specs.Rows.{with_coming, with_going}
use Rattle.cluster_admin.proofs.Phasing.{closed_beyond}
use Rattle.cluster_admin.proofs.Surveyed.{blank_beyond, row_shown}
use Rattle.cluster_admin.specs.Phases.{AreTwo, IsPhase, comes_in, goes_in, owner_in}
use Rattle.cluster_admin.specs.Surveys.{AreTables, HasPhaseIn, IsTableOf, Row, Survey, blank_table, owner_at, row_at}
use Rattle.cluster_admin.specs.Surveys.{survey_by, table_at}
use Rattle.server_phases.specs.Opened.{AreMarksBelow, AreOrdinary, AreOrdinaryBelow, AreOwnersBelow, AreTablesBelow, IsOpened}
use Rattle.server_phases.specs.Opened.{IsTableBelow, MayBeAmong, MayCome, MayGo, MayHaveMarks, with_marks, with_told}
use Rattle.server_phases.specs.ServerPhases.{IsOrdinary, IsPhaseAt, modelled}
use Rattle.server_phases.specs.declared.server_phase.ServerPhase.{ServerPhase}
use Rattle.server_phases.specs.declared.server_phase.ServerPhase.TheVariants as shown
use Rattle.server_phases.specs.declared.strangeness.Strangeness.{Strangeness}

-- a phase that is not strange
pub ordinary : (v : Survey) (s : ℕ) (p : ServerPhase) → IsPhaseAt v s p
    → ((k : Strangeness) → p ≡ shown.Strange k → ⊥) → IsOrdinary v s p
ordinary v s (shown.Strange k) h no_strange = no_strange k refl
ordinary v s (shown.Closed o) h no_strange = h
ordinary v s (shown.Importing a b) h no_strange = h
ordinary v s (shown.Migrating a b) h no_strange = h
ordinary v s (shown.Told a b) h no_strange = h

-- as some phase of the slot is not strange
pub known_ordinary : (v : Survey) (s : ℕ) (p : ServerPhase) → ((q : ServerPhase) × IsOrdinary v s q)
    → ((q : ServerPhase) → IsPhaseAt v s q → q ≡ p) → IsOrdinary v s p
known_ordinary v s p known only = subst (IsOrdinary v s) (only known.0 (whole known.0 known.1)) known.1
  where
    whole : (q : ServerPhase) → IsOrdinary v s q → IsPhaseAt v s q
    whole (shown.Strange k) h = absurd h
    whole (shown.Closed o) h = h
    whole (shown.Importing a b) h = h
    whole (shown.Migrating a b) h = h
    whole (shown.Told a b) h = h

pub only_that : (v : Survey) (s : ℕ) (p : ServerPhase) → ((q : ServerPhase) → IsPhaseAt v s q → q ≡ p)
    → (q : ServerPhase) → IsOrdinary v s q → q ≡ p
only_that v s p only (shown.Strange k) h = absurd h
only_that v s p only (shown.Closed o) h = only (shown.Closed o) h
only_that v s p only (shown.Importing a b) h = only (shown.Importing a b) h
only_that v s p only (shown.Migrating a b) h = only (shown.Migrating a b) h
only_that v s p only (shown.Told a b) h = only (shown.Told a b) h

-- one slot more that is not strange
pub ordinary_more : (v : Survey) (i slot : ℕ) → AreOrdinaryBelow v i → slot ≡ i
    → ((q : ServerPhase) × IsOrdinary v slot q) → AreOrdinaryBelow v (i + 1)
ordinary_more v i slot before same is s lt = elim (cases_lt s i) [
  | inl less ↦ before s less
  | inr ge ↦ (let e : slot ≡ s = omega (arith, same, lt, ge) in subst (λ k. (q : ServerPhase) × IsOrdinary v k q) e is)
]

-- ---- owners

abbrev Only : Survey → ℕ → ServerPhase → Type 0
Only v s p = (q : ServerPhase) → IsOrdinary v s q → q ≡ p

-- the owners stay
owners_stay : (v : Survey) (node i : ℕ) (os : List ℕ) (p : ServerPhase) → AreOwnersBelow v node i os
    → owner_at v node i ≡ owner_in (modelled p) node → Only v i p → AreOwnersBelow v node (i + 1) os
owners_stay v node i os p before tells only = record {
  below = λ s l q h. elim (cases_eq s i) [
    | inl e ↦ (
        let w : q ≡ p = only q (subst (λ k. IsOrdinary v k q) e h) in
        ap (λ k. slice_index os k) e ∙ before.from i (omega arith) ∙ tells
        ∙ ap (λ r. owner_in (modelled r) node) (sym w))
    | inr ne ↦ before.below s (omega (arith, l, ne)) q h
  ];
  from = λ s le. before.from s (omega (arith, le));
}

-- the slot i gets its owner in the model
owners_set : (v : Survey) (node i x : ℕ) (os : List ℕ) (p : ServerPhase) → AreOwnersBelow v node i os
    → length os ≡ 16384 → i < 16384 → x ≡ owner_in (modelled p) node → Only v i p
    → AreOwnersBelow v node (i + 1) (slice_set os i x)
owners_set v node i x os p before width lt is only = record {
  below = λ s l q h. elim (cases_eq s i) [
    | inl e ↦ (
        let w : q ≡ p = only q (subst (λ k. IsOrdinary v k q) e h) in
        ap (λ k. slice_index (slice_set os i x) k) e
        ∙ get_or-set_same os i x 0 (omega (arith, lt, width)) ∙ is
        ∙ ap (λ r. owner_in (modelled r) node) (sym w))
    | inr ne ↦ get_or-set_other os i s x 0 ne ∙ before.below s (omega (arith, l, ne)) q h
  ];
  from = λ s le. get_or-set_other os i s x 0 (λ e. omega (arith, le, e)) ∙ before.from s (omega (arith, le));
}

-- the nodes of a phase are among so many
pub may_be : (v : Survey) (s n : ℕ) (p : ServerPhase) → IsOrdinary v s p → n ≡ length v.rows → MayBeAmong n p
may_be v s n (shown.Told a b) is many = subst (λ k. (a < k) × (b < k)) (sym many) (is.two.source_below, is.two.target_below)
may_be v s n (shown.Strange k) is many = absurd is
may_be v s n (shown.Closed o) is many = tt
may_be v s n (shown.Importing a b) is many = tt
may_be v s n (shown.Migrating a b) is many = tt

-- ---- marks

no_marks : (v : Survey) (mark : ServerPhase → Option ℕ) (m : Marks) → m ≡ finite.empty → AreMarksBelow v mark 0 m
no_marks v mark m e = record {
  below = λ s lt. absurd (omega (arith, lt));
  from = λ s le. ap (λ (n : Marks). finite.get n s) e ∙ get-empty nat_cmp s;
}

-- a mark that is not there is taken away
none_taken : (v : Survey) (mark : ServerPhase → Option ℕ) (i : ℕ) (m : Marks) → AreMarksBelow v mark i m
    → AreMarksBelow v mark i (finite.remove m i)
none_taken v mark i m before = record {
  below = λ s lt p h. (
      let ne : s ≢ i = λ e. omega (arith, lt, e) in
      rw (removed m i s, ne_eqb s i ne) (before.below s lt p h));
  from = λ s le. elim (cases_eq s i) [
    | inl e ↦ rw (removed m i s, eq-eqb s i e) refl
    | inr ne ↦ rw (removed m i s, ne_eqb s i ne) (before.from s le)
  ];
}

-- or it stays
none_taken_if : (v : Survey) (mark : ServerPhase → Option ℕ) (i : ℕ) (m : Marks) (b : Bool) → AreMarksBelow v mark i m
    → AreMarksBelow v mark i (cond b m (finite.remove m i))
none_taken_if v mark i m true before = before
none_taken_if v mark i m false before = none_taken v mark i m before

none_taken_unless : (v : Survey) (mark : ServerPhase → Option ℕ) (i : ℕ) (m : Marks) (b : Bool)
    → AreMarksBelow v mark i m → AreMarksBelow v mark i (cond b (finite.remove m i) m)
none_taken_unless v mark i m true before = none_taken v mark i m before
none_taken_unless v mark i m false before = before

one_unmarked : (v : Survey) (mark : ServerPhase → Option ℕ) (i : ℕ) (m : Marks) (p : ServerPhase)
    → AreMarksBelow v mark i m → Only v i p → mark p ≡ None → AreMarksBelow v mark (i + 1) m
one_unmarked v mark i m p before only none = record {
  below = λ s lt q h. elim (cases_lt s i) [
    | inl less ↦ before.below s less q h
    | inr ge ↦ (
        let e : s ≡ i = omega (arith, lt, ge) in
        let w : q ≡ p = only q (subst (λ k. IsOrdinary v k q) e h) in
        before.from s ge ∙ sym none ∙ ap mark (sym w))
  ];
  from = λ s le. before.from s (omega (arith, le));
}

one_marked : (v : Survey) (mark : ServerPhase → Option ℕ) (i x : ℕ) (m : Marks) (p : ServerPhase)
    → AreMarksBelow v mark i m → Only v i p → mark p ≡ Some x → AreMarksBelow v mark (i + 1) (finite.insert m i x)
one_marked v mark i x m p before only some = record {
  below = λ s lt q h. elim (cases_lt s i) [
    | inl less ↦ (
        let ne : s ≢ i = λ e. omega (arith, less, e) in
        rw (inserted m i x s, ne_eqb s i ne) (before.below s less q h))
    | inr ge ↦ (
        let e : s ≡ i = omega (arith, lt, ge) in
        let w : q ≡ p = only q (subst (λ k. IsOrdinary v k q) e h) in
        rw (inserted m i x s, eq-eqb s i e) (sym some ∙ ap mark (sym w)))
  ];
  from = λ s le. (
      let ne : s ≢ i = λ e. omega (arith, le, e) in
      rw (inserted m i x s, ne_eqb s i ne) (before.from s (omega (arith, le))));
}

going_more : (v : Survey) (mark : ServerPhase → Option ℕ) (i : ℕ) (t : Table) (p : ServerPhase) (x : Option ℕ)
    → AreMarksBelow v mark i t.migrating → Only v i p → mark p ≡ x
    → AreMarksBelow v mark (i + 1) (with_going t i x).migrating
going_more v mark i t p None before only e = one_unmarked v mark i t.migrating p before only e
going_more v mark i t p (Some x) before only e = one_marked v mark i x t.migrating p before only e

coming_more : (v : Survey) (mark : ServerPhase → Option ℕ) (i : ℕ) (t : Table) (p : ServerPhase) (x : Option ℕ)
    → AreMarksBelow v mark i t.importing → Only v i p → mark p ≡ x
    → AreMarksBelow v mark (i + 1) (with_coming t i x).importing
coming_more v mark i t p None before only e = one_unmarked v mark i t.importing p before only e
coming_more v mark i t p (Some x) before only e = one_marked v mark i x t.importing p before only e

-- ---- a table

-- what the server tells, and no mark
pub new_table : (v : Survey) (node : ℕ) (o : Owners) (t : Table)
    → o ≡ record { nodes = length v.rows; owners = (row_at v node).owners }
    → t ≡ record { me = node; nodes = o.nodes; owners = o.owners; migrating = finite.empty; importing = finite.empty }
    → length t.owners ≡ 16384 → All (λ n. n < t.nodes) t.owners → IsTableBelow v node 0 t
new_table v node o t tells is width named = record {
  me = ap (λ (x : Table). x.me) is;
  nodes = ap (λ (x : Table). x.nodes) is ∙ ap (λ (x : Owners). x.nodes) tells;
  width = width;
  named = named;
  owners = record {
    below = λ s lt. absurd (omega (arith, lt));
    from = λ s le. ap (λ (x : Table). slice_index x.owners s) is ∙ ap (λ (x : Owners). slice_index x.owners s) tells;
  };
  going = no_marks v (λ p. goes_in (modelled p) node) t.migrating (ap (λ (x : Table). x.migrating) is);
  coming = no_marks v (λ p. comes_in (modelled p) node) t.importing (ap (λ (x : Table). x.importing) is);
}

-- the slot's owner in the model, while its marks are still to be put
pub record IsOwnerPut (v : Survey) (node i : ℕ) (t : Table) : Type 0 where
  pub me : t.me ≡ node
  pub nodes : t.nodes ≡ length v.rows
  pub owners : AreOwnersBelow v node (i + 1) t.owners
  pub going : AreMarksBelow v (λ p. goes_in (modelled p) node) i t.migrating
  pub coming : AreMarksBelow v (λ p. comes_in (modelled p) node) i t.importing

pub owner_put : (v : Survey) (node i : ℕ) (t : Table) (p : ServerPhase) → IsTableBelow v node i t → i < 16384
    → node < length v.rows → IsOrdinary v i p → Only v i p → IsOwnerPut v node i (with_told t i p)
owner_put v node i t p before lt there is only = by p is only
  where
    stays : (p : ServerPhase) → owner_at v node i ≡ owner_in (modelled p) node → Only v i p → IsOwnerPut v node i t
    stays p tells only = record {
      me = before.me;
      nodes = before.nodes;
      owners = owners_stay v node i t.owners p before.owners tells only;
      going = before.going;
      coming = before.coming;
    }

    by : (p : ServerPhase) → IsOrdinary v i p → Only v i p → IsOwnerPut v node i (with_told t i p)
    by (shown.Strange k) is only = absurd is
    by (shown.Closed a) is only = stays (shown.Closed a) (is.owners node there) only
    by (shown.Importing a b) is only = stays (shown.Importing a b) (is.owners node there) only
    by (shown.Migrating a b) is only = stays (shown.Migrating a b) (is.owners node there) only
    by (shown.Told a b) is only =
        let x : ℕ = cond (eqb t.me b) b a in
        record {
          me = before.me;
          nodes = before.nodes;
          owners = owners_set v node i x t.owners (shown.Told a b) before.owners before.width lt
              (ap (λ m. cond (eqb m b) b a) before.me) only;
          going = none_taken_if v (λ p. goes_in (modelled p) node) i t.migrating (eqb x t.me) before.going;
          coming = none_taken_unless v (λ p. comes_in (modelled p) node) i t.importing (eqb x t.me) before.coming;
        }

same_rows : (t : Table) (s : ℕ) (x y : Option ℕ) → ((with_coming (with_going t s x) s y).me ≡ t.me)
    × ((with_coming (with_going t s x) s y).nodes ≡ t.nodes) × ((with_coming (with_going t s x) s y).owners ≡ t.owners)
    × ((with_coming (with_going t s x) s y).migrating ≡ (with_going t s x).migrating)
    × ((with_coming (with_going t s x) s y).importing ≡ (with_coming t s y).importing)
same_rows t s None None = (refl, refl, refl, refl, refl)
same_rows t s (Some a) None = (refl, refl, refl, refl, refl)
same_rows t s None (Some b) = (refl, refl, refl, refl, refl)
same_rows t s (Some a) (Some b) = (refl, refl, refl, refl, refl)

pub marks_put : (v : Survey) (node i : ℕ) (t t' : Table) (p : ServerPhase) → IsOwnerPut v node i t → Only v i p
    → t' ≡ with_marks t i p → length t'.owners ≡ 16384 → All (λ n. n < t'.nodes) t'.owners
    → IsTableBelow v node (i + 1) t'
marks_put v node i t t' p before only put width named =
    let x : Option ℕ = goes_in (modelled p) t.me in
    let y : Option ℕ = comes_in (modelled p) t.me in
    let same = same_rows t i x y in
    record {
      me = ap (λ (u : Table). u.me) put ∙ same.0 ∙ before.me;
      nodes = ap (λ (u : Table). u.nodes) put ∙ same.1 ∙ before.nodes;
      width = width;
      named = named;
      owners = subst (AreOwnersBelow v node (i + 1)) (sym (ap (λ (u : Table). u.owners) put ∙ same.2)) before.owners;
      going = subst (AreMarksBelow v (λ q. goes_in (modelled q) node) (i + 1))
          (sym (ap (λ (u : Table). u.migrating) put ∙ same.3))
          (going_more v (λ q. goes_in (modelled q) node) i t p x before.going only (ap (goes_in (modelled p)) (sym before.me)));
      coming = subst (AreMarksBelow v (λ q. comes_in (modelled q) node) (i + 1))
          (sym (ap (λ (u : Table). u.importing) put ∙ same.4))
          (coming_more v (λ q. comes_in (modelled q) node) i t p y before.coming only (ap (comes_in (modelled p)) (sym before.me)));
    }

-- ---- what marks the table may have

if_here : (b : Bool) (x : ℕ) (P : ℕ → Type 0) → (b ≡ true → P x) → IfSome (cond b (Some x) None) P
if_here true x P h = h refl
if_here false x P h = tt

may_go : (v : Survey) (node i : ℕ) (t : Table) (p : ServerPhase) → IsOwnerPut v node i t
    → IsOrdinary v i p → IfSome (goes_in (modelled p) t.me) (MayGo t i)
may_go v node i t p before is =
    subst (λ m. IfSome (goes_in (modelled p) m) (MayGo t i)) (sym before.me)
    (by p is (before.owners.below i (omega arith) p is))
  where
    by : (p : ServerPhase) → IsOrdinary v i p → slice_index t.owners i ≡ owner_in (modelled p) node
        → IfSome (goes_in (modelled p) node) (MayGo t i)
    by (shown.Strange k) is own = tt
    by (shown.Closed a) is own = tt
    by (shown.Importing a b) is own = tt
    by (shown.Migrating a b) is own = if_here (eqb node a) b (MayGo t i) (λ e.
        let same : node ≡ a = eqb-true node a e in (
          own ∙ sym same ∙ sym before.me,
          subst (λ n. b < n) (sym before.nodes) is.fine.target_below,
          λ u. is.fine.apart (sym same ∙ sym before.me ∙ sym u),
        ))
    by (shown.Told a b) is own = if_here (eqb node a) b (MayGo t i) (λ e.
        let same : node ≡ a = eqb-true node a e in
        let apart : node ≢ b = λ u. is.two.apart (sym same ∙ u) in (
          own ∙ ap (λ c. cond c b a) (ne_eqb node b apart) ∙ sym same ∙ sym before.me,
          subst (λ n. b < n) (sym before.nodes) is.two.target_below,
          λ u. is.two.apart (sym same ∙ sym before.me ∙ sym u),
        ))

may_come : (v : Survey) (node i : ℕ) (t : Table) (p : ServerPhase) → IsOwnerPut v node i t
    → IsOrdinary v i p → IfSome (comes_in (modelled p) t.me) (MayCome t i)
may_come v node i t p before is =
    subst (λ m. IfSome (comes_in (modelled p) m) (MayCome t i)) (sym before.me)
    (by p is (before.owners.below i (omega arith) p is))
  where
    here : (a b : ℕ) → AreTwo (length v.rows) a b → slice_index t.owners i ≡ a → IfSome (cond (eqb node b) (Some a) None) (MayCome t i)
    here a b two own = if_here (eqb node b) a (MayCome t i) (λ e.
        let same : node ≡ b = eqb-true node b e in (
          λ u. two.apart (sym own ∙ u ∙ before.me ∙ same),
          subst (λ n. a < n) (sym before.nodes) two.source_below,
          λ u. two.apart (u ∙ before.me ∙ same),
        ))

    by : (p : ServerPhase) → IsOrdinary v i p → slice_index t.owners i ≡ owner_in (modelled p) node
        → IfSome (comes_in (modelled p) node) (MayCome t i)
    by (shown.Strange k) is own = tt
    by (shown.Closed a) is own = tt
    by (shown.Importing a b) is own = here a b is.fine own
    by (shown.Migrating a b) is own = here a b is.fine own
    by (shown.Told a b) is own = tt

pub may_have : (v : Survey) (node i : ℕ) (t : Table) (p : ServerPhase) → IsOwnerPut v node i t → IsOrdinary v i p
    → MayHaveMarks t i p
may_have v node i t p before is = record { goes = may_go v node i t p before is; comes = may_come v node i t p before is }

-- ---- the tables of all nodes

pub no_tables : (v : Survey) (ts : List Table) → ts ≡ [] → AreTablesBelow v 0 ts
no_tables v ts none = subst (AreTablesBelow v 0) (sym none) (λ n h. absurd (omega (arith, h)))

last_there : (ts : List Table) (t : Table) → table_at (ts ++ t ∷ []) (length ts) ≡ t
last_there [] t = refl
last_there (x ∷ ts) t = last_there ts t

pub tables_more : (v : Survey) (ts ts' : List Table) (node : ℕ) (t : Table) → AreTablesBelow v 0 ts → ts' ≡ ts ++ t ∷ []
    → node ≡ length ts → IsTableBelow v node 0 t → AreTablesBelow v 0 ts'
tables_more v ts ts' node t before put same is = subst (AreTablesBelow v 0) (sym put) (λ n h. elim (cases_eq n (length ts)) [
  | inl e ↦ subst (λ k. IsTableBelow v k 0 (table_at (ts ++ t ∷ []) k)) (sym e)
      (subst (IsTableBelow v (length ts) 0) (sym (last_there ts t)) (subst (λ k. IsTableBelow v k 0 t) same is))
  | inr ne ↦ (
      let l : n < length ts = omega (arith, h, ne, length-append ts (t ∷ [])) in
      subst (IsTableBelow v n 0) (sym (get_or_append_left ts (t ∷ []) blank_table n l)) (before n l))
])

-- an item that is there, whatever stands for those that are not
pub at_any : (ts : List Table) (i : ℕ) (d : Table) → i < length ts → slice_index_or ts i d ≡ table_at ts i
at_any [] i d h = absurd (omega (arith, h))
at_any (x ∷ ts) zero d h = refl
at_any (x ∷ ts) (suc i) d h = at_any ts i d (omega (arith, h))

-- what stands before the rest of a list
pub front : (ts rest : List Table) (k : ℕ) → k ≡ length ts → take k (ts ++ rest) ≡ ts
front [] rest zero h = refl
front [] rest (suc k) h = absurd (omega (arith, h))
front (x ∷ ts) rest zero h = absurd (omega (arith, h))
front (x ∷ ts) rest (suc k) h = ap (λ r. x ∷ r) (front ts rest k (omega (arith, h)))

-- while the slot i is put into one table after the other: those of the first nodes have it, and the others do not yet
pub record ArePut (v : Survey) (i place : ℕ) (ts : List Table) : Type 0 where
  pub done : (n : ℕ) → n < length ts → n < place → IsTableBelow v n (i + 1) (table_at ts n)
  pub left : (n : ℕ) → n < length ts → place ≤ n → IsTableBelow v n i (table_at ts n)

pub put_first : (v : Survey) (i : ℕ) (ts : List Table) → AreTablesBelow v i ts → ArePut v i 0 ts
put_first v i ts before = record { done = λ n h l. absurd (omega (arith, l)); left = λ n h le. before n h }

pub put_next : (v : Survey) (i place : ℕ) (ts : List Table) (t : Table) → ArePut v i place ts → place < length ts
    → IsTableBelow v place (i + 1) t → ArePut v i (place + 1) (slice_set ts place t)
put_next v i place ts t before there is = record {
  done = λ n h l. elim (cases_eq n place) [
    | inl e ↦ subst (λ k. IsTableBelow v k (i + 1) (table_at (slice_set ts place t) k)) (sym e)
        (subst (IsTableBelow v place (i + 1)) (sym (get_or-set_same ts place t blank_table there)) is)
    | inr ne ↦ subst (IsTableBelow v n (i + 1)) (sym (get_or-set_other ts place n t blank_table ne))
        (before.done n (subst (λ k. n < k) (length-set ts place t) h) (omega (arith, l, ne)))
  ];
  left = λ n h le. (
      let ne : n ≢ place = λ e. omega (arith, le, e) in
      subst (IsTableBelow v n i) (sym (get_or-set_other ts place n t blank_table ne))
      (before.left n (subst (λ k. n < k) (length-set ts place t) h) (omega (arith, le))));
}

pub put_last : (v : Survey) (i place : ℕ) (ts : List Table) → ArePut v i place ts → length ts ≤ place
    → AreTablesBelow v (i + 1) ts
put_last v i place ts before all n h = before.done n h (omega (arith, h, all))

pub are_tables : (v : Survey) (ts : List Table) → AreTablesBelow v 16384 ts → length ts ≡ length v.rows
    → 1 ≤ length v.rows → length v.rows ≤ 255 → AreTables ts
are_tables v ts shows all least most = record {
  each = λ n h. subst (λ k. IsTableOf k n (table_at ts n)) (sym all) (record {
    me = (shows n h).me;
    nodes = (shows n h).nodes;
    whole = record {
      width = (shows n h).width;
      named = (shows n h).named;
      migrating = (shows n h).going.from;
      importing = (shows n h).coming.from;
    };
  });
  least = subst (λ k. 1 ≤ k) (sym all) least;
  most = subst (λ k. k ≤ 255) (sym all) most;
}

-- there may be the phase
pub fine : (v : Survey) (s : ℕ) (p : ServerPhase) → IsOrdinary v s p → IsPhase (length v.rows) (modelled p)
fine v s (shown.Strange k) is = absurd is
fine v s (shown.Closed a) is = is.fine
fine v s (shown.Importing a b) is = is.fine
fine v s (shown.Migrating a b) is = is.fine
fine v s (shown.Told a b) is = is.two

pub opened : (v : Survey) (ts : List Table) → AreTablesBelow v 16384 ts → length ts ≡ length v.rows → AreTables ts → AreOrdinary v
    → IsOpened v (survey_by ts)
opened v ts shows all are each = record {
  count = many;
  ordinary = each;
  slots = slots;
  is_open = λ s. elim (cases_lt s 16384) [
    | inl l ↦ (modelled (each s l).0, slots s l (each s l).0 (each s l).1)
    | inr g ↦ closed_beyond (survey_by ts) s (blank_beyond ts (survey_by ts) are refl)
        (subst (λ k. 1 ≤ k) (sym (many ∙ sym all)) are.least) g
  ];
}
  where
    many : length (survey_by ts).rows ≡ length v.rows
    many = length-map ts row ∙ all
      where
        row : Table → Row
        row t = record { owners = t.owners; migrating = t.migrating; importing = t.importing }

    at : (s : ℕ) → s < 16384 → (p : ServerPhase) → IsOrdinary v s p → (m : ℕ) → m < length (survey_by ts).rows
        → m < length ts
    at s l p h m lt = subst (λ k. m < k) (many ∙ sym all) lt

    slots : (s : ℕ) → s < 16384 → (p : ServerPhase) → IsOrdinary v s p → HasPhaseIn (survey_by ts) s (modelled p)
    slots s l p h = record {
      fine = subst (λ k. IsPhase k (modelled p)) (sym many) (fine v s p h);
      owners = λ m lt. ap (λ (r : Row). slice_index r.owners s) (row_shown ts m) ∙ (shows m (at s l p h m lt)).owners.below s l p h;
      going = λ m lt. ap (λ (r : Row). finite.get r.migrating s) (row_shown ts m) ∙ (shows m (at s l p h m lt)).going.below s l p h;
      coming = λ m lt. ap (λ (r : Row). finite.get r.importing s) (row_shown ts m) ∙ (shows m (at s l p h m lt)).coming.below s l p h;
    }
