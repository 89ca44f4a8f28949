-- A node's table, on which its marks are put slot by slot.
use Rattle.std.proofs.Common.{◌≡◌, ◌≢◌, ℕ, ◌+◌, ◌<◌, ◌≤◌, List, [], length, map}
use Rattle.std.proofs.Common.{Option, None, Some, nat_cmp, inl, inr, refl, sym, ap, ◌∙◌, arith}
use Rattle.std.proofs.lemmas.Bool.{cases_lt, eq-eqb, ne_eqb}
use Rattle.std.proofs.lemmas.List.{ext_get_or, length-map}
use Rattle.std.specs.Cmp.{nat_cmp_total}
use Rattle.std.specs.FinMap as finite
use Rattle.std.specs.FinMap.{get-empty, nat_cmp-IsAntisymmetric, same_map}
use Rattle.std.specs.List.{All}
use Rattle.slot_marks.specs.Tables.{Marks, Table}
use Rattle.cluster_admin.specs.Surveys.{IsBlankBeyond, IsTableOf, Row, Survey, closed_row, importing_at, migrating_at}
use Rattle.cluster_admin.specs.Surveys.{row_at, row_of_table, survey_by}
use Rattle.cluster_admin.proofs.Surveyed.{Copied, row_shown}
use Rattle.cluster_views.specs.Rows.{with_coming, with_going}
use Rattle.cluster_views.proofs.Marking.{inserted}

-- the marks of the slots before i, as others tell them
pub record MarkedTo (told : ℕ → Option ℕ) (i : ℕ) (m : Marks) : Type 0 where
  pub below : (s : ℕ) → s < i → finite.get m s ≡ told s
  pub from : (s : ℕ) → i ≤ s → finite.get m s ≡ None

pub none_marked : (told : ℕ → Option ℕ) (m : Marks) → m ≡ finite.empty → MarkedTo told 0 m
none_marked told m e = record {
  below = λ s lt. absurd (omega arith);
  from = λ s le. ap (λ (n : Marks). finite.get n s) e ∙ get-empty nat_cmp s;
}

-- the slot i has no mark
pub one_unmarked : (told : ℕ → Option ℕ) (i : ℕ) (m : Marks) → MarkedTo told i m → told i ≡ None → MarkedTo told (i + 1) m
one_unmarked told i m before none = record {
  below = λ s lt. elim (cases_lt s i) [
    | inl less ↦ before.below s less
    | inr ge ↦ (let e : s ≡ i = omega arith in before.from s ge ∙ sym none ∙ ap told (sym e))
  ];
  from = λ s le. before.from s (omega arith);
}

-- the slot i has this mark
pub one_marked : (told : ℕ → Option ℕ) (i v : ℕ) (m : Marks) → MarkedTo told i m → told i ≡ Some v
    → MarkedTo told (i + 1) (finite.insert m i v)
one_marked told i v m before some = record {
  below = λ s lt. elim (cases_lt s i) [
    | inl less ↦ (let ne : s ≢ i = omega arith in rw (inserted m i v s, ne_eqb s i ne) (before.below s less))
    | inr ge ↦ (let e : s ≡ i = omega arith in rw (inserted m i v s, eq-eqb s i e) (sym some ∙ ap told (sym e)))
  ];
  from = λ s le. (let ne : s ≢ i = omega arith in rw (inserted m i v s, ne_eqb s i ne) (before.from s (omega arith)));
}

-- all marks are there
pub all_marked : (told : ℕ → Option ℕ) (i : ℕ) (m k : Marks) → MarkedTo told i m
    → ((s : ℕ) → finite.get k s ≡ told s) → ((s : ℕ) → i ≤ s → finite.get k s ≡ None) → m ≡ k
all_marked told i m k marked shows beyond =
    same_map nat_cmp_total nat_cmp-IsAntisymmetric m k (λ s. elim (cases_lt s i) [
      | inl less ↦ marked.below s less ∙ sym (shows s)
      | inr ge ↦ marked.from s ge ∙ sym (beyond s ge)
    ])

-- ---- the table

pub record MarkedTable (v : Survey) (n i : ℕ) (t : Table) : Type 0 where
  pub me : t.me ≡ n
  pub nodes : t.nodes ≡ length v.rows
  pub owners : t.owners ≡ (row_at v n).owners
  pub going : MarkedTo (migrating_at v n) i t.migrating
  pub coming : MarkedTo (importing_at v n) i t.importing

pub new_table : (v : Survey) (n : ℕ) (t : Table) → t.me ≡ n → t.nodes ≡ length v.rows → t.owners ≡ (row_at v n).owners
    → t.migrating ≡ finite.empty → t.importing ≡ finite.empty → MarkedTable v n 0 t
new_table v n t me nodes owners going coming = record {
  me = me;
  nodes = nodes;
  owners = owners;
  going = none_marked (migrating_at v n) t.migrating going;
  coming = none_marked (importing_at v n) t.importing coming;
}

-- both marks of a slot were put there
pub slot_marked : (v : Survey) (n i : ℕ) (t : Table) → MarkedTable v n i t
    → MarkedTable v n (i + 1) (with_coming (with_going t i (migrating_at v n i)) i (importing_at v n i))
slot_marked v n i t before = by (migrating_at v n i) (importing_at v n i) refl refl
  where
    by : (o p : Option ℕ) → migrating_at v n i ≡ o → importing_at v n i ≡ p
        → MarkedTable v n (i + 1) (with_coming (with_going t i o) i p)
    by None None a b = record {
      me = before.me;
      nodes = before.nodes;
      owners = before.owners;
      going = one_unmarked (migrating_at v n) i t.migrating before.going a;
      coming = one_unmarked (importing_at v n) i t.importing before.coming b;
    }
    by (Some m) None a b = record {
      me = before.me;
      nodes = before.nodes;
      owners = before.owners;
      going = one_marked (migrating_at v n) i m t.migrating before.going a;
      coming = one_unmarked (importing_at v n) i t.importing before.coming b;
    }
    by None (Some k) a b = record {
      me = before.me;
      nodes = before.nodes;
      owners = before.owners;
      going = one_unmarked (migrating_at v n) i t.migrating before.going a;
      coming = one_marked (importing_at v n) i k t.importing before.coming b;
    }
    by (Some m) (Some k) a b = record {
      me = before.me;
      nodes = before.nodes;
      owners = before.owners;
      going = one_marked (migrating_at v n) i m t.migrating before.going a;
      coming = one_marked (importing_at v n) i k t.importing before.coming b;
    }

-- all marks are there, so it is the node's row
pub table_whole : (v : Survey) (n : ℕ) (t : Table) → MarkedTable v n 16384 t → IsBlankBeyond v
    → length t.owners ≡ 16384 → All (λ m. m < t.nodes) t.owners
    → IsTableOf (length v.rows) n t × (row_of_table t ≡ row_at v n)
table_whole v n t marked blank width named =
    let going : t.migrating ≡ (row_at v n).migrating =
    all_marked (migrating_at v n) 16384 t.migrating (row_at v n).migrating marked.going (λ s. refl) (blank.migrating n) in
    let coming : t.importing ≡ (row_at v n).importing =
    all_marked (importing_at v n) 16384 t.importing (row_at v n).importing marked.coming (λ s. refl) (blank.importing n) in (
      record {
        me = marked.me;
        nodes = marked.nodes;
        whole = record { width = width; named = named; migrating = marked.going.from; importing = marked.coming.from };
      },
      row_is t.owners (row_at v n).owners t.migrating (row_at v n).migrating t.importing (row_at v n).importing
          marked.owners going coming,
    )
  where
    row : List ℕ → Marks → Marks → Row
    row os going coming = record { owners = os; migrating = going; importing = coming }

    row_is : (a b : List ℕ) (c d e f : Marks) → a ≡ b → c ≡ d → e ≡ f
        → row a c e ≡ row b d f
    row_is a b c d e f p q r =
        ap (λ (x : List ℕ). row x c e) p ∙ ap (λ (x : Marks). row b x e) q ∙ ap (λ (x : Marks). row b d x) r

-- ---- the tables of all nodes

pub tables_are : (v : Survey) (ts : List Table) → Copied (length v.rows) (row_at v) ts → length ts ≡ length v.rows
    → survey_by ts ≡ v
tables_are v ts copied all =
    let rows : map row_of_table ts ≡ v.rows =
    ext_get_or (closed_row []) (map row_of_table ts) v.rows (length-map ts row_of_table ∙ all)
    (λ n lt. row_shown ts n ∙ copied.shown n (omega (arith, length-map ts row_of_table))) in
    ap (λ (rs : List Row). record { rows = rs }) rows
