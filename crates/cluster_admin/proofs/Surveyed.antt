-- Tables that were copied one after the other, and the survey that they are.
use Rattle.std.proofs.Common.{◌≡◌, ℕ, ◌<◌, ◌≤◌, List, [], ◌∷◌, ◌++◌, length, map, get_or, None, nat_cmp, arith, sym}
use Rattle.std.proofs.Common.{refl, ap, ◌∙◌, subst, inl, inr}
use Rattle.std.proofs.lemmas.Bool.{cases_eq, cases_lt}
use Rattle.std.proofs.lemmas.List.{get_or_append_left, get_or_past, get_or-replicate, ext_get_or, length-append}
use Rattle.std.proofs.lemmas.List.{length-map}
use Rattle.std.proofs.Math.ListN.{get_or-map}
use Rattle.std.specs.FinMap as finite
use Rattle.std.specs.FinMap.{get-empty}
use Rattle.std.specs.List.{All}
use Rattle.key_slots.specs.Owners.{Owners}
use Rattle.slot_marks.specs.Tables.{Table}
use Rattle.cluster_admin.specs.Surveys.{Row, Survey, closed_row, closed_survey, row_at, IsBlankBeyond, row_of_table}
use Rattle.cluster_admin.specs.Surveys.{IsWhole, blank_table, table_at, IsTableOf, AreFirstTables, AreTables, survey_by}

-- the rows are those of the tables
pub row_shown : (ts : List Table) (n : ℕ) → row_at (survey_by ts) n ≡ row_of_table (table_at ts n)
row_shown ts n = get_or-map row_of_table ts n blank_table

-- past the last slot nothing is said
pub blank_beyond : (ts : List Table) (v : Survey) → AreTables ts → survey_by ts ≡ v → IsBlankBeyond v
blank_beyond ts v are is = subst IsBlankBeyond is (record {
  owners = λ n s h. ap (λ (r : Row). get_or r.owners s 0) (row_shown ts n) ∙ by n (λ t. get_or t.owners s 0 ≡ 0)
      (λ t w. get_or_past t.owners s 0 (subst (λ l. l ≤ s) (sym w.width) h)) refl;
  migrating = λ n s h. ap (λ (r : Row). finite.get r.migrating s) (row_shown ts n) ∙ by n (λ t. finite.get t.migrating s ≡ None)
      (λ t w. w.migrating s h) (get-empty nat_cmp s);
  importing = λ n s h. ap (λ (r : Row). finite.get r.importing s) (row_shown ts n) ∙ by n (λ t. finite.get t.importing s ≡ None)
      (λ t w. w.importing s h) (get-empty nat_cmp s);
})
  where
    by : (n : ℕ) (P : Table → Type 0) → ((t : Table) → IsWhole t → P t) → P blank_table → P (table_at ts n)
    by n P each past = elim (cases_lt n (length ts)) [
      | inl h ↦ each (table_at ts n) (are.each n h).whole
      | inr h ↦ subst P (sym (get_or_past ts n blank_table h)) past
    ]

-- the tables so far are those of the first nodes, whose rows they show
pub record Copied (count : ℕ) (rows : ℕ → Row) (ts : List Table) : Type 0 where
  pub tables : AreFirstTables count ts
  pub shown : (n : ℕ) → n < length ts → row_of_table (table_at ts n) ≡ rows n

pub none_copied : (count : ℕ) (rows : ℕ → Row) (ts : List Table) → ts ≡ [] → Copied count rows ts
none_copied count rows ts none = subst (Copied count rows) (sym none) (record {
  tables = λ n h. absurd (omega (arith, h));
  shown = λ n h. absurd (omega (arith, h));
})

last_there : (ts : List Table) (t : Table) → table_at (ts ++ t ∷ []) (length ts) ≡ t
last_there [] t = refl
last_there (x ∷ ts) t = last_there ts t

pub one_copied : (count : ℕ) (rows : ℕ → Row) (ts ts' : List Table) (t : Table) → Copied count rows ts → ts' ≡ ts ++ t ∷ []
    → IsTableOf count (length ts) t → row_of_table t ≡ rows (length ts) → Copied count rows ts'
one_copied count rows ts ts' t far is of shows = subst (Copied count rows) (sym is) (record {
  tables = λ n h. at (λ k u. IsTableOf count k u) n h far.tables of;
  shown = λ n h. at (λ k u. row_of_table u ≡ rows k) n h far.shown shows;
})
  where
    at : (P : ℕ → Table → Type 0) (n : ℕ) → n < length (ts ++ t ∷ []) → ((k : ℕ) → k < length ts → P k (table_at ts k)) → P (length ts) t
        → P n (table_at (ts ++ t ∷ []) n)
    at P n h before last = elim (cases_eq n (length ts)) [
      | inl e ↦ subst (λ k. P k (table_at (ts ++ t ∷ []) k)) (sym e) (subst (P (length ts)) (sym (last_there ts t)) last)
      | inr e ↦ (let l : n < length ts = omega (arith, h, e, length-append ts (t ∷ [])) in
          subst (P n) (sym (get_or_append_left ts (t ∷ []) blank_table n l)) (before n l))
    ]

-- all of them
pub all_copied : (count : ℕ) (rows : ℕ → Row) (ts : List Table) → Copied count rows ts → length ts ≡ count → 1 ≤ count → count ≤ 255 → AreTables ts
all_copied count rows ts far all least most = record {
  each = subst (λ k. AreFirstTables k ts) (sym all) far.tables;
  least = subst (λ k. 1 ≤ k) (sym all) least;
  most = subst (λ k. k ≤ 255) (sym all) most;
}

pub survey_copied : (count : ℕ) (rows : ℕ → Row) (ts : List Table) (v : Survey) → Copied count rows ts → length ts ≡ count
    → length v.rows ≡ count → ((n : ℕ) → n < count → rows n ≡ row_at v n) → survey_by ts ≡ v
survey_copied count rows ts v far all many shows = ap (λ rs. record { rows = rs })
    (ext_get_or (closed_row []) (map row_of_table ts) v.rows (length-map ts row_of_table ∙ all ∙ sym many)
    (λ n h. let l : n < length ts = subst (λ k. n < k) (length-map ts row_of_table) h in
    row_shown ts n ∙ far.shown n l ∙ shows n (subst (λ k. n < k) all l)))

pub closed_at : (count : ℕ) (owners : List ℕ) (n : ℕ) → n < count → closed_row owners ≡ row_at (closed_survey count owners) n
closed_at count owners n h = sym (get_or-replicate count n (closed_row owners) (closed_row []) h)

-- a table without marks
pub closed_copied : (o copy : Owners) (i me : ℕ) (t : Table) (ts ts' : List Table) → length ts ≡ i
    → Copied o.nodes (λ n. closed_row o.owners) ts → ts' ≡ ts ++ t ∷ [] → me ≡ i → copy ≡ o
    → t ≡ record { me = me; nodes = copy.nodes; owners = copy.owners; migrating = finite.empty; importing = finite.empty }
    → length o.owners ≡ 16384 → All (λ n. n < o.nodes) o.owners → Copied o.nodes (λ n. closed_row o.owners) ts'
closed_copied o copy i me t ts ts' far_is far is at same from width named =
    one_copied o.nodes (λ n. closed_row o.owners) ts ts' t far is
    (record { me = ap (λ u. u.me) from ∙ at ∙ sym far_is; nodes = ap (λ u. u.nodes) from ∙ ap (λ p. p.nodes) same; whole = whole })
    (ap row_of_table from ∙ ap (λ p. closed_row p.owners) same)
  where
    table : t ≡ record { me = me; nodes = o.nodes; owners = o.owners; migrating = finite.empty; importing = finite.empty }
    table = from ∙ ap (λ (p : Owners). record { me = me; nodes = p.nodes; owners = p.owners; migrating = finite.empty; importing = finite.empty }) same

    whole : IsWhole t
    whole = subst IsWhole (sym table) (record {
      width = width;
      named = named;
      migrating = λ s h. get-empty nat_cmp s;
      importing = λ s h. get-empty nat_cmp s;
    })
