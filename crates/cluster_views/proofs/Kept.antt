-- The rows of a survey that was told, one after the other, and what it shows of them.
use Rattle.std.proofs.Common.{◌≡◌, ℕ, ◌+◌, ◌<◌, ◌≤◌, List, [], ◌∷◌, ◌++◌, length, get_or, None, nat_cmp, arith, sym}
use Rattle.std.proofs.Common.{refl}
use Rattle.std.proofs.Common.{ap, ◌∙◌, subst, inl, inr}
use Rattle.std.proofs.lemmas.Bool.{cases_eq, cases_lt}
use Rattle.std.proofs.lemmas.List.{get_or_append_left, get_or_past}
use Rattle.std.proofs.Math.ListN.{get_or-map}
use Rattle.std.specs.FinMap as finite
use Rattle.std.specs.FinMap.{get-empty}
use Rattle.cluster_admin.specs.Surveys.{IsBlankBeyond, Row, Survey, row_at}
use Rattle.cluster_views.specs.Rows.{AreRows, IsWhole, blank_row, kept_at, row_of, survey_by}
use Rattle.cluster_views.specs.declared.server_row.ServerRow.{ServerRow}

-- the survey's rows are those that are kept
pub row_shown : (rs : List ServerRow) (n : ℕ) → row_at (survey_by rs) n ≡ row_of (kept_at rs n)
row_shown rs n = get_or-map row_of rs n blank_row

-- past the last slot nothing is said
pub blank_beyond : (rs : List ServerRow) (v : Survey) → AreRows rs → survey_by rs ≡ v → IsBlankBeyond v
blank_beyond rs v are is = subst IsBlankBeyond is (record {
  owners = λ n s h. ap (λ (r : Row). get_or r.owners s 0) (row_shown rs n)
      ∙ by n (λ r. get_or r.owners.owners s 0 ≡ 0)
      (λ r w. get_or_past r.owners.owners s 0 (subst (λ l. l ≤ s) (sym w.width) h)) refl;
  migrating = λ n s h. ap (λ (r : Row). finite.get r.migrating s) (row_shown rs n)
      ∙ by n (λ r. finite.get r.migrating s ≡ None) (λ r w. w.migrating s h) (get-empty nat_cmp s);
  importing = λ n s h. ap (λ (r : Row). finite.get r.importing s) (row_shown rs n)
      ∙ by n (λ r. finite.get r.importing s ≡ None) (λ r w. w.importing s h) (get-empty nat_cmp s);
})
  where
    by : (n : ℕ) (P : ServerRow → Type 0) → ((r : ServerRow) → IsWhole (length rs) r → P r) → P blank_row
        → P (kept_at rs n)
    by n P each past = elim (cases_lt n (length rs)) [
      | inl h ↦ each (kept_at rs n) (are.each n h)
      | inr h ↦ subst P (sym (get_or_past rs n blank_row h)) past
    ]

-- ---- one row more

last_there : (rs : List ServerRow) (r : ServerRow) → kept_at (rs ++ r ∷ []) (length rs) ≡ r
last_there [] r = refl
last_there (x ∷ rs) r = last_there rs r

-- what holds of the rows before, and of the next one, holds of all of them
pub one_kept : (P : ℕ → ServerRow → Type 0) (rs rs' : List ServerRow) (r : ServerRow) (count : ℕ) → rs' ≡ rs ++ r ∷ []
    → length rs ≡ count → ((n : ℕ) → n < count → P n (kept_at rs n)) → P count r
    → (n : ℕ) → n < count + 1 → P n (kept_at rs' n)
one_kept P rs rs' r count is many before last n h =
    subst (λ xs. P n (kept_at xs n)) (sym is) (elim (cases_eq n count) [
      | inl e ↦ subst (λ k. P k (kept_at (rs ++ r ∷ []) k)) (sym e)
          (subst (λ k. P k (kept_at (rs ++ r ∷ []) k)) many
          (subst (P (length rs)) (sym (last_there rs r)) (subst (λ k. P k r) (sym many) last)))
      | inr e ↦ (
          let l : n < length rs = omega arith in
          subst (P n) (sym (get_or_append_left rs (r ∷ []) blank_row n l)) (before n (omega arith)))
    ])
