-- Rows of places, after one of them changed.
use Rattle.std.proofs.Common.{◌≡◌, ℕ, zero, suc, ◌<◌, ◌≤◌, Bool, true, false, cond, eqb, ◌&&◌, List, [], ◌∷◌, ◌++◌, length, Option, Some, None, sym, refl, ap, ◌∙◌}
use Rattle.std.proofs.Common.{subst, inl, inr}
use Rattle.std.specs.Prelude.{slice_set, slice_index_or}
use Rattle.std.proofs.lemmas.Bool.{cases_eq, cases_lt, ne_eqb, eq-eqb}
use Rattle.std.proofs.lemmas.List.{get_or-set_same, get_or-set_other, get_or-replicate, get_or_past, length-replicate}
use Rattle.std.proofs.Math.ListN.{replicate}
use Rattle.cluster_admin.specs.declared.admin.AdminCommand.{AdminCommand}
use Rattle.cluster_admin.specs.declared.admin.AdminCommand.TheVariants.{Importing, SetNode, Stable}
use Rattle.cluster_admin.specs.declared.admin.AdminReply.TheVariants as reply
use Rattle.cluster_world.specs.declared.event.Event.TheVariants.{Admin}
use Rattle.cluster_world.specs.Earning.{imports}
use Rattle.cluster_world.specs.Imported.{Places, since_in, dated}

-- a row's place at a slot changes, and the others stay
place_set : (row : Places) (s : ℕ) (v : Option ℕ) (t : ℕ) → s < length row
    → slice_index_or (slice_set row s v) t None ≡ cond (eqb t s) v (slice_index_or row t None)
place_set row s v t h = elim (cases_eq t s) [
  | inl e ↦ subst (λ k. slice_index_or (slice_set row s v) k None ≡ cond (eqb k s) v (slice_index_or row k None)) (sym e)
      (get_or-set_same row s v None h ∙ ap (λ b. cond b v (slice_index_or row s None)) (sym (eq-eqb s s refl)))
  | inr e ↦ get_or-set_other row s t v None e ∙ ap (λ b. cond b v (slice_index_or row t None)) (sym (ne_eqb t s e))
]

-- one row changes so
row_set : (rows : List Places) (x s : ℕ) (v : Option ℕ) (n t : ℕ) → x < length rows → s < length (slice_index_or rows x [])
    → since_in (slice_set rows x (slice_set (slice_index_or rows x []) s v)) n t ≡ cond (eqb n x && eqb t s) v (since_in rows n t)
row_set rows x s v n t inside slot = elim (cases_eq n x) [
  | inl u ↦ subst (λ k. since_in (slice_set rows x row) k t ≡ cond (eqb k x && eqb t s) v (since_in rows k t)) (sym u)
      (ap (λ y. slice_index_or y t None) (get_or-set_same rows x row [] inside)
      ∙ place_set (slice_index_or rows x []) s v t slot
      ∙ ap (λ c. cond (c && eqb t s) v (since_in rows x t)) (sym (eq-eqb x x refl)))
  | inr u ↦ ap (λ y. slice_index_or y t None) (get_or-set_other rows x n row [] u)
      ∙ ap (λ c. cond (c && eqb t s) v (since_in rows n t)) (sym (ne_eqb n x u))
]
  where
    row : Places
    row = slice_set (slice_index_or rows x []) s v

module _ (rows new : List Places) (i x s : ℕ) (inside : x < length rows) (slot : s < length (slice_index_or rows x [])) where
  pub import_noted : (m : ℕ) (c : AdminCommand) → c ≡ Importing s m
      → new ≡ slice_set rows x (slice_set (slice_index_or rows x []) s (Some i))
      → (n t : ℕ) → since_in new n t ≡ imports (since_in rows) (dated i (Admin x c reply.Ok)) n t
  import_noted m c is e n t =
      ap (λ r. since_in r n t) e
      ∙ row_set rows x s (Some i) n t inside slot
      ∙ ap (λ k. imports (since_in rows) (dated i (Admin x k reply.Ok)) n t) (sym is)

  pub owner_noted : (m : ℕ) (c : AdminCommand) → c ≡ SetNode s m → m ≡ x
      → new ≡ slice_set rows x (slice_set (slice_index_or rows x []) s None)
      → (n t : ℕ) → since_in new n t ≡ imports (since_in rows) (dated i (Admin x c reply.Ok)) n t
  owner_noted m c is own e n t =
      ap (λ r. since_in r n t) e
      ∙ row_set rows x s None n t inside slot
      ∙ three (eqb n x) (eqb t s) (eqb m x) (since_in rows n t) (eq-eqb m x own)
      ∙ ap (λ k. imports (since_in rows) (dated i (Admin x k reply.Ok)) n t) (sym is)
    where
      three : (a b c : Bool) (v : Option ℕ) → c ≡ true → cond (a && b) None v ≡ cond (a && b && c) None v
      three true true c v e = ap (λ d. cond d None v) (sym e)
      three true false c v e = refl
      three false b c v e = refl

  pub stable_noted : (c : AdminCommand) → c ≡ Stable s
      → new ≡ slice_set rows x (slice_set (slice_index_or rows x []) s None)
      → (n t : ℕ) → since_in new n t ≡ imports (since_in rows) (dated i (Admin x c reply.Ok)) n t
  stable_noted c is e n t =
      ap (λ r. since_in r n t) e
      ∙ row_set rows x s None n t inside slot
      ∙ ap (λ k. imports (since_in rows) (dated i (Admin x k reply.Ok)) n t) (sym is)

-- ---- rows without a place

-- one row more
pub blank_more : (rows : List Places) (row : Places) → ((n s : ℕ) → since_in rows n s ≡ None) → ((s : ℕ) → slice_index_or row s None ≡ None)
    → (n s : ℕ) → since_in (rows ++ row ∷ []) n s ≡ None
blank_more [] row none blank zero s = blank s
blank_more [] row none blank (suc n) s = none n s
blank_more (r ∷ rows) row none blank zero s = none zero s
blank_more (r ∷ rows) row none blank (suc n) s = blank_more rows row (λ m t. none (suc m) t) blank n s

pub none_everywhere : (w s : ℕ) → slice_index_or (replicate w (let o : Option ℕ = None in o)) s None ≡ None
none_everywhere w s = elim (cases_lt s w) [
  | inl h ↦ get_or-replicate w s None None h
  | inr h ↦ get_or_past _ s None (subst (λ l. l ≤ s) (sym (length-replicate w None)) h)
]
