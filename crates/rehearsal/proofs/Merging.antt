-- A world whose nodes agree and have no mark, and where each key lies at its owner, is clean: the store is what all
-- nodes hold together.
use Rattle.std.proofs.Common.{◌≡◌, ◌≢◌, ℕ, zero, suc, ◌<◌, ◌≤◌, cond, ◌&&◌, length}
use Rattle.std.proofs.Common.{Option, Some, None, is_some, refl, sym, ap, ◌∙◌, subst, inl, inr, arith, nat_cmp}
use Rattle.std.specs.Prelude.{slice_index}
use Rattle.std.specs.FinMap as finite
use Rattle.std.specs.FinMap.{get, get-empty, same_map, slice_cmp-IsAntisymmetric, nat_cmp-IsAntisymmetric}
use Rattle.std.specs.Cmp.Lexicographic.{nat_list_cmp_total}
use Rattle.std.proofs.lemmas.Bool.{cases_eq, cases_lt, cond-true, cond-false, ne_eqb, eq-eqb}
use Rattle.std.proofs.lemmas.List.{get_or_past}
use Rattle.key_slots.specs.HashSlot.{slot_of}
use Rattle.key_slots.specs.Owners.{Owners, IsTable}
use Rattle.typed_values.specs.declared.value.Value.{Value}
use Rattle.store_commands.specs.Store.{Key, Store, is_named, order}
use Rattle.slot_keyspace.specs.Batches.{batch_of, with_entries}
use Rattle.slot_keyspace.proofs.Standing.{get-with_batch}
use Rattle.cluster_world.specs.Worlds.{World, held, node_at}
use Rattle.cluster_world.specs.Cleanness.{Clean, IsUnmarked, clean_node}
use Rattle.cluster_world.proofs.Cleanly.{get-share, share}
use Rattle.reshard_theorem.proofs.Listing.{get-named}
use Rattle.reshard_theorem.proofs.Opens.{clean_is_open}
use Rattle.rehearsal.specs.ArmedPlans.{UnmarkedIsClean, UnmarkedIsOpen}
use Rattle.rehearsal.proofs.AtHome.{AtHome, trail_home}

-- ---- what the first so many nodes hold

abbrev merged : World → ℕ → Store
merged w zero = finite.empty
merged w (suc n) =
    with_entries (merged w n) (batch_of (node_at w n).held (finite.keys (node_at w n).held))

put_over : (o rest : Option Value) → cond (is_some o && is_some o) o rest ≡ cond (is_some o) o rest
put_over None rest = refl
put_over (Some v) rest = refl

get-merged : (w : World) (n : ℕ) (k : Key)
    → get (merged w (suc n)) k ≡ cond (is_some (held w n k)) (held w n k) (get (merged w n) k)
get-merged w n k =
    get-with_batch (merged w n) (node_at w n).held (finite.keys (node_at w n).held) k
    ∙ ap (λ b. cond (b && is_some (held w n k)) (held w n k) (get (merged w n) k))
    (sym (get-named (node_at w n).held k))
    ∙ put_over (held w n k) (get (merged w n) k)

-- where the key lies at one node alone
module _ (w : World) (k : Key) (home count : ℕ) (alone : (m : ℕ) → m < count → m ≢ home → held w m k ≡ None) where
  not_there : (n : ℕ) → n ≤ count → n ≤ home → get (merged w n) k ≡ None
  not_there zero h g = get-empty order k
  not_there (suc n) h g =
      get-merged w n k
      ∙ ap (λ o. cond (is_some o) o (get (merged w n) k)) (alone n (omega arith) (apart n g))
      ∙ not_there n (omega arith) (omega arith)
    where
      apart : (n : ℕ) → suc n ≤ home → n ≢ home
      apart n g e = omega arith

  kept_or : (o : Option Value) → cond (is_some o) o None ≡ o
  kept_or None = refl
  kept_or (Some v) = refl

  there : (n : ℕ) → n ≤ count → home < n → get (merged w n) k ≡ held w home k
  there zero h g = absurd (omega arith)
  there (suc n) h g = elim (cases_eq n home) [
    | inl e ↦ get-merged w n k
        ∙ ap (cond (is_some (held w n k)) (held w n k)) (not_there n (omega arith) (omega (arith, e)))
        ∙ kept_or (held w n k) ∙ ap (λ m. held w m k) e
    | inr e ↦ get-merged w n k
        ∙ ap (λ o. cond (is_some o) o (get (merged w n) k)) (alone n (omega arith) e)
        ∙ there n (omega arith) (below n g e)
  ]
    where
      below : (n : ℕ) → home < suc n → n ≢ home → home < n
      below n g e = elim (cases_lt home n) [ inl h ↦ h | inr h ↦ absurd (e (omega arith)) ]

-- ---- a clean world

some_none : (v : Value) → ◌≡◌ {A = Option Value} (Some v) None → ⊥
some_none v e = cc

module _ (w : World) (o : Owners) (table : IsTable o) (u : IsUnmarked w o) (all : AtHome w) where
  owner_there : (s : ℕ) → slice_index o.owners s < length w.nodes
  owner_there s = subst (λ n. slice_index o.owners s < n) (sym u.count) (elim (cases_lt s (length o.owners)) [
    | inl h ↦ table.named s 0 h
    | inr h ↦ subst (λ x. x < o.nodes) (sym (get_or_past o.owners s 0 h)) table.some
  ])

  -- a key lies at its owner or nowhere
  alone : (k : Key) (m : ℕ) → m < length w.nodes → m ≢ slice_index o.owners (slot_of k) → held w m k ≡ None
  alone k m h apart = by (held w m k) refl
    where
      lies : held w m k ≢ None → ⊥
      lies some = elim ((all m h).home k some) [
        | inl own ↦ apart (sym own ∙ ap (λ os. slice_index os (slot_of k)) (u.nodes m h).owners_are)
        | inr mark ↦ mark (ap (λ ms. get ms (slot_of k)) (u.nodes m h).not_importing ∙ get-empty nat_cmp (slot_of k))
      ]

      by : (v : Option Value) → held w m k ≡ v → v ≡ None
      by None e = refl
      by (Some v) e = absurd (lies (λ none. absurd (some_none v (sym e ∙ none))))

  abbrev store : Store
  store = merged w (length w.nodes)

  same_held : (m : ℕ) → m < length w.nodes → (node_at w m).held ≡ share o.owners store m
  same_held m h = same_map nat_list_cmp_total (slice_cmp-IsAntisymmetric nat_cmp-IsAntisymmetric) _ _ at
    where
      at : (k : Key) → held w m k ≡ get (share o.owners store m) k
      at k =
          let home = slice_index o.owners (slot_of k) in
          let is : get store k ≡ held w home k =
          there w k home (length w.nodes) (alone k) (length w.nodes) (omega arith) (owner_there (slot_of k)) in
          elim (cases_eq home m) [
            | inl e ↦
                let here = ap (λ n. held w n k) e in
                sym (get-share o.owners store m k ∙ cond-true _ _ _ (eq-eqb home m e) ∙ is ∙ here)
            | inr e ↦
                alone k m h (λ f. e (sym f))
                ∙ sym (get-share o.owners store m k ∙ cond-false _ _ _ (ne_eqb home m e))
          ]

  clean : Clean w o.owners store
  clean = record {
    width = table.width;
    owned = owner_there;
    nodes = λ m h. node m h;
  }
    where
      node : (m : ℕ) → m < length w.nodes → node_at w m ≡ clean_node o.owners store m
      node m h =
          let a = same_held m h in
          let b = (u.nodes m h).owners_are in
          let c = (u.nodes m h).not_migrating in
          let d = (u.nodes m h).not_importing in
          λ i. record { held = a i; owners = b i; migrating = c i; importing = d i }

pub unmarked_is_clean : UnmarkedIsClean
unmarked_is_clean r o k none table u =
    (store r.world o table u (trail_home r k none), clean r.world o table u (trail_home r k none))

-- in a closed slot anything may have been asked before
pub unmarked_is_open : UnmarkedIsOpen
unmarked_is_open r o k none table u =
    let c = unmarked_is_clean r o k none table u in
    let opened = clean_is_open r.world o.owners c.0 c.1 in (
      c.0,
      record {
        widths = opened.widths;
        slots = λ s. record { has = (opened.slots s).has; place = (opened.slots s).place; asked = λ ks m v one at. tt };
        split = opened.split;
      },
    )
