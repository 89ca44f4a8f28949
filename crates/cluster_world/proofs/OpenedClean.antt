-- A cluster that was just opened is clean.
use Rattle.std.proofs.Common.{◌≡◌, ℕ, ◌<◌, Bool, true, false, cond, List, length, Option, None, get_or, sym, refl, ◌∙◌, subst, inl, inr}
use Rattle.std.proofs.lemmas.Bool.{cases_lt}
use Rattle.std.proofs.lemmas.List.{get_or-replicate, length-replicate, get_or_past}
use Rattle.std.specs.FinMap as finite
use Rattle.std.specs.FinMap.{get, get-empty, same_map, slice_cmp-IsAntisymmetric, nat_cmp-IsAntisymmetric}
use Rattle.std.specs.Cmp.Lexicographic.{nat_list_cmp_total}
use Rattle.key_slots.specs.Owners.{Owners, IsTable}
use Rattle.typed_values.specs.declared.value.Value.{Value}
use Rattle.store_commands.specs.Store.{Key, Store, order}
use Rattle.cluster_node.specs.Nodes.{blank}
use Rattle.cluster_world.specs.WorldView.{new_node}
use Rattle.cluster_world.specs.Cleanness.{clean_node, OpenedIsClean}
use Rattle.cluster_world.proofs.Cleanly.{share, get-share}

abbrev no_store : Store
no_store = finite.empty

nothing_chosen : (b : Bool) (v : Option Value) → v ≡ None → cond b v None ≡ v
nothing_chosen true v e = refl
nothing_chosen false v e = sym e

share_of_nothing : (owners : List ℕ) (m : ℕ) → no_store ≡ share owners no_store m
share_of_nothing owners m = sym (same_map nat_list_cmp_total (slice_cmp-IsAntisymmetric nat_cmp-IsAntisymmetric) _ _ at)
  where
    at : (q : Key) → get (share owners no_store m) q ≡ get no_store q
    at q = get-share owners no_store m q ∙ nothing_chosen _ (get no_store q) (get-empty order q)

fresh_node : (owners : List ℕ) (m : ℕ) → new_node owners ≡ clean_node owners finite.empty m
fresh_node owners m = λ i. record { held = share_of_nothing owners m i; owners = owners; migrating = finite.empty; importing = finite.empty }

owner_there : (o : Owners) → IsTable o → (s : ℕ) → get_or o.owners s 0 < o.nodes
owner_there o t s = elim (cases_lt s (length o.owners)) [
  | inl h ↦ t.named s 0 h
  | inr h ↦ subst (λ x. x < o.nodes) (sym (get_or_past o.owners s 0 h)) t.some
]

pub opened_is_clean : OpenedIsClean
opened_is_clean port o t = record {
  width = t.width;
  owned = λ s. subst (λ k. get_or o.owners s 0 < k) (sym (length-replicate o.nodes (new_node o.owners))) (owner_there o t s);
  nodes = λ m h. get_or-replicate o.nodes m (new_node o.owners) blank (subst (λ k. m < k) (length-replicate o.nodes (new_node o.owners)) h) ∙ fresh_node o.owners m;
}
