-- Clean worlds as equations of nodes, and slot by slot.
use Rattle.std.proofs.Common.{◌≡◌, ℕ, ◌<◌, ◌≤◌, cond, eqb, List, length, get_or, None, sym, ap, ◌∙◌, subst, subst₂, arith, inl, inr, nat_cmp}
use Rattle.std.proofs.lemmas.Bool.{cases_lt}
use Rattle.std.proofs.lemmas.List.{ext_get_or, get_or_past}
use Rattle.std.specs.FinMap.{FinMap, get, empty, get-empty, retain_keys, get-retain_keys, same_map, slice_cmp-IsAntisymmetric, nat_cmp-IsAntisymmetric}
use Rattle.std.specs.Cmp.{nat_cmp_total}
use Rattle.std.specs.Cmp.Lexicographic.{nat_list_cmp_total}
use Rattle.std.specs.Prelude.{slice_index}
use Rattle.store_commands.specs.Store.{Key, Store}
use Rattle.key_slots.specs.HashSlot.{slot_of}
use Rattle.cluster_world.specs.Worlds.{World, node_at}
use Rattle.plan_language.specs.declared.plan_command.PlanCommand.{PlanCommand}
use Rattle.cluster_admin.specs.Phases.{Phases}
use Rattle.plan_semantics.specs.Plans.{final_owner, IsFinal}
use Rattle.cluster_world.specs.Cleanness.{Clean, clean_node}
use Rattle.reshard_theorem.proofs.Slotwise.{IsClean}

get_kept : (owners : List ℕ) (store : Store) (m : ℕ) (k : Key) → get (retain_keys store (λ q. eqb (slice_index owners (slot_of q)) m)) k ≡ cond (eqb (slice_index owners (slot_of k)) m) (get store k) None
get_kept owners store m k = get-retain_keys store (λ q. eqb (slice_index owners (slot_of q)) m) k (λ x t. ap (λ q. eqb (slice_index owners (slot_of q)) m) (sym (slice_cmp-IsAntisymmetric nat_cmp-IsAntisymmetric k x t)))

pub by_slots : (w : World) (n : ℕ) (owners : List ℕ) (store : Store) → n ≡ length w.nodes → Clean w owners store → IsClean w n (λ s. slice_index owners s) store
by_slots w n owners store size c = record {
  size = sym size;
  bounded = λ s. subst (λ k. slice_index owners s < k) (sym size) (c.owned s);
  owned = λ m s h. ap (λ x. get_or x.owners s 0) (c.nodes m (subst (λ k. m < k) size h));
  widths = λ m h. ap (λ x. length x.owners) (c.nodes m (subst (λ k. m < k) size h)) ∙ c.width;
  not_migrating = λ m s h. ap (λ x. get x.migrating s) (c.nodes m (subst (λ k. m < k) size h)) ∙ get-empty nat_cmp s;
  not_importing = λ m s h. ap (λ x. get x.importing s) (c.nodes m (subst (λ k. m < k) size h)) ∙ get-empty nat_cmp s;
  entries = λ m k h. ap (λ x. get x.held k) (c.nodes m (subst (λ k. m < k) size h)) ∙ get_kept owners store m k;
}

no_marks : (marks : FinMap nat_cmp ℕ) → ((s : ℕ) → get marks s ≡ None) → marks ≡ empty
no_marks marks none = same_map nat_cmp_total nat_cmp-IsAntisymmetric marks empty (λ s. none s ∙ sym (get-empty nat_cmp s))

pub by_nodes : (w : World) (n : ℕ) (final : List ℕ) (goal : ℕ → ℕ) (store : Store) → length final ≡ 16384 → ((s : ℕ) → slice_index final s ≡ goal s) → IsClean w n goal store → Clean w final store
by_nodes w n final goal store width is c = record {
  width = width;
  owned = λ s. subst₂ (λ t k. t < k) (sym (is s)) (sym c.size) (c.bounded s);
  nodes = λ m h. node m (subst (λ k. m < k) c.size h);
}
  where
    node : (m : ℕ) → m < n → node_at w m ≡ clean_node final store m
    node m h =
        let a : (node_at w m).held ≡ retain_keys store (λ k. eqb (slice_index final (slot_of k)) m) =
        same_map nat_list_cmp_total (slice_cmp-IsAntisymmetric nat_cmp-IsAntisymmetric) _ _ (λ k. c.entries m k h ∙ ap (λ t. cond (eqb t m) (get store k) None) (sym (is (slot_of k))) ∙ sym (get_kept final store m k)) in
        let b : (node_at w m).owners ≡ final = ext_get_or 0 (node_at w m).owners final (c.widths m h ∙ sym width) (λ s i. c.owned m s h ∙ sym (is s)) in
        let d : (node_at w m).migrating ≡ empty = no_marks (node_at w m).migrating (λ s. c.not_migrating m s h) in
        let e : (node_at w m).importing ≡ empty = no_marks (node_at w m).importing (λ s. c.not_importing m s h) in
        λ i. record { held = a i; owners = b i; migrating = d i; importing = e i }

-- past the table both say 0
pub final_is : (w : World) (n : ℕ) (plan : List PlanCommand) (phases : Phases) (final : List ℕ) (store : Store) → IsClean w n (final_owner plan phases) store → IsFinal plan phases final → (s : ℕ) → slice_index final s ≡ final_owner plan phases s
final_is w n plan phases final store c f s = elim (cases_lt s 16384) [
  | inl h ↦ f.owner s h
  | inr h ↦ get_or_past final s 0 (subst (λ l. l ≤ s) (sym f.width) h) ∙ sym (get_or_past (node_at w 0).owners s 0 (subst (λ l. l ≤ s) (sym (c.widths 0 some)) h)) ∙ c.owned 0 s some
]
  where
    some : 0 < n
    some = let h : final_owner plan phases s < n = c.bounded s in omega arith
